use Rattle.std.proofs.Common.{◌≡◌, Bool, true, false, refl}
use mathlib.Core.Bool.{beq}
use Rattle.words.specs.Pick.{pick}
use Rattle.words.proofs.Bits.{masked-bit, bit_found, bit_missed}
use Rattle.mmio_hot.specs.declared.Csr.{Csr}
use Rattle.mmio_hot.specs.declared.Csr.TheVariants.{Stay, Turn}
use Rattle.mmio_hot.proofs.csr_of.Goals as goal

-- what is asked while DRIVER_OK is clear: whether MSI is to be on, and whether it is
abbrev asked : (on msi : Bool) → Csr
asked on msi = pick on (pick msi Stay (Turn true)) (pick msi (Turn false) Stay)

same : (on msi : Bool) → beq on msi ≡ true → Stay ≡ asked on msi
same true true h = refl
same true false h = cc
same false true h = cc
same false false h = refl

other : (on msi : Bool) → beq on msi ≡ false → Turn on ≡ asked on msi
other true true h = cc
other true false h = refl
other false true h = refl
other false false h = cc

pub returns-then-status-ne0 : goal.returns-then-status-ne0
returns-then-status-ne0 c = rw (bit_found 2 c.args.status c.if-status-ne0.true) refl

pub returns-then-on-msi : goal.returns-then-on-msi
returns-then-on-msi c =
    rw (bit_missed 2 c.args.status c.if-status-ne0.false)
    (same _ c.args.msi (rw (masked-bit 15 c.args.v) at c.if-on-msi.true))

pub returns-else-on-msi : goal.returns-else-on-msi
returns-else-on-msi c =
    rw (bit_missed 2 c.args.status c.if-status-ne0.false, masked-bit 15 c.args.v)
    (other _ c.args.msi (rw (masked-bit 15 c.args.v) at c.if-on-msi.false))
