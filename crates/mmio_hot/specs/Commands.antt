-- What a write to the message registers 0c0 and 0c2 asks for (01, Messages).
use Rattle.std.specs.Prelude.{Bool, true, false, ℕ, eqb}
use Rattle.words.specs.Pick.{pick}
use Rattle.words.specs.Bits.{bit}
use Rattle.virtq.specs.declared.VectorIndex.{VectorIndex}
use Rattle.dragonball.specs.Messages.{command_of}
use Rattle.mmio_hot.specs.declared.Csr.{Csr}
use Rattle.mmio_hot.specs.declared.Csr.TheVariants.{Locked, Stay, Turn}
use Rattle.mmio_hot.specs.declared.Command.{Command}
use Rattle.mmio_hot.specs.declared.Command.TheVariants.{Update, Mask, Unmask, Other}

-- "0c0: with DRIVER_OK set, FAILED and no more. Else bit 15 on while off asks mode 1 ..; off while on asks mode 0". MSI is
-- not gated by the vendor word.
abbrev pub csr_of : (status v : ℕ) → (msi : Bool) → Csr
csr_of status v msi =
    pick (bit 2 status) Locked (pick (bit 15 v) (pick msi Stay (Turn true)) (pick msi (Turn false) Stay))

abbrev pub vector_number : ℕ → VectorIndex
vector_number n = record { 0 = n }

-- "0c2: code v & 0xf000, argument v & 0x0fff": 0x1000, 0x2000, 0x3000, and other codes
abbrev pub command_at : (v : ℕ) → Command
command_at v =
    pick (eqb (command_of v).code 0x1000) (Update (vector_number (command_of v).argument))
    (pick (eqb (command_of v).code 0x2000) (Mask (vector_number (command_of v).argument))
    (pick (eqb (command_of v).code 0x3000) (Unmask (vector_number (command_of v).argument)) Other))
