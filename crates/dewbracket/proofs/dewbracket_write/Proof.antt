-- `mmio_lent`'s walk of a write, at the step.
use mathlib.Core.Path.{◌≡◌, sym, ap, refl}
use mathlib.Core.List.{List}
use Prim.Native.Nat.{ℕ}
use lib.ListN.{length}
use Rattle.tape.specs.Play.{laid}
use Rattle.mmio_v2.specs.Fresh.{device}
use Rattle.mmio_v2.specs.Operation.{Write}
use Rattle.mmio_v2.specs.Step.{Outcome, step}
use Rattle.mmio_v2.specs.declared.MmioV2Device.{MmioV2Device}
use Rattle.mmio_fast.specs.Quick.{quick_write}
use Rattle.mmio_fast.specs.Tell.{told_of, wrote_of}
use Rattle.mmio_fast.specs.declared.Wrote.{Wrote}
use Rattle.mmio_fast.proofs.Same.{bits_only, write_same}
use Rattle.mmio_fast.proofs.quick_write.Symbol as short
use Rattle.mmio_fast.proofs.quick_write.Met as short-thm
use Rattle.mmio_fast.proofs.full_write.Symbol as long
use Rattle.mmio_fast.proofs.full_write.Met as long-thm
use Rattle.dewbracket.proofs.Device as dev
use Rattle.mmio_lent.proofs.Writing as walk
use Rattle.dewbracket.specs.contracts.dewbracket_write.Key.{name as key}
use Rattle.dewbracket.proofs.dewbracket_write.Statement as stated
use Rattle.dewbracket.proofs.dewbracket_write.Code as code

abbrev wrote : MmioV2Device → ℕ → ℕ → List ℕ → ℕ → Wrote
wrote d k o bs w = wrote_of (step w d.state (Write k o bs))

abbrev words : MmioV2Device → ℕ → ℕ → List ℕ → List ℕ → List ℕ
words d k o bs x = laid x (step (length x) d.state (Write k o bs)).actions

law : walk.Law dev.lent dev.laws dev.wrote dev.wrote-laws wrote words quick_write
law d k o bs x e =
    let z : step (length x) d.state (Write k o bs) ≡ bits_only d.state 0 (quick_write d.state.hot o bs (length x)).value = write_same d.state k o bs (length x) e in
    (ap (λ (u : Outcome). device u.state) (sym z), ap told_of (sym z), ap (λ (u : Outcome). laid x u.actions) (sym z))

pub dewbracket_write_spec : {M : Type 1} → stated.statement M
dewbracket_write_spec 𝓤 𝓛 𝓜 𝓡 wired =
    walk.spec dev.lent dev.laws dev.wrote dev.wrote-laws wrote words quick_write law key short.name long.name 𝓡.env (𝓡.env short.name) (𝓡.env long.name)
    refl refl 𝓛 𝓜 𝓡 (code.unfolded 𝓤 𝓛.H 𝓜 𝓡 wired) (short-thm.met 𝓤 𝓛 𝓜 𝓡 (code.calls-mmio_fast::quick_write 𝓡.env wired)) (long-thm.met 𝓤 𝓛 𝓜 𝓡 (code.calls-mmio_fast::full_write 𝓡.env wired))
