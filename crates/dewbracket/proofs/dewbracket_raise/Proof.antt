-- `mmio_lent`'s walk of a raise, at the step.
use mathlib.Core.Path.{sym, ap, refl}
use mathlib.Core.List.{List}
use Prim.Native.Nat.{ℕ}
use lib.ListN.{length}
use Rattle.tape.specs.Play.{laid}
use Rattle.mmio_v2.specs.Fresh.{device}
use Rattle.mmio_v2.specs.Operation.{Raise}
use Rattle.mmio_v2.specs.Step.{Outcome, step}
use Rattle.mmio_v2.specs.declared.MmioV2Device.{MmioV2Device}
use Rattle.mmio_fast.specs.Quick.{quick_raise}
use Rattle.mmio_fast.specs.Tell.{told_of}
use Rattle.mmio_fast.specs.declared.Told.{Told}
use Rattle.mmio_fast.proofs.Same.{raise-same}
use Rattle.mmio_fast.proofs.quick_raise.Symbol as short
use Rattle.mmio_fast.proofs.quick_raise.Met as short-thm
use Rattle.dewbracket.proofs.Device as dev
use Rattle.mmio_lent.proofs.Raising as walk
use Rattle.dewbracket.specs.contracts.dewbracket_raise.Key.{name as key}
use Rattle.dewbracket.proofs.dewbracket_raise.Statement as stated
use Rattle.dewbracket.proofs.dewbracket_raise.Code as code

abbrev after : MmioV2Device → ℕ → ℕ → MmioV2Device
after d b w = device (step w d.state (Raise b)).state

abbrev tells : MmioV2Device → ℕ → ℕ → Told
tells d b w = told_of (step w d.state (Raise b))

abbrev words : MmioV2Device → ℕ → List ℕ → List ℕ
words d b x = laid x (step (length x) d.state (Raise b)).actions

law : walk.Law dev.lent dev.laws after tells words quick_raise
law d b x =
    let z = raise-same d.state b (length x) in
    (ap (λ (u : Outcome). device u.state) (sym z.0), z.1, ap (λ (u : Outcome). laid x u.actions) (sym z.0))

pub dewbracket_raise_spec : {M : Type 1} → stated.statement M
dewbracket_raise_spec 𝓤 𝓛 𝓜 𝓡 wired =
    walk.spec dev.lent dev.laws after tells words quick_raise law key short.name 𝓡.env (𝓡.env short.name) refl 𝓛 𝓜 𝓡 (code.unfolded 𝓤 𝓛.H 𝓜 𝓡 wired) (short-thm.met 𝓤 𝓛 𝓜 𝓡 (code.calls-mmio_fast::quick_raise 𝓡.env wired))
