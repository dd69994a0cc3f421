-- `mmio_lent`'s walk of a read, at the step.
use mathlib.Core.Path.{◌≡◌, sym, ap, ◌∙◌, refl}
use mathlib.Core.List.{List}
use Prim.Native.Nat.{ℕ}
use lib.ListN.{length}
use Rattle.tape.specs.Play.{laid}
use Rattle.mmio_v2.specs.Operation.{Read}
use Rattle.mmio_v2.specs.Step.{Outcome, step, replied}
use Rattle.mmio_v2.specs.declared.MmioV2Device.{MmioV2Device}
use Rattle.mmio_fast.specs.Quick.{quick_read, quick_ready}
use Rattle.mmio_fast.specs.Tell.{tell, told_of}
use Rattle.mmio_fast.specs.declared.Told.{Told}
use Rattle.mmio_fast.proofs.Same.{word_only, read_same, ready-same, given}
use Rattle.mmio_fast.proofs.quick_read.Symbol as short
use Rattle.mmio_fast.proofs.quick_read.Met as short-thm
use Rattle.mmio_fast.proofs.quick_ready.Symbol as table
use Rattle.mmio_fast.proofs.quick_ready.Met as table-thm
use Rattle.mmio_fast.proofs.give.Symbol as give
use Rattle.mmio_fast.proofs.give.Met as give-thm
use Rattle.mmio_fast.proofs.full_read.Symbol as long
use Rattle.mmio_fast.proofs.full_read.Met as long-thm
use Rattle.words.specs.Bytes.{write_le}
use Rattle.dewbracket.proofs.Device as dev
use Rattle.mmio_lent.proofs.Reading as walk
use Rattle.dewbracket.specs.contracts.dewbracket_read.Key.{name as key}
use Rattle.dewbracket.proofs.dewbracket_read.Statement as stated
use Rattle.dewbracket.proofs.dewbracket_read.Code as code

abbrev tells : MmioV2Device → ℕ → ℕ → ℕ → ℕ → Told
tells d k o l w = told_of (step w d.state (Read k o l))

abbrev bytes : MmioV2Device → ℕ → ℕ → List ℕ → ℕ → List ℕ
bytes d k o y w = replied y (step w d.state (Read k o (length y)))

abbrev words : MmioV2Device → ℕ → ℕ → ℕ → List ℕ → List ℕ
words d k o l x = laid x (step (length x) d.state (Read k o l)).actions

-- a step that shows one word and no more is what a short function gives
shown : (d : MmioV2Device) (k o : ℕ) (y x : List ℕ) (v : ℕ) → (step (length x) d.state (Read k o (length y)) ≡ word_only d.state v) × (length y ≡ 4)
    → (tell 0 4 0 ≡ tells d k o (length y) (length x)) × (write_le 4 y v ≡ bytes d k o y (length x)) × (x ≡ words d k o (length y) x)
shown d k o y x v z =
    (ap told_of (sym z.0), given y d.state v z.1 ∙ ap (replied y) (sym z.0), ap (λ (u : Outcome). laid x u.actions) (sym z.0))

polled-law : walk.Law dev.lent dev.laws tells bytes words (walk.by-hot dev.lent dev.laws quick_read)
polled-law d k o y x e = shown d k o y x _ (read_same d.state k o (length y) (length x) e)

ready-law : walk.Law dev.lent dev.laws tells bytes words (walk.by-table dev.lent dev.laws quick_ready)
ready-law d k o y x e = shown d k o y x _ (ready-same d.state k o (length y) (length x) e)

pub dewbracket_read_spec : {M : Type 1} → stated.statement M
dewbracket_read_spec 𝓤 𝓛 𝓜 𝓡 wired =
    walk.spec dev.lent dev.laws tells bytes words quick_read quick_ready polled-law ready-law key short.name table.name give.name long.name 𝓡.env (𝓡.env short.name) (𝓡.env table.name) (𝓡.env give.name) (𝓡.env long.name)
    refl refl refl refl 𝓛 𝓜 𝓡 (code.unfolded 𝓤 𝓛.H 𝓜 𝓡 wired)
    (short-thm.met 𝓤 𝓛 𝓜 𝓡 (code.calls-mmio_fast::quick_read 𝓡.env wired)) (table-thm.met 𝓤 𝓛 𝓜 𝓡 (code.calls-mmio_fast::quick_ready 𝓡.env wired)) (give-thm.met 𝓤 𝓛 𝓜 𝓡 (code.calls-mmio_fast::give 𝓡.env wired)) (long-thm.met 𝓤 𝓛 𝓜 𝓡 (code.calls-mmio_fast::full_read 𝓡.env wired))
