-- A refusal is known by its number, and so is an answer.
use mathlib.Core.Path.{◌≡◌, refl, sym, ap, ◌∙◌}
use Prim.Native.Nat.{ℕ}
use Rattle.std.specs.Prelude.{Result, Ok, Err}
use Rattle.words.specs.Pick.{pick}
use Rattle.words.specs.Refusals.{refusal_number, told, numbered}
use Rattle.words.specs.declared.Refusal.{Refusal}
use Rattle.words.specs.declared.Refusal.TheVariants.{WindowSize, WindowBase, QueueCount, QueueSize, VectorCount, RegionCount, ActionSpace, TraceLength, TraceVersion, TraceLayout, RecordKind, RecordData, UnknownQueue}
use lib.Dec.{eqb}

-- the refusal of a number
abbrev numbered-back : ℕ → Refusal
numbered-back n =
    pick (eqb n 1) WindowSize (pick (eqb n 2) WindowBase (pick (eqb n 3) QueueCount (pick (eqb n 4) QueueSize (pick (eqb n 5) VectorCount (pick (eqb n 6) RegionCount (pick (eqb n 7) ActionSpace (pick (eqb n 8) TraceLength (pick (eqb n 9) TraceVersion (pick (eqb n 10) TraceLayout (pick (eqb n 11) RecordKind (pick (eqb n 12) RecordData UnknownQueue)))))))))))

back : (e : Refusal) → numbered-back (refusal_number e) ≡ e
back WindowSize = refl
back WindowBase = refl
back QueueCount = refl
back QueueSize = refl
back VectorCount = refl
back RegionCount = refl
back ActionSpace = refl
back TraceLength = refl
back TraceVersion = refl
back TraceLayout = refl
back RecordKind = refl
back RecordData = refl
back UnknownQueue = refl

pub refusal-same : (e e' : Refusal) → refusal_number e ≡ refusal_number e' → e ≡ e'
refusal-same e e' h = sym (back e) ∙ ap numbered-back h ∙ back e'

pub some_number : (e : Refusal) → refusal_number e ≡ 0 → ⊥
some_number WindowSize h = cc
some_number WindowBase h = cc
some_number QueueCount h = cc
some_number QueueSize h = cc
some_number VectorCount h = cc
some_number RegionCount h = cc
some_number ActionSpace h = cc
some_number TraceLength h = cc
some_number TraceVersion h = cc
some_number TraceLayout h = cc
some_number RecordKind h = cc
some_number RecordData h = cc
some_number UnknownQueue h = cc

-- two answers of the same number, where there is nothing but that to tell
pub told-same : (r r' : Result (Unit {0}) Refusal) → told r ≡ told r' → r ≡ r'
told-same (Ok x) (Ok y) h = refl
told-same (Ok x) (Err e) h = absurd (some_number e (sym h))
told-same (Err e) (Ok y) h = absurd (some_number e h)
told-same (Err e) (Err e') h = ap Err (refusal-same e e' h)

pub numbered-same : {A : Type 0} (r r' : Result A Refusal) → numbered r ≡ numbered r' → r ≡ r'
numbered-same (Ok x) (Ok y) h = cc
numbered-same (Ok x) (Err e) h = cc
numbered-same (Err e) (Ok y) h = cc
numbered-same (Err e) (Err e') h = let q : refusal_number e ≡ refusal_number e' = cc in ap Err (refusal-same e e' q)
