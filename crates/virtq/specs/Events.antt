-- What bears on a queue's fields, as events, and how a field is read back from them: "the last counting write to it since
-- the last wipe, or else its fresh value" (01, "Queue fields, counting writes and wipes"). Of no transport, and over any count.
use Rattle.std.specs.Prelude.{Bool, true, false, ◌≡◌, List, [], ◌∷◌, ℕ, eqb, ltb, get_or, set}
use Rattle.words.specs.Pick.{pick}
use Rattle.virtq.specs.declared.Queue.{Queue}
use Rattle.virtq.specs.declared.Field.{Field}
use Rattle.virtq.specs.Fields.{same, taken, put, no_queue}

-- each field of each queue
abbrev pub Holds : Type 0
Holds = ℕ → Field → ℕ

-- v was written to a field of queue q, and counted; queue q alone was wiped; all were
pub data Event : Type 0 where
  Set : (q : ℕ) → Field → (v : ℕ) → Event
  WipeOne : (q : ℕ) → Event
  Wipe : Event

-- what the field f of queue q holds after an event: what was written, its fresh value, or what it held
abbrev pub after : Event → (q : ℕ) (f : Field) (fresh held : ℕ) → ℕ
after (Set i g v) q f fresh held = pick (eqb i q) (pick (same g f) (taken f v) held) held
after (WipeOne i) q f fresh held = pick (eqb i q) fresh held
after Wipe q f fresh held = fresh

-- a field, read back from the events, the newest first; before the first of them it held what `start` says
abbrev pub read_back : (fresh start : Holds) → List Event → Holds
read_back fresh start [] q f = start q f
read_back fresh start (e ∷ es) q f = after e q f (fresh q f) (read_back fresh start es q f)

-- the fields of the first n queues, and 0 of a queue that isn't there
abbrev pub first : ℕ → Holds → Holds
first n g q f = pick (ltb q n) (g q f) 0

-- an event bears on the field f of queue q
abbrev pub bears : Event → (q : ℕ) → Field → Bool
bears (Set i g v) q f = pick (eqb i q) (same g f) false
bears (WipeOne i) q f = eqb i q
bears Wipe q f = true

-- none of these events does
pub data NoneBears (q : ℕ) (f : Field) : List Event → Type 0 where
  none : NoneBears q f []
  more : {e : Event} {es : List Event} → bears e q f ≡ false → NoneBears q f es → NoneBears q f (e ∷ es)

-- what an event does to a table of queues, where a wipe of all leaves the table `fresh`
abbrev pub apply : (fresh : List Queue) → Event → List Queue → List Queue
apply fresh (Set i f v) qs = set qs i (put (get_or qs i no_queue) f v)
apply fresh (WipeOne i) qs = set qs i (get_or fresh i no_queue)
apply fresh Wipe qs = fresh

abbrev pub apply_all : (fresh : List Queue) → List Event → List Queue → List Queue
apply_all fresh [] qs = qs
apply_all fresh (e ∷ es) qs = apply fresh e (apply_all fresh es qs)
