-- What an operation comes to: the state after it, whether what it asked was accepted, the actions it asks. And the answer of
-- the code, with refusal 7 (01: "action space below 320 words: same device"; "7 is tested on every operation").
use Rattle.std.specs.Prelude.{Result, Ok, Err, Bool, List, [], ◌∷◌, ℕ, ◌*◌, ltb, length}
use Rattle.words.specs.Pick.{pick}
use Rattle.words.specs.declared.Action.{Action}
use Rattle.words.specs.declared.Refusal.{Refusal}
use Rattle.words.specs.declared.Refusal.TheVariants.{ActionSpace}
use Rattle.virtq.specs.Index.{max_queues}
use Rattle.tape.specs.Play.{laid}
use Rattle.activation.specs.Bound.{most}
use Rattle.mmio_state.specs.State.{State}
use Rattle.mmio_state.specs.declared.Done.{Done}

pub record Effect : Type 0 where
  pub state : State
  pub ok : Bool
  pub actions : List Action

-- five words for each of the most records: 320
abbrev pub room_words : ℕ
room_words = 5 * most max_queues

-- nothing asked
abbrev pub quiet : State → (ok : Bool) → Effect
quiet s ok = record { state = s; ok = ok; actions = [] }

-- one request, accepted or not
abbrev pub telling : State → (ok : Bool) → Action → Effect
telling s ok x = record { state = s; ok = ok; actions = x ∷ [] }

-- the answer where there is room
abbrev pub ended : Effect → Done
ended e = record { state = e.state; ok = e.ok; count = length e.actions }

-- whether there is, where `words` are lent
abbrev pub room : (words : ℕ) → Result (Unit {0}) Refusal
room w = pick (ltb w room_words) (Err ActionSpace) (Ok tt)

-- the answer, where `words` are lent
abbrev pub done : (words : ℕ) → Effect → Result Done Refusal
done w e = pick (ltb w room_words) (Err ActionSpace) (Ok (ended e))

-- the lent words after it: the actions over their front, or as they were
abbrev pub written : List ℕ → Effect → List ℕ
written l e = pick (ltb (length l) room_words) l (laid l e.actions)
