-- Runs of any device, and what it means that one follows the rules of reading.
use Rattle.std.specs.Prelude.{◌≡◌, List, [], ◌∷◌, ◌++◌, ℕ, ◌≤◌, length}
use Rattle.virtq.specs.Fields.{fields_of}
use Rattle.virtq.specs.Events.{first, apply_all}
use Rattle.virtq.specs.declared.Queue.{Queue}
use Rattle.virtq.specs.declared.Field.{Field}
use Rattle.runs.specs.Reading.{Rules, Start}

-- the state after a log, the newest operation first
abbrev pub run_from : {Op S : Type 0} → (next : S → Op → S) → S → List Op → S
run_from next s [] = s
run_from next s (op ∷ log) = next (run_from next s log) op

-- what was answered to each operation of `later`, after `earlier` had been run; the newest first
abbrev pub answers_to : {Op S A : Type 0} → (next : S → Op → S) (answer : S → Op → A) → S → (earlier later : List Op) → List A
answers_to next answer s earlier [] = []
answers_to next answer s earlier (op ∷ later) = answer (run_from next s (later ++ earlier)) op ∷ answers_to next answer s earlier later

-- A device follows the rules, as long as its states are of the kind P: every step leaves one of that kind, what is known
-- after it is what the rules say, and so is what it does to the queues, where a wipe leaves the table `wiped`.
pub record Follows {Op Known : Type 0} (R : Rules Op Known) {S : Type 0} (next : S → Op → S) (P : S → Type 0) (known_of : S → Known) (queues_of : S → List Queue) (wiped : List Queue) : Type 0 where
  pub stays : (s : S) (op : Op) → P s → P (next s op)
  pub known_next : (s : S) (op : Op) → P s → known_of (next s op) ≡ R.known (known_of s) (first R.count (fields_of (queues_of s))) op
  pub queues-next : (s : S) (op : Op) → P s → queues_of (next s op) ≡ apply_all wiped (R.events (known_of s) (first R.count (fields_of (queues_of s))) op) (queues_of s)
  pub wiped-fresh : (q : ℕ) (f : Field) → fields_of wiped q f ≡ R.fresh q f
  pub enough : R.count ≤ length wiped

-- it begins as the reading does
pub record Begins {Known : Type 0} (b : Start Known) {S : Type 0} (P : S → Type 0) (known_of : S → Known) (queues_of : S → List Queue) (wiped : List Queue) (s₀ : S) : Type 0 where
  pub kind : P s₀
  pub knows_start : known_of s₀ ≡ b.knows
  pub holds-start : (q : ℕ) (f : Field) → fields_of (queues_of s₀) q f ≡ b.holds q f
  pub as_long : length wiped ≡ length (queues_of s₀)
