-- A record written: its words, the count of records, the answers left and the held table move on together (01, Actions).
use Rattle.std.specs.Prelude.{◌≡◌, ℕ, ◌+◌, ◌*◌, Bool, List, [], ◌∷◌, length, nat_le}
use Rattle.std.specs.Borrow.{MutBor}
use Rattle.std.proofs.lemmas.List.Edits.{sets}
use Rattle.words.specs.Pick.{pick}
use Rattle.words.specs.Actions.{words_of, words_of_all}
use Rattle.words.specs.declared.Action.{Action}
use Rattle.tape.specs.Held.{held_one, left_after}
use Rattle.tape.specs.declared.Held.{Held}
use Rattle.tape.specs.declared.Recorder.{Recorder}

-- the lent words, the records in them, the answers left, the held table
pub record Sheet : Type 0 where
  pub words : List ℕ
  pub count : ℕ
  pub left : ℕ
  pub held : List Held

-- what a recorder has: its words, and its tape's parts
abbrev pub sheet : Recorder → Sheet
sheet r = record { words = r.words.now; count = r.tape.count; left = r.tape.left; held = r.tape.held }

-- five words are left behind n records
abbrev pub room_for : (n : ℕ) → (words : ℕ) → Bool
room_for n w = nat_le (5 * n + 5) w

-- One record: its words behind the others, the count, the answers left, the table. Where five words are not left it is
-- neither written nor counted.
unfoldable pub one : (base : ℕ) → Sheet → Action → Sheet
one b s x =
    record {
      words = pick (room_for s.count (length s.words)) (sets s.words (5 * s.count) (words_of x)) s.words;
      count = pick (room_for s.count (length s.words)) (s.count + 1) s.count;
      left = left_after s.left x;
      held = held_one b s.left x s.held;
    }

-- one record after the other
abbrev pub play : (base : ℕ) → Sheet → List Action → Sheet
play b s [] = s
play b s (x ∷ xs) = play b (one b s x) xs

-- a recorder with nothing on its tape yet, over the lent words w
pub record IsBegun (w : MutBor (List ℕ)) (b k : ℕ) (hs : List Held) (r : Recorder) : Type 0 where
  pub same : r.words.ghost_name ≡ w.ghost_name
  pub base : r.base ≡ b
  pub is : sheet r ≡ record { words = w.now; count = 0; left = k; held = hs }

-- the records xs were played: the recorder r is then r', over the same lent words and for the same window
pub record Played (r : Recorder) (xs : List Action) (r' : Recorder) : Type 0 where
  pub same : r'.words.ghost_name ≡ r.words.ghost_name
  pub base : r'.base ≡ r.base
  pub is : sheet r' ≡ play r.base (sheet r) xs

-- the records' words over the front of l; "words past the last are unchanged"
abbrev pub laid : List ℕ → List Action → List ℕ
laid l xs = sets l 0 (words_of_all xs)
