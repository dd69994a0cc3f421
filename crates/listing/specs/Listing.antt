-- The lines that an option adds to a record's own, one under the other: its action records ("five u64 words: kind and four
-- operands", 01, Actions), and the fields of each queue that is there. When they are written is of no paper.
use Rattle.std.specs.Prelude.{Bool, false, List, [], ◌++◌, ℕ, zero, suc, ◌+◌, ◌*◌, leb, length, get_or}
use Rattle.words.specs.Pick.{pick}
use Rattle.words.specs.declared.Action.{Action}
use Rattle.virtq.specs.Fields.{fields_of}
use Rattle.virtq.specs.Valid.{address}
use Rattle.virtq.specs.declared.Queue.{Queue}
use Rattle.virtq.specs.declared.Field.TheVariants as F
use Rattle.text.specs.Details.{action_line, field_line}
use Rattle.text.specs.Room.{room}

-- the lines f 0 to f (n - 1)
unfoldable pub rows : (n : ℕ) → (f : ℕ → List ℕ) → List ℕ
rows zero f = []
rows (suc n) f = rows n f ++ f n

-- n lines are written where n is at most the most that there are, and 128 bytes are left for each
abbrev pub lines_room : (most n len at : ℕ) → Bool
lines_room most n len at = pick (leb n most) (room (128 * n) len at) false

-- ---- action records

abbrev pub no_action : Action
no_action = record { kind = 0; a = 0; b = 0; c = 0; d = 0 }

abbrev pub actions_text : List Action → List ℕ
actions_text xs = rows (length xs) (λ (i : ℕ). action_line (get_or xs i no_action))

-- record i of lent words
abbrev pub action_in : List ℕ → (i : ℕ) → Action
action_in w i =
    record {
      kind = get_or w (5 * i) 0;
      a = get_or w (5 * i + 1) 0;
      b = get_or w (5 * i + 2) 0;
      c = get_or w (5 * i + 3) 0;
      d = get_or w (5 * i + 4) 0;
    }

-- the lines of the first n records of lent words
abbrev pub words_text : List ℕ → (n : ℕ) → List ℕ
words_text w n = rows n (λ (i : ℕ). action_line (action_in w i))

-- n records are written where n is at most 64 and 128 bytes are left for each
abbrev pub actions_room : (n len at : ℕ) → Bool
actions_room n len at = lines_room 64 n len at

-- ---- the fields of the queues

abbrev pub queue_line : List Queue → (i : ℕ) → List ℕ
queue_line qs i =
    field_line i (fields_of qs i F.Size) (fields_of qs i F.Ready)
    (address (fields_of qs i F.DescLow) (fields_of qs i F.DescHigh))
    (address (fields_of qs i F.AvailLow) (fields_of qs i F.AvailHigh))
    (address (fields_of qs i F.UsedLow) (fields_of qs i F.UsedHigh))

-- of the first n queues of a table
abbrev pub queues_text : List Queue → (n : ℕ) → List ℕ
queues_text qs n = rows n (queue_line qs)

-- they are written where n is at most 16 and 128 bytes are left for each
abbrev pub queues_room : (n len at : ℕ) → Bool
queues_room n len at = lines_room 16 n len at
