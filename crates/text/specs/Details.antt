-- The lines that the options add to a record's line: -a its action records ("kind and four operands", 01, Actions), -f the
-- fields of each queue. Every number is in hex without leading zeros, but for a queue's index, which is in decimal.
use Rattle.std.specs.Prelude.{List, [], ◌∷◌, ℕ}
use Rattle.std.specs.List.{flat_map}
use Rattle.words.specs.declared.Action.{Action}
use Rattle.text.specs.Numerals.{decimal, hex}
use Rattle.text.specs.Lines.{row, spaced}

-- two spaces, of which the second stands before the kind
unfoldable pub action_line : Action → List ℕ
action_line x = row (32 ∷ []) (hex x.kind ∷ hex x.a ∷ hex x.b ∷ hex x.c ∷ hex x.d ∷ [])

-- "  q" and the queue's index, size, ready word and three addresses
unfoldable pub field_line : (index size ready desc avail used : ℕ) → List ℕ
field_line i size ready desc avail used =
    row (32 ∷ 32 ∷ 113 ∷ []) (decimal i ∷ hex size ∷ hex ready ∷ hex desc ∷ hex avail ∷ hex used ∷ [])

-- numbers in hex with a space before each, as the columns of either line stand
abbrev pub hexes : List ℕ → List ℕ
hexes = flat_map (λ (n : ℕ). spaced (hex n))
