-- When a line is written: where a fixed number of bytes is left for it, whatever its own length, so that one test serves for
-- every line of a kind. Of no paper.
use Rattle.std.specs.Prelude.{Bool, false, ℕ, ◌+◌, leb}
use Rattle.words.specs.Pick.{pick}

-- from place at on, n bytes are left of a buffer of so many
abbrev pub room : (n len at : ℕ) → Bool
room n len at = leb (at + n) len

-- a record's line: its reply has at most 8 bytes, and 64 bytes are left
abbrev pub record_room : (reply len at : ℕ) → Bool
record_room k len at = pick (leb k 8) (room 64 len at) false
