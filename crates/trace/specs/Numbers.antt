-- The numbers of a trace, little-endian, from a place on; 0 where the bytes end before (01, The trace).
use Rattle.std.specs.Prelude.{List, ℕ, drop}
use Rattle.words.specs.Bytes.{read_le}

abbrev pub half_at : List ℕ → (at : ℕ) → ℕ
half_at s at = read_le 2 (drop at s)

abbrev pub word_at : List ℕ → (at : ℕ) → ℕ
word_at s at = read_le 4 (drop at s)

abbrev pub long_at : List ℕ → (at : ℕ) → ℕ
long_at s at = read_le 8 (drop at s)
