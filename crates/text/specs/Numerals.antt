-- Numbers as bytes of text: digits to a base, most significant first, and no zero before the first that counts. 01 ("The
-- trace") prints record numbers and counts in decimal, the status and replies in lower-case hex.
use Rattle.std.specs.Prelude.{List, [], ◌∷◌, ◌++◌, ℕ, zero, suc, ◌+◌, ◌-◌, ◌*◌, ◌/◌, ◌%◌, ltb}
use Rattle.std.specs.List.{flat_map}
use Rattle.words.specs.Pick.{pick}

-- the byte of a digit: 0 to 9 from 48 on, a to f from 97 on
abbrev pub glyph : (d : ℕ) → ℕ
glyph d = pick (ltb d 10) (48 + d) (87 + d)

-- at most f digits of n to the base b
unfoldable pub digits : (f b n : ℕ) → List ℕ
digits zero b n = []
digits (suc f) b n = pick (ltb n b) (glyph n ∷ []) (digits f b (n / b) ++ glyph (n % b) ∷ [])

-- 65 digits are enough for every n below 2^64, to any base
unfoldable pub numeral : (b n : ℕ) → List ℕ
numeral b n = digits 65 b n

abbrev pub decimal : ℕ → List ℕ
decimal n = numeral 10 n

abbrev pub hex : ℕ → List ℕ
hex n = numeral 16 n

-- the two low digits of v in hex: all of a byte, and of a larger number what it has below 256
abbrev pub pair : (v : ℕ) → List ℕ
pair v = glyph (v / 16 % 16) ∷ glyph (v % 16) ∷ []

-- bytes in hex, two digits each, in their order
abbrev pub pairs : List ℕ → List ℕ
pairs = flat_map pair

-- what a reader makes of it: the value of a glyph, and of glyphs to the base b, with a read before them
abbrev pub value_of : (glyph : ℕ) → ℕ
value_of g = pick (ltb g 58) (g - 48) (g - 87)

unfoldable pub reads : (b a : ℕ) → List ℕ → ℕ
reads b a [] = a
reads b a (g ∷ gs) = reads b (a * b + value_of g) gs
