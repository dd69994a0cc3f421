-- The lines that a trace prints (01, The trace): the heading, "record number, status and reply in hex (`-` for none) and the
-- action count", `end` with the record count, and `bad` with a number alone.
use Rattle.std.specs.Prelude.{List, [], ◌∷◌, ◌++◌, ℕ, eqb, length}
use Rattle.words.specs.Pick.{pick}
use Rattle.text.specs.Numerals.{decimal, pair, pairs}

abbrev pub spaced : List ℕ → List ℕ
spaced w = 32 ∷ w

-- a line: how it starts, then its columns with a space before each, then a newline
abbrev pub row : (start : List ℕ) → (columns : List (List ℕ)) → List ℕ
row w [] = w ++ 10 ∷ []
row w (v ∷ vs) = row (w ++ spaced v) vs

-- "op status reply actions"
unfoldable pub heading_line : List ℕ
heading_line =
    111 ∷ 112 ∷ 32
    ∷ 115 ∷ 116 ∷ 97 ∷ 116 ∷ 117 ∷ 115 ∷ 32
    ∷ 114 ∷ 101 ∷ 112 ∷ 108 ∷ 121 ∷ 32
    ∷ 97 ∷ 99 ∷ 116 ∷ 105 ∷ 111 ∷ 110 ∷ 115 ∷ 10 ∷ []

-- the bytes of a reply in address order, or - for none
unfoldable pub reply_text : List ℕ → List ℕ
reply_text s = pick (eqb (length s) 0) (45 ∷ []) (pairs s)

-- Of the status the two low digits. A device's status is below 256, and there they are all of it.
unfoldable pub record_line : (number status : ℕ) → (reply : List ℕ) → (count : ℕ) → List ℕ
record_line n s reply k = row (decimal n) (pair s ∷ reply_text reply ∷ decimal k ∷ [])

-- "end"
unfoldable pub end_line : ℕ → List ℕ
end_line n = row (101 ∷ 110 ∷ 100 ∷ []) (decimal n ∷ [])

-- "bad"
unfoldable pub bad_line : ℕ → List ℕ
bad_line n = row (98 ∷ 97 ∷ 100 ∷ []) (decimal n ∷ [])
