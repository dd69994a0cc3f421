-- The trace that 01 prints as an example, and that trace with bytes changed: what its verdict must be (01, The trace; refusals
-- 1 to 12 at their limits and in pairs, so that the order shows).
use Rattle.std.specs.Prelude.{List, [], ◌∷◌, ℕ}
use Rattle.std.proofs.lemmas.List.Edits.{sets}
use Rattle.words.specs.Bytes.{bytes_of}
use Rattle.trace.specs.Verdict.{verdict_of}

-- "Status 1, read status, 1 again, read 0x058": 364 bytes, one queue of 256
abbrev pub example : List ℕ
example =
    1 ∷ 0 ∷ 0 ∷ 0 ∷ 4 ∷ 0 ∷ 0 ∷ 0 ∷ 24 ∷ 0 ∷ 0 ∷ 0 ∷ 8 ∷ 1 ∷ 0 ∷ 0 ∷ 104 ∷ 1 ∷ 0 ∷ 0 ∷ 4 ∷ 0 ∷ 0 ∷ 0 ∷ 0 ∷ 0 ∷ 0 ∷ 208
    ∷ 0 ∷ 0 ∷ 0 ∷ 0 ∷ 0 ∷ 32 ∷ 0 ∷ 0 ∷ 0 ∷ 0 ∷ 0 ∷ 0 ∷ 0 ∷ 0 ∷ 1 ∷ 0 ∷ 0 ∷ 0 ∷ 0 ∷ 0 ∷ 2 ∷ 0 ∷ 0 ∷ 0 ∷ 0 ∷ 0 ∷ 0 ∷ 0
    ∷ 0 ∷ 0 ∷ 0 ∷ 0 ∷ 0 ∷ 0 ∷ 0 ∷ 0 ∷ 0 ∷ 0 ∷ 0 ∷ 0 ∷ 17 ∷ 0 ∷ 0 ∷ 0 ∷ 34 ∷ 0 ∷ 0 ∷ 0 ∷ 4 ∷ 0 ∷ 0 ∷ 0 ∷ 1 ∷ 0 ∷ 0 ∷ 0
    ∷ 0 ∷ 0 ∷ 0 ∷ 0 ∷ 0 ∷ 1 ∷ 0 ∷ 0 ∷ 0 ∷ 0 ∷ 0 ∷ 0 ∷ 0 ∷ 0 ∷ 0 ∷ 0 ∷ 0 ∷ 0 ∷ 0 ∷ 0 ∷ 0 ∷ 0 ∷ 0 ∷ 0 ∷ 0 ∷ 0 ∷ 0 ∷ 0
    ∷ 0 ∷ 0 ∷ 0 ∷ 0 ∷ 0 ∷ 0 ∷ 0 ∷ 0 ∷ 0 ∷ 0 ∷ 0 ∷ 0 ∷ 0 ∷ 0 ∷ 0 ∷ 0 ∷ 0 ∷ 0 ∷ 0 ∷ 0 ∷ 0 ∷ 0 ∷ 0 ∷ 0 ∷ 0 ∷ 0 ∷ 0 ∷ 0
    ∷ 0 ∷ 0 ∷ 0 ∷ 0 ∷ 0 ∷ 0 ∷ 0 ∷ 0 ∷ 0 ∷ 0 ∷ 0 ∷ 0 ∷ 0 ∷ 0 ∷ 0 ∷ 0 ∷ 0 ∷ 0 ∷ 0 ∷ 0 ∷ 0 ∷ 0 ∷ 0 ∷ 0 ∷ 0 ∷ 0 ∷ 0 ∷ 0
    ∷ 0 ∷ 0 ∷ 0 ∷ 0 ∷ 0 ∷ 0 ∷ 0 ∷ 0 ∷ 0 ∷ 0 ∷ 0 ∷ 0 ∷ 0 ∷ 0 ∷ 0 ∷ 0 ∷ 0 ∷ 0 ∷ 0 ∷ 0 ∷ 0 ∷ 0 ∷ 0 ∷ 0 ∷ 0 ∷ 0 ∷ 0 ∷ 0
    ∷ 0 ∷ 0 ∷ 0 ∷ 0 ∷ 0 ∷ 0 ∷ 0 ∷ 0 ∷ 0 ∷ 0 ∷ 0 ∷ 0 ∷ 0 ∷ 0 ∷ 0 ∷ 0 ∷ 0 ∷ 0 ∷ 0 ∷ 0 ∷ 0 ∷ 0 ∷ 0 ∷ 0 ∷ 0 ∷ 0 ∷ 0 ∷ 0
    ∷ 0 ∷ 0 ∷ 0 ∷ 0 ∷ 0 ∷ 0 ∷ 0 ∷ 0 ∷ 0 ∷ 0 ∷ 0 ∷ 0 ∷ 0 ∷ 0 ∷ 0 ∷ 0 ∷ 0 ∷ 0 ∷ 0 ∷ 0 ∷ 0 ∷ 0 ∷ 0 ∷ 0 ∷ 0 ∷ 0 ∷ 0 ∷ 0
    ∷ 0 ∷ 0 ∷ 0 ∷ 0 ∷ 0 ∷ 0 ∷ 0 ∷ 0 ∷ 0 ∷ 0 ∷ 0 ∷ 0 ∷ 2 ∷ 0 ∷ 0 ∷ 0 ∷ 0 ∷ 0 ∷ 0 ∷ 0 ∷ 112 ∷ 0 ∷ 0 ∷ 0 ∷ 0 ∷ 0 ∷ 0 ∷ 0
    ∷ 4 ∷ 0 ∷ 0 ∷ 0 ∷ 0 ∷ 0 ∷ 0 ∷ 0 ∷ 1 ∷ 0 ∷ 0 ∷ 0 ∷ 0 ∷ 0 ∷ 0 ∷ 0 ∷ 112 ∷ 0 ∷ 0 ∷ 0 ∷ 0 ∷ 0 ∷ 0 ∷ 0 ∷ 4 ∷ 0 ∷ 0 ∷ 0
    ∷ 0 ∷ 0 ∷ 0 ∷ 0 ∷ 2 ∷ 0 ∷ 0 ∷ 0 ∷ 0 ∷ 0 ∷ 0 ∷ 0 ∷ 112 ∷ 0 ∷ 0 ∷ 0 ∷ 0 ∷ 0 ∷ 0 ∷ 0 ∷ 4 ∷ 0 ∷ 0 ∷ 0 ∷ 0 ∷ 0 ∷ 0 ∷ 0
    ∷ 1 ∷ 0 ∷ 0 ∷ 0 ∷ 0 ∷ 0 ∷ 0 ∷ 0 ∷ 88 ∷ 0 ∷ 0 ∷ 0 ∷ 0 ∷ 0 ∷ 0 ∷ 0 ∷ 4 ∷ 0 ∷ 0 ∷ 0 ∷ 0 ∷ 0 ∷ 0 ∷ 0 ∷ 1 ∷ 0 ∷ 0 ∷ 0
    ∷ []

-- a number of w bytes in its place
pub record Change : Type 0 where
  pub place : ℕ
  pub width : ℕ
  pub value : ℕ

abbrev pub change : (place width value : ℕ) → Change
change p w v = record { place = p; width = w; value = v }

abbrev pub changed : List Change → List ℕ → List ℕ
changed [] s = s
changed (c ∷ cs) s = changed cs (sets s c.place (bytes_of c.width c.value))

pub record Case : Type 0 where
  pub changes : List Change
  pub verdict : ℕ

abbrev pub case : List Change → ℕ → Case
case cs n = record { changes = cs; verdict = n }

abbrev pub verdicts : List Case → List ℕ
verdicts [] = []
verdicts (c ∷ cs) = verdict_of (changed c.changes example) ∷ verdicts cs

abbrev pub expected : List Case → List ℕ
expected [] = []
expected (c ∷ cs) = c.verdict ∷ expected cs

unfoldable pub cases : List Case
cases =
    case [] 0
    -- version, count, offsets, pool
    ∷ case (change 0 4 2 ∷ []) 9
    ∷ case (change 4 4 5 ∷ []) 10
    ∷ case (change 4 4 2001 ∷ []) 10
    ∷ case (change 8 4 25 ∷ []) 10
    ∷ case (change 12 4 240 ∷ []) 10
    ∷ case (change 16 4 361 ∷ []) 10
    ∷ case (change 20 4 5 ∷ []) 10
    -- the first record: its kind; then as a raise, of 32 bits and of one more
    ∷ case (change 264 4 0 ∷ []) 11
    ∷ case (change 264 4 4 ∷ []) 11
    ∷ case (change 264 4 3 ∷ change 272 8 4294967295 ∷ change 280 4 0 ∷ []) 0
    ∷ case (change 264 4 3 ∷ change 272 8 4294967296 ∷ change 280 4 0 ∷ []) 11
    -- its data: past the pool by one, at its end, a read that starts, 4,096 and one more, a raise with a length
    ∷ case (change 284 4 1 ∷ []) 12
    ∷ case (change 280 4 0 ∷ change 284 4 4 ∷ []) 0
    ∷ case (change 280 4 0 ∷ change 284 4 5 ∷ []) 12
    ∷ case (change 308 4 1 ∷ []) 12
    ∷ case (change 304 4 4096 ∷ []) 0
    ∷ case (change 304 4 4097 ∷ []) 12
    ∷ case (change 264 4 3 ∷ []) 12
    ∷ case (change 284 4 4294967295 ∷ []) 12
    -- configuration: window, base, queues, size, vectors, regions
    ∷ case (change 32 8 8193 ∷ []) 1
    ∷ case (change 24 8 18446744073709543424 ∷ []) 0
    ∷ case (change 24 8 18446744073709543425 ∷ []) 2
    ∷ case (change 80 4 0 ∷ []) 3
    ∷ case (change 80 4 17 ∷ []) 3
    ∷ case (change 88 2 3 ∷ []) 4
    ∷ case (change 84 4 65536 ∷ []) 4
    ∷ case (change 76 4 33 ∷ []) 5
    ∷ case (change 120 4 9 ∷ []) 6
    -- not looked at: the spare word, a size and a region past their counts, k of a raise
    ∷ case (change 124 4 7 ∷ change 90 2 3 ∷ change 136 8 9 ∷ []) 0
    ∷ case (change 264 4 3 ∷ change 268 4 9 ∷ change 280 4 0 ∷ []) 0
    -- two faults: the earlier check speaks
    ∷ case (change 0 4 2 ∷ change 4 4 5 ∷ []) 9
    ∷ case (change 4 4 5 ∷ change 264 4 0 ∷ []) 10
    ∷ case (change 288 4 0 ∷ change 284 4 1 ∷ []) 12
    ∷ case (change 264 4 0 ∷ change 284 4 9 ∷ []) 11
    ∷ case (change 336 4 0 ∷ change 32 8 0 ∷ []) 11
    ∷ case (change 32 8 0 ∷ change 80 4 0 ∷ []) 1
    ∷ case (change 76 4 33 ∷ change 120 4 9 ∷ []) 5
    ∷ []
