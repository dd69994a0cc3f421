-- The verdict on any bytes (01, The trace): "Layout, then record by record (11 before 12 in each), then configuration are
-- checked before anything runs". 0 where the trace may run. Sums are of whole numbers: none wraps.
use Rattle.std.specs.Prelude.{Bool, false, ◌≡◌, List, ℕ, zero, suc, ◌+◌, ◌*◌, ◌<◌, eqb, leb, ltb, length, take, drop, Option, Some, None, Result, Ok, Err}
use Rattle.words.specs.Pick.{pick}
use Rattle.mmio_v2.specs.Fresh.{refusal}
use Rattle.trace.specs.Numbers.{word_at}
use Rattle.trace.specs.Form.{known_version, block_place, records_place, pool_place}
use Rattle.trace.specs.Block.{block_at}
use Rattle.trace.specs.Records.{record_at, judged}
use Rattle.trace.specs.declared.Header.{Header}
use Rattle.trace.specs.declared.Record.{Record}

-- ---- the layout: "u32s: version 1, record count (at most 2,000), offsets 24, 264 and 264 + 24 × count, pool length up to
-- the file's end"

-- its numbers in their order
abbrev pub header_at : List ℕ → Header
header_at s =
    record { version = word_at s 0; count = word_at s 4; block = word_at s 8; records = word_at s 12; pool_place = word_at s 16; pool = word_at s 20 }

abbrev pub count : List ℕ → ℕ
count s = word_at s 4

abbrev pub pool_length : List ℕ → ℕ
pool_length s = word_at s 20

-- the header's numbers: count, three offsets, pool length, for a file of this length
abbrev pub fits : (n a b c pool long : ℕ) → Bool
fits n a b c pool long =
    pick (leb n 2000)
    (pick (eqb a block_place)
    (pick (eqb b records_place)
    (pick (eqb c (pool_place n))
    (eqb (pool_place n + pool) long)
    false)
    false)
    false)
    false

abbrev pub laid : List ℕ → Bool
laid s = fits (count s) (word_at s 8) (word_at s 12) (word_at s 16) (pool_length s) (length s)

-- 8 "trace under 24 or over 65,536 bytes"; 9 "trace version not 1"; 10 "trace counts or offsets wrong"
unfoldable pub layout_of : List ℕ → ℕ
layout_of s =
    pick (ltb (length s) 24) 8
    (pick (ltb 65536 (length s)) 8
    (pick (known_version (word_at s 0)) (pick (laid s) 0 10) 9))

-- how many records there are; none where the layout is wrong
abbrev pub counted : List ℕ → ℕ
counted s = pick (eqb (layout_of s) 0) (count s) 0

-- ---- the records

-- the bytes that a record names: so many from its start in the pool on, as far as they are there
abbrev pub data_of : List ℕ → Record → List ℕ
data_of s r = take r.len (drop (pool_place (count s) + r.start) s)

abbrev pub record_of : List ℕ → (i : ℕ) → Record
record_of s i = record_at s (records_place + 24 * i)

abbrev pub judged_of : List ℕ → (i : ℕ) → ℕ
judged_of s i = judged (record_of s i) (pool_length s)

-- the first number that is not 0
abbrev pub or_else : ℕ → ℕ → ℕ
or_else n m = pick (eqb n 0) m n

-- of n records from record i on
unfoldable pub judged_from : List ℕ → (i n : ℕ) → ℕ
judged_from s i zero = 0
judged_from s i (suc n) = or_else (judged_of s i) (judged_from s (i + 1) n)

-- ---- the whole

unfoldable pub verdict_of : List ℕ → ℕ
verdict_of s = or_else (layout_of s) (or_else (judged_from s 0 (count s)) (refusal (block_at s)))

-- a trace that may run: its layout is right, so is each record, and its configuration is accepted
pub record Good (s : List ℕ) : Type 0 where
  pub layout : layout_of s ≡ 0
  pub records : (i : ℕ) → i < count s → judged_of s i ≡ 0
  pub config : refusal (block_at s) ≡ 0

-- ---- one place of it

-- the record at place i, if there is one and it may run; else the number of what is wrong
unfoldable pub next_at : List ℕ → (i : ℕ) → Result (Option Record) ℕ
next_at s i =
    pick (eqb (layout_of s) 0)
    (pick (ltb i (count s))
    (pick (eqb (judged_of s i) 0) (Ok (Some (record_of s i))) (Err (judged_of s i)))
    (Ok None))
    (Err (layout_of s))

-- 01's number of each answer: 0 where nothing is wrong
abbrev pub number_of : Result (Option Record) ℕ → ℕ
number_of (Ok r) = 0
number_of (Err n) = n
