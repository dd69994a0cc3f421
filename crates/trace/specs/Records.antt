-- One record, and what is wrong with it (01, The trace; refusals 11 and 12): "u32 kind (1 read, 2 write, 3 raise), u32 k, u64
-- offset or bits, u32 length, u32 start in pool".
use Rattle.std.specs.Prelude.{Bool, true, false, List, ℕ, ◌+◌, ◌^◌, eqb, leb, ltb}
use Rattle.words.specs.Pick.{pick}
use Rattle.trace.specs.Numbers.{word_at, long_at}
use Rattle.trace.specs.declared.Record.{Record}

abbrev pub record_at : List ℕ → (at : ℕ) → Record
record_at s at =
    record {
      kind = word_at s at;
      k = word_at s (at + 4);
      place = long_at s (at + 8);
      len = word_at s (at + 16);
      start = word_at s (at + 20);
    }

-- "record kind not 1 to 3, or raise bits over 32 bits"
abbrev pub kind_good : Record → Bool
kind_good r = pick (eqb r.kind 1) true (pick (eqb r.kind 2) true (pick (eqb r.kind 3) (ltb r.place (2 ^ 32)) false))

-- "record data outside the pool, over 4,096 bytes, or not zero where it must be": "Reads have start 0, raises both 0; a
-- write's start + length is at most the pool length. The 4,096 limit holds for reads too."
abbrev pub data_good : Record → (pool : ℕ) → Bool
data_good r pool =
    pick (leb r.len 4096)
    (pick (eqb r.kind 2) (leb (r.start + r.len) pool)
    (pick (eqb r.kind 1) (eqb r.start 0)
    (pick (eqb r.start 0) (eqb r.len 0) false)))
    false

-- "11 before 12 in each"; 0 for a record that may run
abbrev pub judged : Record → (pool : ℕ) → ℕ
judged r pool = pick (kind_good r) (pick (data_good r pool) 0 12) 11
