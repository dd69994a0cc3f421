-- A shared-memory region's base (01, Registers: "Region base is region offset plus list address; the sum wraps at 2^64 as
-- in a release build"), and a 64-bit word's two halves.
use Rattle.std.specs.Prelude.{ℕ, ◌+◌, ◌/◌, ◌%◌, ◌^◌}

abbrev pub region_base : (offset list : ℕ) → ℕ
region_base offset list = (offset + list) % 2 ^ 64

abbrev pub low_word : ℕ → ℕ
low_word v = v % 2 ^ 32

abbrev pub high_word : ℕ → ℕ
high_word v = v / 2 ^ 32
