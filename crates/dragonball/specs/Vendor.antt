-- The vendor word, and whether a fresh device has a doorbell (01, Registers, last paragraph).
use Rattle.std.specs.Prelude.{ℕ, ◌+◌, ◌%◌, Bool, false, bit_or}
use Rattle.words.specs.Pick.{pick}
use Rattle.words.specs.Bits.{bit, without}

-- "a given features word's low 8 bits, whose bit 2 stays only if the host has the wildcard capability"; 0 where none is given
abbrev pub feature_bits : (given : Bool) (features : ℕ) (wildcard : Bool) → ℕ
feature_bits given features wildcard = pick given (pick wildcard (features % 256) (without 2 (features % 256))) 0

-- "0xdbfcdb00, plus bit 1 if the configuration's MSI flag is set, or-ed with" those
abbrev pub vendor_word : (msi given : Bool) (features : ℕ) (wildcard : Bool) → ℕ
vendor_word msi given features wildcard = 0xdbfcdb00 + bit_or (pick msi 2 0) (feature_bits given features wildcard)

-- bit 2 was given, and the host can serve it. That this is "exactly if vendor bit 2 is set" is proved: doorbell-is-bit-2.
abbrev pub fresh_doorbell : (given : Bool) (features : ℕ) (wildcard : Bool) → Bool
fresh_doorbell given features wildcard = pick given (pick wildcard (bit 2 features) false) false
