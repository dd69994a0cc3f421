-- What the definitions come to.
use Rattle.std.proofs.Common.{◌≡◌, ℕ, ◌+◌, ◌/◌, ◌%◌, ◌^◌, ◌<◌, Bool, true, false, eqb, refl, ap, ◌∙◌, arith}
use lib.Bits.{bit_or, or_shr, or_zero_l}
use Rattle.words.specs.Pick.{pick}
use Rattle.words.specs.Bits.{bit, without}
use Rattle.dragonball.specs.Vendor.{feature_bits, vendor_word, fresh_doorbell}
use Rattle.dragonball.specs.DoorBell.{door_bell, register_data}

-- "doorbell word 0x00041000": the default's, at offset 0x1000 and scale 4
pub default-word : register_data (door_bell 0x1000 0x4) ≡ 0x00041000
default-word = refl

-- a feature's bits are 8
pub feature-bits-small : (given : Bool) (features : ℕ) (wildcard : Bool) → feature_bits given features wildcard < 2 ^ 8
feature-bits-small true features true = omega arith
feature-bits-small true features false = omega arith
feature-bits-small false features wildcard = omega arith

pub msi-small : (msi : Bool) → pick msi 2 0 < 2 ^ 8
msi-small true = omega arith
msi-small false = omega arith

-- a bit above the two lowest, of the vendor word
high_bit : (m x : ℕ) → m < 4 → (0xdbfcdb00 + bit_or m x) / 4 % 2 ≡ x / 4 % 2
high_bit m x h =
    let e : bit_or m x / 2 ^ 2 ≡ bit_or (m / 2 ^ 2) (x / 2 ^ 2) = or_shr m x 2 in
    let z : m / 2 ^ 2 ≡ 0 = omega arith in
    let f : bit_or m x / 4 ≡ x / 4 = e ∙ ap (λ (y : ℕ). bit_or y (x / 2 ^ 2)) z ∙ or_zero_l (x / 2 ^ 2) in
    omega arith

-- "A fresh device has a doorbell exactly if vendor bit 2 is set"
pub doorbell-is-bit-2 : (msi given : Bool) (features : ℕ) (wildcard : Bool)
    → bit 2 (vendor_word msi given features wildcard) ≡ fresh_doorbell given features wildcard
doorbell-is-bit-2 msi given features wildcard =
    ap (λ (d : ℕ). eqb d 1) (high_bit (pick msi 2 0) (feature_bits given features wildcard) (small msi)) ∙ by_flags given wildcard
  where
    small : (b : Bool) → pick b 2 0 < 4
    small true = omega arith
    small false = omega arith

    by_flags : (g w : Bool) → eqb (feature_bits g features w / 4 % 2) 1 ≡ fresh_doorbell g features w
    by_flags true true = let e : features % 256 / 4 % 2 ≡ features / 4 % 2 = omega arith in ap (λ (d : ℕ). eqb d 1) e
    by_flags true false = let e : without 2 (features % 256) / 4 % 2 ≡ 0 = omega arith in ap (λ (d : ℕ). eqb d 1) e
    by_flags false w = refl
