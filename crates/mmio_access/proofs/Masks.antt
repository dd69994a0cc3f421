-- What the code's masks are, in terms of bits. No rule of the transport stands here.
use mathlib.Core.Bool.{not, ◌&&◌}
use mathlib.Core.Path.{◌≡◌, sym, ap, ap₂, ◌∙◌}
use Prim.Native.Nat.{ℕ, ◌+◌, ◌*◌, ◌/◌, ◌%◌, ◌^◌, ◌<◌}
use native.Mathlib.Nat.{one-mul, mod-lt, mod-eq_of_lt, div-add-mod', lt_of_le_of_lt}
use native.Mathlib.Omega.{arith}
use lib.Dec.{eqb}
use lib.Pow.{pow_pos}
use lib.Bits.{bit_and, and_block, and_mod, and_le_r}
use Rattle.std.proofs.Common.{lit<}
use Rattle.std.proofs.lemmas.Nat.Bits.{and_pow, shr_and_one}
use Rattle.words.specs.Bits.{bit}

-- a mask with one bit above the others
above : (k v m : ℕ) → m < 2 ^ k → bit_and v (2 ^ k + m) ≡ v / 2 ^ k % 2 * 2 ^ k + bit_and v m
above k v m h =
    let low : bit_and (v % 2 ^ k) m ≡ bit_and v m =
    ap (bit_and (v % 2 ^ k)) (sym (mod-eq_of_lt h)) ∙ sym (and_mod v m k) ∙ mod-eq_of_lt (lt_of_le_of_lt (and_le_r v m) h)
    in
    ap₂ bit_and (sym (div-add-mod' v (2 ^ k))) (ap (λ x. x + m) (sym (one-mul (2 ^ k))))
    ∙ and_block k (v / 2 ^ k) 1 (v % 2 ^ k) m (mod-lt v (pow_pos k)) h
    ∙ ap₂ (λ x y. x * 2 ^ k + y) (shr_and_one v k) low

-- the digits that a mask keeps, highest first
fields-are : (n a b c : ℕ) → n ≡ a * 128 + (b * 8 + c * 4) → a < 2 → b < 2 → c < 2 → eqb n 8 ≡ eqb b 1 && (not (eqb c 1) && not (eqb a 1))
fields-are n a b c e i j k = grind arith

acks-are : (n a b c : ℕ) → n ≡ a * 128 + (b * 8 + c * 2) → a < 2 → b < 2 → c < 2 → eqb n 2 ≡ eqb c 1 && (not (eqb b 1) && not (eqb a 1))
acks-are n a b c e i j k = grind arith

config-is : (n a c : ℕ) → n ≡ a * 128 + c * 2 → a < 2 → c < 2 → eqb n 2 ≡ eqb c 1 && not (eqb a 1)
config-is n a c e i k = grind arith

pub fields_by_mask : (v : ℕ) → eqb (bit_and v 0x8c) 8 ≡ bit 3 v && (not (bit 2 v) && not (bit 7 v))
fields_by_mask v =
    fields-are (bit_and v 0x8c) (v / 2 ^ 7 % 2) (v / 2 ^ 3 % 2) (v / 2 ^ 2 % 2)
    (omega (arith, above 7 v 0xc (lit< tt), above 3 v 4 (lit< tt), and_pow v 2)) (omega arith) (omega arith) (omega arith)

pub acks_by_mask : (v : ℕ) → eqb (bit_and v 0x8a) 2 ≡ bit 1 v && (not (bit 3 v) && not (bit 7 v))
acks_by_mask v =
    acks-are (bit_and v 0x8a) (v / 2 ^ 7 % 2) (v / 2 ^ 3 % 2) (v / 2 ^ 1 % 2)
    (omega (arith, above 7 v 0xa (lit< tt), above 3 v 2 (lit< tt), and_pow v 1)) (omega arith) (omega arith) (omega arith)

pub config_by_mask : (v : ℕ) → eqb (bit_and v 0x82) 2 ≡ bit 1 v && not (bit 7 v)
config_by_mask v =
    config-is (bit_and v 0x82) (v / 2 ^ 7 % 2) (v / 2 ^ 1 % 2)
    (omega (arith, above 7 v 2 (lit< tt), and_pow v 1)) (omega arith) (omega arith)

-- a mask of the bit for MSI alone
pub msi_by_mask : (v : ℕ) → bit_and v 2 ≡ v / 2 ^ 1 % 2 * 2
msi_by_mask v = and_pow v 1

-- the lowest bit
pub low_bit : (v : ℕ) → v / 2 ^ 0 % 2 ≡ v % 2
low_bit v = omega arith
