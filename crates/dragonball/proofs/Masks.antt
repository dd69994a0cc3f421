-- The code's masks and products, over plain numbers.
use Rattle.std.proofs.Common.{◌≡◌, ℕ, ◌+◌, ◌-◌, ◌*◌, ◌/◌, ◌%◌, ◌^◌, ◌<◌, ◌≤◌, false, not, nat_eq, refl, ap, ◌∙◌, ap₂, mul-le-mul, arith}
use lib.Bits.{bit_and, bit_or, and_block, and_high, and_mask, or_block, or_shifted, or_zero_r}
use lib.Pow.{le_ones}
use Rattle.std.specs.Prelude.{Option, None, Some}
use Rattle.std.specs.Option.{is_some, unwrap_or}
use Rattle.words.specs.Pick.{pick}
use Rattle.words.specs.Bits.{bit, without}
use Rattle.words.proofs.Bits.{masked-bit}
use Rattle.dragonball.specs.declared.MsiCommand.{MsiCommand}
use Rattle.dragonball.specs.Messages.{command_of}

-- a product of two 32-bit numbers and a third fit 64 bits
pub product_small : {a b : ℕ} → a < 2 ^ 32 → b < 2 ^ 32 → a * b ≤ (2 ^ 32 - 1) * (2 ^ 32 - 1)
product_small {a} {b} h k = mul-le-mul (le_ones 32 h) (le_ones 32 k)

-- `x & !4` of a 32-bit number clears bit 2 and leaves the others
pub without-bit-2 : (x : ℕ) → x < 2 ^ 32 → bit_and x (2 ^ 32 - 1 - 4) ≡ without 2 x
without-bit-2 x h =
    ap (λ (y : ℕ). bit_and y (2 ^ 32 - 1 - 4)) (split-8 x)
    ∙ and_block 3 (x / 8) (2 ^ 29 - 1) (x % 8) 3 (omega arith) (omega arith)
    ∙ ap₂ (λ (a b : ℕ). a * 8 + b) (and_mask (x / 8) 29) (and_mask (x % 8) 2)
    ∙ omega arith
  where
    split-8 : (x : ℕ) → x ≡ x / 8 * 2 ^ 3 + x % 8
    split-8 x = omega arith

-- the vendor's 24 bits and two words of 8 bits, or-ed
pub vendor-or : (m b : ℕ) → m < 2 ^ 8 → b < 2 ^ 8 → bit_or (bit_or 0xdbfcdb00 m) b ≡ 0xdbfcdb00 + bit_or m b
vendor-or m b h k =
    ap (λ (x : ℕ). bit_or x b) (or_shifted 0xdbfcdb 8 m h)
    ∙ ap (bit_or (0xdbfcdb00 + m)) (none b)
    ∙ or_block 8 0xdbfcdb 0 m b h k
    ∙ ap (λ (x : ℕ). x * 2 ^ 8 + bit_or m b) (or_zero_r 0xdbfcdb)
  where
    none : (b : ℕ) → b ≡ 0 * 2 ^ 8 + b
    none b = omega arith

-- the two masks of the message command are its quotient and remainder by 4,096
pub command-parts : (v : ℕ) → v < 2 ^ 16 → ◌≡◌ {A = MsiCommand} (record { code = bit_and v 0xf000; argument = bit_and v 0x0fff }) (command_of v)
command-parts v h =
    let high : bit_and v 0xf000 ≡ v / 2 ^ 12 % 2 ^ 4 * 2 ^ 12 = and_high v 4 12 in
    let code : bit_and v 0xf000 ≡ 4096 * (v / 4096) = omega arith in
    let argument : bit_and v 0x0fff ≡ v % 4096 = and_mask v 12 in
    ap₂ parts code argument
  where
    parts : ℕ → ℕ → MsiCommand
    parts x y = record { code = x; argument = y }

-- a features word, if one is given: its bit 2, and its low 8 bits without it
pub given-bit : (f : Option ℕ) → not (nat_eq (bit_and (unwrap_or f 0) 4) 0) ≡ pick (is_some f) (bit 2 (unwrap_or f 0)) false
given-bit None = refl
given-bit (Some x) = masked-bit 2 x

pub given-without : (f : Option ℕ) → bit_and (bit_and (unwrap_or f 0) 255) (2 ^ 32 - 1 - 4) ≡ pick (is_some f) (without 2 (unwrap_or f 0 % 256)) 0
given-without None = refl
given-without (Some x) = ap (λ (y : ℕ). bit_and y (2 ^ 32 - 1 - 4)) (and_mask x 8) ∙ without-bit-2 (x % 256) (omega arith)
