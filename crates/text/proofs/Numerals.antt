-- Laws of numerals: digit by digit, how many there are, and that a numeral reads back as its number.
use mathlib.Core.Path.{◌≡◌, refl, ap, ◌∙◌}
use mathlib.Core.Bool.{Bool, true, false}
use mathlib.Core.List.{List, [], ◌∷◌, ◌++◌}
use Prim.Native.Nat.{ℕ, zero, suc, ◌+◌, ◌*◌, ◌/◌, ◌%◌, ◌≤◌, ◌<◌}
use native.Mathlib.Nat.{div-lt_iff_lt-mul, lt_of_lt_of_le, mul-le-mul_left, mod-lt, div-add-mod', div-le_self, lt_of_le_of_lt, zero-mul, zero-add}
use native.Mathlib.Omega.{arith}
use borrow.Author.Tests.{lt-ltb, le-ltb, ltb-true, ltb-false}
use lib.Dec.{ltb}
use lib.ListN.{length, length-append}
use Rattle.words.specs.Pick.{pick}
use Rattle.text.specs.Numerals.{glyph, digits, numeral, pair, value_of, reads}

-- 1, 2, 4 ..
abbrev pub twos : ℕ → ℕ
twos zero = 1
twos (suc k) = twos k * 2

-- a number below m times the base, divided by the base
fewer : (m b n : ℕ) → 1 < b → n < m * b → n / b < m
fewer m b n h p = (div-lt_iff_lt-mul {k = b} {x = n} {y = m} (omega arith)).1 p

halved : (f b n : ℕ) → 1 < b → n < twos (suc f) → n / b < twos f
halved f b n h p = fewer (twos f) b n h (lt_of_lt_of_le p (mul-le-mul_left (twos f) h))

-- one more digit than enough changes nothing
same-fuel : (f b n : ℕ) → 1 < b → n < twos f → digits (suc f) b n ≡ digits (suc (suc f)) b n
unfolding digits
same-fuel zero b n h p = let l : n < b = omega arith in rw (lt-ltb n b l)
same-fuel (suc f) b n h p =
    ap (λ (x : List ℕ). pick (ltb n b) (glyph n ∷ []) (x ++ glyph (n % b) ∷ [])) (same-fuel f b (n / b) h (halved f b n h p))

-- one digit, or the quotient's digits and one more
pub numeral-one : (b n : ℕ) → n < b → numeral b n ≡ glyph n ∷ []
unfolding numeral digits
numeral-one b n h = rw (lt-ltb n b h)

pub numeral-more : (b n : ℕ) → 1 < b → n < twos 64 → b ≤ n → numeral b n ≡ numeral b (n / b) ++ glyph (n % b) ∷ []
unfolding numeral digits
numeral-more b n h u p =
    rw (le-ltb n b p) (ap (λ (x : List ℕ). x ++ glyph (n % b) ∷ []) (same-fuel 63 b (n / b) h (halved 63 b n h u)))

pub length-one : (b n : ℕ) → n < b → length (numeral b n) ≡ 1
length-one b n h = ap length (numeral-one b n h)

pub length_more : (b n : ℕ) → 1 < b → n < twos 64 → b ≤ n → length (numeral b n) ≡ length (numeral b (n / b)) + 1
length_more b n h u p = ap length (numeral-more b n h u p) ∙ length-append (numeral b (n / b)) (glyph (n % b) ∷ [])

-- the base, times the base k times
abbrev pub times : (b k : ℕ) → ℕ
times b zero = b
times b (suc k) = times b k * b

-- a number below that has at most k + 1 digits
pub length-numeral : (k b n : ℕ) → 1 < b → n < twos 64 → n < times b k → length (numeral b n) ≤ suc k
length-numeral zero b n h u p = rw (numeral-one b n p) (omega arith)
length-numeral (suc k) b n h u p = go (ltb n b) refl (length-numeral k b (n / b) h (lt_of_le_of_lt (div-le_self n b) u))
  where
    go : (t : Bool) → ltb n b ≡ t → (n / b < times b k → length (numeral b (n / b)) ≤ suc k) → length (numeral b n) ≤ suc (suc k)
    go true e r = rw (numeral-one b n (ltb-true n b e)) (omega arith)
    go false e r =
        rw (numeral-more b n h u (ltb-false n b e), length-append) (omega (arith, r (fewer (times b k) b n h p)))

pub decimal-short : (n : ℕ) → n < twos 64 → length (numeral 10 n) ≤ 20
decimal-short n h = length-numeral 19 10 n (omega arith) h (omega (arith, h))

pub hex-short : (n : ℕ) → n < twos 64 → length (numeral 16 n) ≤ 16
hex-short n h = length-numeral 15 16 n (omega arith) h h

-- ---- reading back

value-glyph : (d : ℕ) → d < 16 → value_of (glyph d) ≡ d
value-glyph d h = go (ltb d 10) refl
  where
    go : (t : Bool) → ltb d 10 ≡ t → value_of (pick t (48 + d) (87 + d)) ≡ d
    go true e = rw (lt-ltb (48 + d) 58 (omega (arith, ltb-true d 10 e))) (omega arith)
    go false e = rw (le-ltb (87 + d) 58 (omega arith)) (omega arith)

reads-last : (b a : ℕ) (xs : List ℕ) (x : ℕ) → reads b a (xs ++ x ∷ []) ≡ reads b a xs * b + value_of x
unfolding reads
reads-last b a [] x = refl
reads-last b a (y ∷ xs) x = reads-last b (a * b + value_of y) xs x

reads-one : (f b n : ℕ) → n < b → b ≤ 16 → reads b 0 (digits (suc f) b n) ≡ n
unfolding digits reads
reads-one f b n h u = rw (lt-ltb n b h, value-glyph n (omega arith)) (rw (zero-mul b, zero-add n))

reads-digits : (f b n : ℕ) → 1 < b → b ≤ 16 → n < twos f → reads b 0 (digits (suc f) b n) ≡ n
unfolding digits
reads-digits zero b n h u p = reads-one zero b n (omega arith) u
reads-digits (suc f) b n h u p = go (ltb n b) refl (reads-digits f b (n / b) h u (halved f b n h p))
  where
    go : (t : Bool) → ltb n b ≡ t → reads b 0 (digits (suc f) b (n / b)) ≡ n / b → reads b 0 (digits (suc (suc f)) b n) ≡ n
    go true e r = reads-one (suc f) b n (ltb-true n b e) u
    go false e r =
        let z : 0 < b = omega arith in
        let m : n % b < 16 = omega (arith, mod-lt n z) in
        rw e (reads-last b 0 (digits (suc f) b (n / b)) (glyph (n % b)) ∙ rw (r, value-glyph (n % b) m) (div-add-mod' n b))

-- a numeral reads back as its number
pub reads-back : (b n : ℕ) → 1 < b → b ≤ 16 → n < twos 64 → reads b 0 (numeral b n) ≡ n
unfolding numeral
reads-back b n h u p = reads-digits 64 b n h u p

-- and two digits as the low byte, which is all of a byte
pub pair-back : (v : ℕ) → reads 16 0 (pair v) ≡ v % 256
unfolding reads
pair-back v = rw (value-glyph (v / 16 % 16) (omega arith), value-glyph (v % 16) (omega arith)) (omega arith)
