-- Powers of two in words: the test holds exactly of the sixteen numbers 2 ^ 0 to 2 ^ 15.
use mathlib.Core.Bool.{Bool, true, false, true≢false}
use mathlib.Core.Path.{◌≡◌, refl, sym, ◌∙◌}
use Prim.Native.Nat.{ℕ, zero, suc, ◌^◌, ◌<◌}
use native.Mathlib.Nat.{not-suc-le-zero, le_refl, le_step}
use native.Mathlib.Omega.{arith}
use borrow.Author.Tests.{eqb-true, eq-eqb}
use lib.Dec.{eqb}
use Rattle.words.specs.Pick.{pick}
use Rattle.virtq.specs.Fields.{power_below}

-- v is a power of two below 2 ^ n
pub record Power (n v : ℕ) : Type 0 where
  pub exponent : ℕ
  pub small : exponent < n
  pub is : v ≡ 2 ^ exponent

pub power-found : (n v : ℕ) → power_below n v ≡ true → Power n v
power-found zero v h = absurd (true≢false (sym h))
power-found (suc n) v h = go (eqb v (2 ^ n)) refl h (power-found n v)
  where
    go : (b : Bool) → eqb v (2 ^ n) ≡ b → pick b true (power_below n v) ≡ true → (power_below n v ≡ true → Power n v) → Power (suc n) v
    go true e k ih = record { exponent = n; small = le_refl (suc n); is = eqb-true v (2 ^ n) e }
    go false e k ih = let p : Power n v = ih k in record { exponent = p.exponent; small = le_step p.small; is = p.is }

pub power-holds : (n k : ℕ) → k < n → power_below n (2 ^ k) ≡ true
power-holds zero k h = absurd (not-suc-le-zero h)
power-holds (suc n) k h = go (eqb (2 ^ k) (2 ^ n)) refl (power-holds n k)
  where
    smaller : eqb (2 ^ k) (2 ^ n) ≡ false → (b : Bool) → eqb k n ≡ b → k < n
    smaller e true q = absurd (true≢false (sym (eq-eqb (2 ^ k) (2 ^ n) (rw (eqb-true k n q))) ∙ e))
    smaller e false q = let d : k ≡ n → ⊥ = λ r. true≢false (sym (eq-eqb k n r) ∙ q) in omega arith

    go : (b : Bool) → eqb (2 ^ k) (2 ^ n) ≡ b → (k < n → power_below n (2 ^ k) ≡ true) → pick b true (power_below n (2 ^ k)) ≡ true
    go true e ih = refl
    go false e ih = ih (smaller e (eqb k n) refl)
