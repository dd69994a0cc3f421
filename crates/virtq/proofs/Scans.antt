-- The area test without its sum, the scan's turns, and what the scan's answer means.
use mathlib.Core.Bool.{Bool, true, false}
use mathlib.Core.Path.{◌≡◌, refl, sym, ap, ◌∙◌}
use Prim.Native.Nat.{ℕ, zero, suc, ◌+◌, ◌-◌, ◌≤◌, ◌<◌}
use native.Mathlib.Nat.{add-zero, not-suc-le-zero, le_of_suc-le-suc}
use native.Mathlib.Omega.{arith}
use borrow.Author.Tests.{le-leb, lt-leb, leb-true, leb-false}
use lib.Dec.{leb}
use Rattle.words.specs.Pick.{pick}
use Rattle.virtq.specs.declared.Memory.{Memory}
use Rattle.virtq.specs.declared.Field.{Field}
use Rattle.std.specs.Prelude.{Option, Some, None}
use Rattle.virtq.specs.declared.QueueIndex.{QueueIndex}
use Rattle.virtq.specs.Valid.{valid, scanned}

-- the end is not past the memory exactly if the start is not past the memory less the length
pub no-sum : (m start n : ℕ) → n ≤ m → leb start (m - n) ≡ leb (start + n) m
no-sum m start n h = go (leb start (m - n)) refl
  where
    go : (b : Bool) → leb start (m - n) ≡ b → leb start (m - n) ≡ leb (start + n) m
    go true e = e ∙ sym (le-leb (start + n) m (omega (arith, leb-true start (m - n) e)))
    go false e = e ∙ sym (lt-leb (start + n) m (omega (arith, leb-false start (m - n) e)))

-- what is longer than the memory ends past it, wherever it starts
pub too_long : (m start n : ℕ) → m < n → false ≡ leb (start + n) m
too_long m start n h = sym (lt-leb (start + n) m (omega arith))

-- the loop's invariant: what is found from queue i on is what is found in all, and none was found so far
pub record Going (m : Memory) (g : ℕ → Field → ℕ) (n i : ℕ) (found : Option QueueIndex) : Type 0 where
  pub whole : scanned m g i (n - i) ≡ scanned m g 0 n
  pub within : i ≤ n
  pub none : found ≡ None

module _ (m : Memory) (g : ℕ → Field → ℕ) (n : ℕ) where
  here : (i : ℕ) (b : Bool) → i < n → valid m (g i) ≡ b
      → scanned m g i (n - i) ≡ pick b (scanned m g (i + 1) (n - (i + 1))) (Some (record { 0 = i }))
  unfolding scanned
  here i b h e = let k : n - i ≡ suc (n - (i + 1)) = omega arith in rw (k, e)

  pub going_more : (i : ℕ) (found : Option QueueIndex) → i < n → valid m (g i) ≡ true → Going m g n i found → Going m g n (i + 1) found
  going_more i found h e w = record { whole = sym (here i true h e) ∙ w.whole; within = omega arith; none = w.none }

  pub going_stop : (i : ℕ) (found : Option QueueIndex) → i < n → valid m (g i) ≡ false → Going m g n i found → Some (record { 0 = i }) ≡ scanned m g 0 n
  going_stop i found h e w = sym (here i false h e) ∙ w.whole

  pub going_last : (i : ℕ) (found : Option QueueIndex) → n ≤ i → Going m g n i found → found ≡ scanned m g 0 n
  unfolding scanned
  going_last i found h w = let k : n - i ≡ 0 = omega arith in w.none ∙ sym (ap (scanned m g i) k) ∙ w.whole

-- ---- the answer in words

-- none is found exactly if each queue is valid
pub scan-all : (m : Memory) (g : ℕ → Field → ℕ) (i n : ℕ) → scanned m g i n ≡ None → (j : ℕ) → j < n → valid m (g (i + j)) ≡ true
unfolding scanned
scan-all m g i zero h j k = absurd (not-suc-le-zero k)
scan-all m g i (suc n) h j k = go (valid m (g i)) refl h j k (scan-all m g (i + 1) n)
  where
    go : (b : Bool) → valid m (g i) ≡ b → pick b (scanned m g (i + 1) n) (Some (record { 0 = i })) ≡ None
        → (j : ℕ) → j < suc n → (scanned m g (i + 1) n ≡ None → (j : ℕ) → j < n → valid m (g ((i + 1) + j)) ≡ true)
        → valid m (g (i + j)) ≡ true
    go false e p j k ih = let z : ◌≡◌ {A = ℕ} 0 1 = cc in absurd (omega arith)
    go true e p zero k ih = rw (add-zero i) e
    go true e p (suc j) k ih = let a : i + suc j ≡ (i + 1) + j = omega arith in rw a (ih p j (le_of_suc-le-suc k))

pub all-scan : (m : Memory) (g : ℕ → Field → ℕ) (i n : ℕ) → ((j : ℕ) → j < n → valid m (g (i + j)) ≡ true) → scanned m g i n ≡ None
unfolding scanned
all-scan m g i zero h = refl
all-scan m g i (suc n) h =
    let e : valid m (g i) ≡ true = rw (add-zero i) at (h 0 (omega arith)) in
    rw e (all-scan m g (i + 1) n (λ j k. let a : (i + 1) + j ≡ i + suc j = omega arith in rw a (h (suc j) (omega arith))))

-- the queue found is the first that is not valid
pub record First (m : Memory) (g : ℕ → Field → ℕ) (i n q : ℕ) : Type 0 where
  pub from : i ≤ q
  pub within : q < i + n
  pub bad : valid m (g q) ≡ false
  pub good : (j : ℕ) → i ≤ j → j < q → valid m (g j) ≡ true

abbrev place : Option QueueIndex → ℕ
place None = 0
place (Some q) = q.0

pub scan-first : (m : Memory) (g : ℕ → Field → ℕ) (i n q : ℕ) → scanned m g i n ≡ Some (record { 0 = q }) → First m g i n q
unfolding scanned
scan-first m g i zero q h = let z : ◌≡◌ {A = ℕ} 0 1 = cc in absurd (omega arith)
scan-first m g i (suc n) q h = go (valid m (g i)) refl h (scan-first m g (i + 1) n q)
  where
    each : valid m (g i) ≡ true → First m g (i + 1) n q → (j : ℕ) → i ≤ j → j < q → (b : Bool) → leb (i + 1) j ≡ b → valid m (g j) ≡ true
    each e r j a b true k = r.good j (leb-true (i + 1) j k) b
    each e r j a b false k = let s : j ≡ i = omega (arith, leb-false (i + 1) j k) in rw s e

    go : (b : Bool) → valid m (g i) ≡ b → pick b (scanned m g (i + 1) n) (Some (record { 0 = i })) ≡ Some (record { 0 = q })
        → (scanned m g (i + 1) n ≡ Some (record { 0 = q }) → First m g (i + 1) n q) → First m g i (suc n) q
    go false e p ih =
        let s : i ≡ q = ap place p in
        record { from = omega arith; within = omega arith; bad = rw (← s) e; good = λ j a b. absurd (omega arith) }
    go true e p ih =
        let r : First m g (i + 1) n q = ih p in
        record {
          from = omega (arith, r.from);
          within = omega (arith, r.within);
          bad = r.bad;
          good = λ j a b. each e r j a b (leb (i + 1) j) refl;
        }
