-- One entry of a table.
use mathlib.Core.Bool.{Bool, true, false}
use mathlib.Core.Path.{◌≡◌, refl, sym, ap, ◌∙◌}
use mathlib.Core.List.{List}
use Prim.Native.Nat.{ℕ, zero, suc, ◌+◌, ◌<◌, ◌≤◌, min}
use native.Mathlib.Omega.{arith}
use borrow.Author.Tests.{lt-ltb, le-ltb, le-leb, lt-leb, leb-true, leb-false, eqb-true, eqb-false, ltb-true, ltb-false}
use lib.Dec.{eqb, ltb, leb}
use lib.ListN.{length, get_or, get_or-eq_default}
use lib.Seq.{set_out}
use Rattle.words.specs.Pick.{pick}
use Rattle.msi.specs.declared.Msi.{Msi}
use Rattle.mmio_config.specs.declared.Vector.{Vector}
use Rattle.mmio_config.specs.Fresh.{no_vector}
use Rattle.mmio_tables.specs.Tables.{some_below, updatable, stored, stored_at, remasked, masked_at}

-- a number below both bounds, and one at or past either
pub below_both : (i n m : ℕ) → i < n → i < m → ltb i (min n m) ≡ true
below_both i n m h k = lt-ltb i (min n m) (omega arith)

pub past_first : (i n m : ℕ) → n ≤ i → ltb i (min n m) ≡ false
past_first i n m h = le-ltb i (min n m) (omega arith)

pub past-second : (i n m : ℕ) → m ≤ i → ltb i (min n m) ≡ false
past-second i n m h = le-ltb i (min n m) (omega arith)

-- the bound of the update command, as one comparison: the data queues' vectors are 1 up to their count
some-vector : (d v : ℕ) → some_below d (λ (q : ℕ). eqb (q + 1) v) ≡ pick (leb 1 v) (leb v d) false
some-vector zero v = go (leb 1 v) refl
  where
    go : (b : Bool) → leb 1 v ≡ b → false ≡ pick b (leb v 0) false
    go true e = sym (lt-leb v 0 (omega (arith, leb-true 1 v e)))
    go false e = refl
some-vector (suc d) v = go (eqb (d + 1) v) refl (some-vector d v)
  where
    one : (b : Bool) → leb 1 v ≡ b → d + 1 ≡ v → true ≡ pick b (leb v (suc d)) false
    one true e h = sym (le-leb v (suc d) (omega arith))
    one false e h = absurd (omega (arith, leb-false 1 v e))

    same : (b : Bool) → leb 1 v ≡ b → (d + 1 ≡ v → ⊥) → pick b (leb v d) false ≡ pick b (leb v (suc d)) false
    same true e n = by (leb v d) refl
      where
        by : (t : Bool) → leb v d ≡ t → leb v d ≡ leb v (suc d)
        by true f = f ∙ sym (le-leb v (suc d) (omega (arith, leb-true v d f)))
        by false f = f ∙ sym (lt-leb v (suc d) (omega (arith, leb-false v d f)))
    same false e n = refl

    go : (t : Bool) → eqb (d + 1) v ≡ t → some_below d (λ (q : ℕ). eqb (q + 1) v) ≡ pick (leb 1 v) (leb v d) false
        → pick t true (some_below d (λ (q : ℕ). eqb (q + 1) v)) ≡ pick (leb 1 v) (leb v (suc d)) false
    go true e ih = one (leb 1 v) refl (eqb-true (d + 1) v e)
    go false e ih = ih ∙ same (leb 1 v) refl (eqb-false (d + 1) v e)

pub update-bound : (d v : ℕ) → leb v d ≡ updatable d v
update-bound d v = go (eqb v 0) refl
  where
    go : (b : Bool) → eqb v 0 ≡ b → leb v d ≡ pick b true (some_below d (λ (q : ℕ). eqb (q + 1) v))
    go true e = le-leb v d (omega (arith, eqb-true v 0 e))
    go false e =
        let one : leb 1 v ≡ true = le-leb 1 v (nonzero (eqb-false v 0 e)) in
        sym (some-vector d v ∙ rw one)
      where
        nonzero : (v ≡ 0 → ⊥) → 1 ≤ v
        nonzero n = omega arith

-- a bound that holds anyway
pub below-min : (i n m : ℕ) → i < m → ltb i n ≡ ltb i (min n m)
below-min i n m h = go (ltb i n) refl
  where
    go : (b : Bool) → ltb i n ≡ b → ltb i n ≡ ltb i (min n m)
    go true e = e ∙ sym (below_both i n m (ltb-true i n e) h)
    go false e = e ∙ sym (past_first i n m (ltb-false i n e))

-- past a table nothing is stored, and nothing is masked
pub store-past : (vs : List Vector) (v : ℕ) (m : Msi) → length vs ≤ v → vs ≡ stored_at vs v m
store-past vs v m h = sym (set_out vs v (stored m (get_or vs v no_vector)) h)

pub mask-past : (vs : List Vector) (v : ℕ) (m : Bool) → length vs ≤ v → vs ≡ masked_at vs v m
mask-past vs v m h = sym (set_out vs v (remasked (get_or vs v no_vector) m) h)

pub unmasked-past : (vs : List Vector) (v : ℕ) → length vs ≤ v → false ≡ (get_or vs v no_vector).masked
unmasked-past vs v h = ap (λ (x : Vector). x.masked) (sym (get_or-eq_default vs no_vector h))
