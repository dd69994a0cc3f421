-- What the chains of a fresh state leave: a test at each of the first elements, and lists made place by place.
use mathlib.Core.Bool.{Bool, true, false, ◌&&◌}
use mathlib.Core.Path.{◌≡◌, refl, sym, ap, subst, ◌∙◌}
use mathlib.Core.List.{List}
use Prim.Native.Nat.{ℕ, zero, suc, ◌+◌, ◌<◌, ◌≤◌}
use native.Mathlib.Omega.{arith}
use borrow.Author.Tests.{eqb-true, eqb-false}
use denote.Param.Members.{Mut, Called}
use lib.Dec.{eqb}
use lib.ListN.{length, get_or, take}
use Rattle.std.specs.Array.{IsFromFnResult, IsFromFnResultFrom}
use Rattle.std.specs.List.{list_all}
use Rattle.std.proofs.lemmas.List.{ext_get_or}
use Rattle.std.proofs.lemmas.List.Folds.{list_all_more}
use Rattle.words.specs.Pick.{pick, below}
use Rattle.words.specs.Lists.{each}
use Rattle.words.proofs.Lists.{length-each, get_or-each}

-- a test at each of the first elements
pub list_all-take : {X : Type 0} (p : X → Bool) (xs : List X) (n : ℕ) (d : X) → n ≤ length xs → list_all p (take n xs) ≡ below n (λ (i : ℕ). p (get_or xs i d))
list_all-take p xs zero d h = refl
list_all-take p xs (suc n) d h =
    let e : suc n ≡ n + 1 = omega arith in
    ap (λ (m : ℕ). list_all p (take m xs)) e ∙ list_all_more p xs n d (omega arith)
    ∙ both (list_all p (take n xs)) (p (get_or xs n d)) (list_all-take p xs n d (omega arith))
  where
    both : (a b : Bool) {c : Bool} → a ≡ c → (a && b) ≡ pick b c false
    both true true e = e
    both true false e = refl
    both false true e = e
    both false false e = refl

-- a list is each of another if it is at every place
pub each-fits : {X Y : Type 0} (f : ℕ → X → Y) (xs : List X) (ys : List Y) (d : X) (e : Y) → length ys ≡ length xs
    → ((k : ℕ) → k < length xs → get_or ys k e ≡ f k (get_or xs k d)) → ys ≡ each f xs
each-fits f xs ys d e l h =
    ext_get_or e ys (each f xs) (l ∙ sym (length-each f xs))
    (λ k b. let w : k < length xs = omega arith in h k w ∙ sym (get_or-each f xs k d e w))

-- what `from_fn` makes of a closure that changes nothing
module _ {F Y : Type 0} (g : Mut F (ℕ × Unit {0}) Y) (f : F) (h : ℕ → Y) (same : (i : ℕ) (y : Y) (q : F) → Called g f (i, tt) y q → (q ≡ f) × (y ≡ h i)) where
  made-from : (ys : List Y) (i m j : ℕ) (e : Y) → IsFromFnResultFrom g f ys i m → i ≤ j → j < i + m → get_or ys j e ≡ h j
  made-from ys i zero j e r a b = absurd (omega arith)
  made-from ys i (suc m) j e (q, y, at, called, rest) a b =
      go (eqb j i) refl
      (λ l r. made-from ys (i + 1) m j e (subst (λ (p : F). IsFromFnResultFrom g p ys (i + 1) m) (same i y q called).0 rest) l r)
    where
      go : (t : Bool) → eqb j i ≡ t → (i + 1 ≤ j → j < (i + 1) + m → get_or ys j e ≡ h j) → get_or ys j e ≡ h j
      go true z k = let w : j ≡ i = eqb-true j i z in rw w (at.1 e ∙ (same i y q called).1)
      go false z k = let w : j ≡ i → ⊥ = eqb-false j i z in k (omega arith) (omega arith)

  pub made-at : (ys : List Y) (n j : ℕ) (e : Y) → IsFromFnResult g f ys n → j < n → get_or ys j e ≡ h j
  made-at ys n j e r b = made-from ys 0 n j e r.each (omega arith) (omega arith)
