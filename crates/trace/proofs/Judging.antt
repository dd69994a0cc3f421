-- The layout's facts, the records one by one, and what an accepted trace is, both ways.
use mathlib.Core.Bool.{Bool, true, false}
use mathlib.Core.Path.{◌≡◌, refl, sym, ap, ◌∙◌}
use mathlib.Core.List.{List}
use Prim.Native.Nat.{ℕ, zero, suc, ◌+◌, ◌-◌, ◌<◌, ◌≤◌}
use native.Mathlib.Omega.{arith}
use borrow.Author.Tests.{eqb-true, eqb-false, ne_eqb, leb-true, lt-ltb}
use lib.Dec.{eqb, leb, ltb}
use lib.ListN.{length}
use Rattle.words.specs.Pick.{pick}
use Rattle.words.proofs.Picks.{pick-both}
use Rattle.words.specs.Refusals.{refusal_number, told}
use Rattle.words.specs.declared.Refusal.{Refusal}
use Rattle.words.proofs.Refusals.{some_number}
use Rattle.mmio_config.specs.declared.Configuration.{Configuration}
use Rattle.mmio_v2.specs.Fresh.{made_device, made_of, new_device, refusal}
use Rattle.mmio_v2.specs.declared.MmioV2Device.{MmioV2Device}
use Rattle.mmio_v2.specs.declared.MadeDevice.{MadeDevice}
use Rattle.mmio_v2.proofs.Making.{made_new}
use Rattle.trace.specs.Numbers.{word_at}
use Rattle.trace.specs.Form.{known_version, block_place, records_place, pool_place}
use Rattle.trace.specs.Block.{block_at}
use Rattle.trace.specs.Verdict.{count, pool_length, laid, layout_of, judged_of, or_else, judged_from, record_of, verdict_of, Good, next_at, number_of}
use Rattle.std.specs.Prelude.{Some, None, Result, Ok, Err}

-- ---- a layout with nothing wrong

laid_out : (s : List ℕ) → layout_of s ≡ 0 → laid s ≡ true
unfolding layout_of
laid_out s e = right (ltb (length s) 24) (ltb 65536 (length s)) (known_version (word_at s 0)) (laid s) e
  where
    no : {n : ℕ} → n ≡ 0 → 0 < n → ⊥
    no e h = omega arith

    right : (a b c d : Bool) → ◌≡◌ {A = ℕ} (pick a 8 (pick b 8 (pick c (pick d 0 10) 9))) 0 → d ≡ true
    right true b c d e = absurd (no e (omega arith))
    right false true c d e = absurd (no e (omega arith))
    right false false true true e = refl
    right false false true false e = absurd (no e (omega arith))
    right false false false d e = absurd (no e (omega arith))

pub laid_few : (s : List ℕ) → layout_of s ≡ 0 → count s ≤ 2000
laid_few s e = leb-true (count s) 2000 (pick-both (leb (count s) 2000) _ (laid_out s e)).0

-- the pool ends where the bytes do
pub laid-whole : (s : List ℕ) → layout_of s ≡ 0 → pool_place (count s) + pool_length s ≡ length s
laid-whole s e =
    eqb-true (pool_place (count s) + pool_length s) (length s)
    (pick-both (eqb (word_at s 16) (pool_place (count s))) _
    (pick-both (eqb (word_at s 12) records_place) _
    (pick-both (eqb (word_at s 8) block_place) _
    (pick-both (leb (count s) 2000) _ (laid_out s e)).1).1).1).1

-- ---- the records, one by one: what is wrong from record i on is what is wrong in all

one_more : (s : List ℕ) (i n : ℕ) → i < n → judged_from s i (n - i) ≡ or_else (judged_of s i) (judged_from s (i + 1) (n - (i + 1)))
unfolding judged_from
one_more s i n h = let e : n - i ≡ suc (n - (i + 1)) = omega arith in ap (judged_from s i) e

module _ (s : List ℕ) (n i : ℕ) (g : judged_from s i (n - i) ≡ judged_from s 0 n) where
  pub judging_more : i < n → 0 ≡ judged_of s i → judged_from s (i + 1) (n - (i + 1)) ≡ judged_from s 0 n
  judging_more h e = sym (one_more s i n h ∙ ap (λ (j : ℕ). or_else j (judged_from s (i + 1) (n - (i + 1)))) (sym e)) ∙ g

  pub judging_stop : (e : Refusal) → i < n → refusal_number e ≡ judged_of s i → refusal_number e ≡ judged_from s 0 n
  judging_stop e h q =
      let z : eqb (refusal_number e) 0 ≡ false = ne_eqb (refusal_number e) 0 (some_number e) in
      sym (rw z refl) ∙ ap (λ (j : ℕ). or_else j (judged_from s (i + 1) (n - (i + 1)))) q ∙ sym (one_more s i n h) ∙ g

  pub judging_last : n ≤ i → 0 ≡ judged_from s 0 n
  unfolding judged_from
  judging_last h = let e : n - i ≡ 0 = omega arith in sym (ap (judged_from s i) e) ∙ g

-- ---- one place

module _ (s : List ℕ) (i : ℕ) where
  pub next_one : layout_of s ≡ 0 → i < count s → judged_of s i ≡ 0 → Ok (Some (record_of s i)) ≡ next_at s i
  unfolding next_at
  next_one e h j = rw (e, lt-ltb i (count s) h, j)

  -- the number of what stands there: the layout's, else the record's, and 0 past the last
  pub next-number : number_of (next_at s i) ≡ or_else (layout_of s) (pick (ltb i (count s)) (judged_of s i) 0)
  unfolding next_at
  next-number = go (eqb (layout_of s) 0) (ltb i (count s)) (eqb (judged_of s i) 0) refl
    where
      go : (a b c : Bool) → eqb (judged_of s i) 0 ≡ c
          → number_of (pick a (pick b (pick c (Ok (Some (record_of s i))) (Err (judged_of s i))) (Ok None)) (Err (layout_of s))) ≡ pick a (pick b (judged_of s i) 0) (layout_of s)
      go true true true e = sym (eqb-true (judged_of s i) 0 e)
      go true true false e = refl
      go true false c e = refl
      go false b c e = refl

-- ---- the verdict: layout and records right, and the configuration's refusal or none

told-made : (r : Result MmioV2Device Refusal) → told r ≡ (made_of r).refusal
told-made (Ok d) = refl
told-made (Err e) = refl

pub told_new : (r : Result MmioV2Device Refusal) (k : Configuration) → r ≡ new_device k → told r ≡ refusal k
unfolding made_device
told_new r k q = told-made r ∙ ap (λ (x : Result MmioV2Device Refusal). (made_of x).refusal) q ∙ ap (λ (x : MadeDevice). x.refusal) (made_new k)

-- ---- BOTH WAYS: the verdict is 0 exactly for a trace that may run

all-judged : (s : List ℕ) (i n : ℕ) → judged_from s i n ≡ 0 → (j : ℕ) → i ≤ j → j < i + n → judged_of s j ≡ 0
unfolding judged_from
all-judged s i zero e j h k = absurd (none h k)
  where
    none : i ≤ j → j < i + 0 → ⊥
    none a b = omega arith
all-judged s i (suc n) e j h k = go (eqb (judged_of s i) 0) refl e (all-judged s (i + 1) n)
  where
    go : (t : Bool) → eqb (judged_of s i) 0 ≡ t → pick t (judged_from s (i + 1) n) (judged_of s i) ≡ 0
        → (judged_from s (i + 1) n ≡ 0 → (m : ℕ) → i + 1 ≤ m → m < i + 1 + n → judged_of s m ≡ 0) → judged_of s j ≡ 0
    go true z r more = here (eqb j i) refl
      where
        here : (t : Bool) → eqb j i ≡ t → judged_of s j ≡ 0
        here true q = rw (eqb-true j i q) (eqb-true (judged_of s i) 0 z)
        here false q = let d = eqb-false j i q in more r j (later d) (omega arith)
          where
            later : (j ≡ i → ⊥) → i + 1 ≤ j
            later d = omega arith
    go false z r more = absurd (eqb-false (judged_of s i) 0 z r)

none-judged : (s : List ℕ) (i n : ℕ) → ((j : ℕ) → i ≤ j → j < i + n → judged_of s j ≡ 0) → judged_from s i n ≡ 0
unfolding judged_from
none-judged s i zero h = refl
none-judged s i (suc n) h = rw (h i (omega arith) (omega arith)) (none-judged s (i + 1) n (λ j a b. h j (omega arith) (omega arith)))

or-none : (n m : ℕ) → or_else n m ≡ 0 → (n ≡ 0) × (m ≡ 0)
or-none n m = go (eqb n 0) refl
  where
    go : (t : Bool) → eqb n 0 ≡ t → pick t m n ≡ 0 → (n ≡ 0) × (m ≡ 0)
    go true e h = (eqb-true n 0 e, h)
    go false e h = absurd (eqb-false n 0 e h)

pub accepted-good : (s : List ℕ) → verdict_of s ≡ 0 → Good s
unfolding verdict_of
accepted-good s e =
    let a = or-none (layout_of s) (or_else (judged_from s 0 (count s)) (refusal (block_at s))) e in
    let b = or-none (judged_from s 0 (count s)) (refusal (block_at s)) a.1 in
    record { layout = a.0; records = λ i h. all-judged s 0 (count s) b.0 i (omega arith) (omega arith); config = b.1 }

pub good-accepted : (s : List ℕ) → Good s → verdict_of s ≡ 0
unfolding verdict_of
good-accepted s g = rw (g.layout, none-judged s 0 (count s) (λ j a b. g.records j (omega arith)), g.config)
