-- What an accepted configuration is known to be.
use mathlib.Core.Bool.{Bool, true, false, not, ◌||◌, true≢false}
use mathlib.Core.Path.{◌≡◌, refl, sym, ap}
use Prim.Native.Nat.{ℕ, ◌-◌, ◌^◌, ◌≤◌}
use native.Mathlib.Omega.{arith}
use borrow.Author.Tests.{ltb-false, leb-true, eqb-true}
use lib.Dec.{eqb, ltb, leb}
use lib.ListN.{get_or}
use Rattle.std.proofs.lemmas.Bool.{and_parts}
use Rattle.std.specs.Prelude.{Option, Some, None, Result, Ok, Err}
use Rattle.words.specs.declared.Refusal.{Refusal}
use Rattle.words.specs.declared.Refusal.TheVariants.{WindowBase, QueueCount, QueueSize, VectorCount, RegionCount}
use Rattle.words.specs.Pick.{pick, below}
use Rattle.virtq.specs.Index.{max_queues}
use Rattle.virtq.specs.Fields.{size_fit, power_of_two}
use Rattle.mmio_config.specs.Fresh.{max_vectors, max_regions, refusal_of, queue_count, has_control, maxima_fit, maximum_fit, number_or_none, unless}
use Rattle.mmio_config.specs.declared.Configuration.{Configuration}

pub at_most_one : (b : Bool) → pick b 1 0 ≤ 1
at_most_one true = omega arith
at_most_one false = omega arith

-- the refusals' numbers, in the order of the checks; 0 where the state is made
pub refusal-numbered : (c : Configuration)
    → refusal_of c
    ≡ pick (ltb (2 ^ 64 - 0x2000) c.base) 2 (pick (eqb (queue_count c) 0 || ltb max_queues (queue_count c)) 3 (pick (not (maxima_fit c)) 4 (pick (ltb max_vectors c.vectors) 5 (pick (ltb max_regions c.regions) 6 0))))
refusal-numbered c =
    go (ltb (2 ^ 64 - 0x2000) c.base) (eqb (queue_count c) 0 || ltb max_queues (queue_count c)) (not (maxima_fit c)) (ltb max_vectors c.vectors) (ltb max_regions c.regions)
  where
    go : (a b d e f : Bool)
        → number_or_none (pick a (Some WindowBase) (pick b (Some QueueCount) (pick d (Some QueueSize) (pick e (Some VectorCount) (pick f (Some RegionCount) None)))))
        ≡ pick a 2 (pick b 3 (pick d 4 (pick e 5 (pick f 6 0))))
    go true b d e f = refl
    go false true d e f = refl
    go false false true e f = refl
    go false false false true f = refl
    go false false false false true = refl
    go false false false false false = refl

-- no refusal: each check passed
pub record Passed (c : Configuration) : Type 0 where
  pub based : ltb (2 ^ 64 - 0x2000) c.base ≡ false
  pub some : eqb (queue_count c) 0 ≡ false
  pub few : ltb max_queues (queue_count c) ≡ false
  pub fitting : maxima_fit c ≡ true
  pub vectors : ltb max_vectors c.vectors ≡ false
  pub regions : ltb max_regions c.regions ≡ false

pub passed : (c : Configuration) → refusal_of c ≡ 0 → Passed c
passed c =
    go (ltb (2 ^ 64 - 0x2000) c.base) (eqb (queue_count c) 0) (ltb max_queues (queue_count c)) (maxima_fit c) (ltb max_vectors c.vectors) (ltb max_regions c.regions)
    refl refl refl refl refl refl
  where
    go : (a b d e f g : Bool) → ltb (2 ^ 64 - 0x2000) c.base ≡ a → eqb (queue_count c) 0 ≡ b → ltb max_queues (queue_count c) ≡ d
        → maxima_fit c ≡ e → ltb max_vectors c.vectors ≡ f → ltb max_regions c.regions ≡ g
        → ◌≡◌ {A = ℕ} (number_or_none (pick a (Some WindowBase) (pick (b || d) (Some QueueCount) (pick (not e) (Some QueueSize) (pick f (Some VectorCount) (pick g (Some RegionCount) None)))))) 0 → Passed c
    go true b d e f g ha hb hd he hf hg h = absurd (omega arith)
    go false true d e f g ha hb hd he hf hg h = absurd (omega arith)
    go false false true e f g ha hb hd he hf hg h = absurd (omega arith)
    go false false false false f g ha hb hd he hf hg h = absurd (omega arith)
    go false false false true true g ha hb hd he hf hg h = absurd (omega arith)
    go false false false true false true ha hb hd he hf hg h = absurd (omega arith)
    go false false false true false false ha hb hd he hf hg h =
        record { based = ha; some = hb; few = hd; fitting = he; vectors = hf; regions = hg }

-- a size that a queue of this maximum may have is at most it
size-at-most : (max s : ℕ) → size_fit max s ≡ true → s ≤ max
size-at-most max s = go (leb 1 s) (leb s max) refl
  where
    go : (a b : Bool) → leb s max ≡ b → pick a (pick b (power_of_two s) false) false ≡ true → s ≤ max
    go true true e h = leb-true s max e
    go true false e h = absurd (true≢false (sym h))
    go false b e h = absurd (true≢false (sym h))

-- the control queue's size fits 16 bits, and the data queues the table
pub small : (c : Configuration) → refusal_of c ≡ 0 → (c.control ≤ 32768) × (c.dataqueues ≤ 16)
small c h =
    let p : Passed c = passed c h in
    (control (eqb c.control 0) refl p.fitting, omega (arith, ltb-false max_queues (queue_count c) p.few))
  where
    control : (z : Bool) → eqb c.control 0 ≡ z → maxima_fit c ≡ true → c.control ≤ 32768
    control true e f = omega (arith, eqb-true c.control 0 e)
    control false e f =
        let g : pick (has_control c) (maximum_fit c.control) true ≡ true =
        (and_parts (below c.dataqueues (λ (i : ℕ). maximum_fit (get_or c.sizes i 0))) (pick (has_control c) (maximum_fit c.control) true) f).1
        in
        size-at-most 32768 c.control (rw e at g)

-- the same refusal, whatever would have been made
pub unless-err : {X Y : Type 0} (r : Option Refusal) (x : X) (y : Y) (e : Refusal) → ◌≡◌ {A = Result X Refusal} (Err e) (unless r x) → ◌≡◌ {A = Result Y Refusal} (Err e) (unless r y)
unless-err None x y e h = cc
unless-err (Some d) x y e h = cc

-- what is made of it where nothing was refused
pub unless-ok : {X Y : Type 0} (r : Option Refusal) (x v : X) (y w : Y) → ◌≡◌ {A = Result X Refusal} (Ok v) (unless r x) → (v ≡ x → w ≡ y)
    → ◌≡◌ {A = Result Y Refusal} (Ok w) (unless r y)
unless-ok None x v y w h f = ap Ok (f (cc))
unless-ok (Some d) x v y w h f = cc
