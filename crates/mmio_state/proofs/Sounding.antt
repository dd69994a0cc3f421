-- `Sound` is what a fresh state has, and no test that document 01 doesn't name is met on a sound state.
use mathlib.Core.Bool.{Bool, true, false}
use mathlib.Core.Path.{◌≡◌, refl, ap, ◌∙◌}
use mathlib.Core.List.{List}
use Prim.Native.Nat.{ℕ, zero, suc, ◌+◌, ◌-◌, ◌*◌, ◌^◌, ◌<◌, ◌≤◌, min}
use native.Mathlib.Omega.{arith}
use borrow.Author.Tests.{ltb-false, ltb-true, eqb-true, eqb-false, le-ltb, ne_eqb}
use lib.Dec.{eqb, ltb}
use lib.ListN.{length, get_or, replicate, get_or-eq_default}
use Rattle.words.specs.Pick.{pick}
use Rattle.words.proofs.Lists.{get_or-each, length-each}
use Rattle.virtq.specs.Index.{max_queues}
use Rattle.virtq.specs.Fields.{fresh_queue, no_queue}
use Rattle.tape.specs.Held.{no_held, bell_address, note_address}
use Rattle.mmio_config.specs.Fresh.{max_vectors, max_regions, refusal_of, queue_count, has_control, maximum_at, maxima, fresh_queues, no_vector}
use Rattle.mmio_config.specs.declared.Configuration.{Configuration}
use Rattle.mmio_config.proofs.Accepting.{Passed, passed}
use Rattle.mmio_state.specs.State.{State, queues_in}
use Rattle.mmio_state.specs.Fresh.{fresh_state}
use Rattle.mmio_state.specs.Sound.{Sound}

-- ---- blank past the counts

-- whatever the place, a table of blanks has a blank there
pub blank-there {ℓ} : {A : Type ℓ} (n q : ℕ) (d : A) → get_or (replicate n d) q d ≡ d
blank-there zero q d = refl
blank-there (suc n) zero d = refl
blank-there (suc n) (suc q) d = blank-there n q d

-- past the data queues and the control queue there is no maximum
no-maximum : (c : Configuration) (q : ℕ) → queue_count c ≤ q → get_or (maxima c) q 0 ≡ 0
no-maximum c q h = go (ltb q (length c.sizes)) refl
  where
    not-data : ltb q c.dataqueues ≡ false
    not-data = le-ltb q c.dataqueues (omega arith)

    control : (z : Bool) → eqb c.control 0 ≡ z → pick (eqb q c.dataqueues) c.control 0 ≡ 0
    control true e = by (eqb q c.dataqueues)
      where
        by : (b : Bool) → pick b c.control 0 ≡ 0
        by true = eqb-true c.control 0 e
        by false = refl
    control false e = rw (ne_eqb q c.dataqueues (λ d. past d))
      where
        past : q ≡ c.dataqueues → ⊥
        past d = let g : ◌≡◌ {A = ℕ} (pick (has_control c) 1 0) 1 = rw e in omega arith

    go : (t : Bool) → ltb q (length c.sizes) ≡ t → get_or (maxima c) q 0 ≡ 0
    go true e =
        get_or-each (maximum_at c.dataqueues c.control) c.sizes q 0 0 (ltb-true q (length c.sizes) e)
        ∙ rw not-data (control (eqb c.control 0) refl)
    go false e =
        get_or-eq_default (maxima c) 0
        (rw (length-each (maximum_at c.dataqueues c.control) c.sizes) (ltb-false q (length c.sizes) e))

-- a queue without a maximum is fresh, as one that isn't there
pub no-fresh-queue : (sizes : List ℕ) (q : ℕ) → get_or sizes q 0 ≡ 0 → get_or (fresh_queues sizes) q no_queue ≡ no_queue
no-fresh-queue sizes q z = go (ltb q (length sizes)) refl
  where
    go : (t : Bool) → ltb q (length sizes) ≡ t → get_or (fresh_queues sizes) q no_queue ≡ no_queue
    go true e = get_or-each (λ (i m : ℕ). fresh_queue m) sizes q 0 no_queue (ltb-true q (length sizes) e) ∙ ap fresh_queue z
    go false e =
        get_or-eq_default (fresh_queues sizes) no_queue
        (rw (length-each (λ (i m : ℕ). fresh_queue m) sizes) (ltb-false q (length sizes) e))

-- ---- a fresh state is sound

pub fresh-sound : (c : Configuration) → refusal_of c ≡ 0 → Sound (fresh_state c)
fresh-sound c h =
    let p : Passed c = passed c h in
    record {
      based = ltb-false (2 ^ 64 - 0x2000) c.base p.based;
      some = positive (eqb-false (queue_count c) 0 p.some);
      few = ltb-false max_queues (queue_count c) p.few;
      within = omega arith;
      vectored = ltb-false max_vectors c.vectors p.vectors;
      mapped = ltb-false max_regions c.regions p.regions;
      sizeless = λ q k. no-maximum c q k;
      queueless = λ q k. no-fresh-queue (maxima c) q (no-maximum c q k);
      heldless = λ q k. blank-there max_queues q no_held;
      vectorless = λ v k. blank-there max_vectors v no_vector;
      quiet = λ e. refl;
      full = refl;
      live = refl;
    }
  where
    positive : {n : ℕ} → (n ≡ 0 → ⊥) → 1 ≤ n
    positive k = omega arith

-- ---- no test that 01 doesn't name is met

-- the counts are within the tables, so none is cut
pub all-queues : (s : State) → Sound s → queues_in s ≡ s.config.count
all-queues s d = omega (arith, d.few)

pub all-vectors : (s : State) → Sound s → min s.config.vectors max_vectors ≡ s.config.vectors
all-vectors s d = omega (arith, d.vectored)

pub all-regions : (s : State) → Sound s → min s.config.regions max_regions ≡ s.config.regions
all-regions s d = omega (arith, d.mapped)

-- no address of a registration wraps
pub bell-whole : (s : State) (q : ℕ) → Sound s → q < s.config.count → bell_address s.config.base q ≡ s.config.base + 0x1000 + 4 * q
bell-whole s q d h = omega (arith, d.based, d.few)

pub note-whole : (s : State) → Sound s → note_address s.config.base ≡ s.config.base + 0x50
note-whole s d = omega (arith, d.based)
