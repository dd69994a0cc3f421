-- A write to the status register leaves a real state real: its status is one of the ten, and it is active only at the top.
use mathlib.Core.Bool.{Bool, true, false, true≢false}
use mathlib.Core.Path.{◌≡◌, refl, sym, ◌∙◌}
use mathlib.Core.List.{List, [], ◌∷◌}
use Prim.Native.Nat.{ℕ}
use borrow.Author.Tests.{eqb-true}
use lib.Bits.{bit_or}
use lib.Dec.{eqb}
use Rattle.std.specs.List.{list_all}
use Rattle.std.proofs.lemmas.Bool.{and_parts}
use Rattle.words.specs.Pick.{pick}
use Rattle.tape.specs.Held.{held_after}
use Rattle.tape.specs.declared.Held.{Held}
use Rattle.activation.specs.Requests.{stops}
use Rattle.registers.specs.Virtio12 as std
use Rattle.mmio_hot.specs.Polled.{failed}
use Rattle.mmio_state.specs.State.{State, failed_state}
use Rattle.mmio_state.specs.Activation.{wiped, activating, stopping}
use Rattle.mmio_state.specs.Effect.{Effect}
use Rattle.mmio_state.specs.Sound.{Sound}
use Rattle.mmio_state.proofs.Keeping.{hot-keeps, activate-keeps, reset-keeps, failed-keeps}
use Rattle.mmio_ladder.specs.Ladder.{from, down_move, other_move, move_of}
use Rattle.mmio_ladder.specs.Climbing.{status_set, laddered, climbing}
use Rattle.mmio_ladder.specs.Statuses.{among, statuses, top_statuses, Real}
use Rattle.mmio_ladder.specs.declared.Move.{Move}
use Rattle.mmio_ladder.specs.declared.Move.TheVariants.{Take, Start, Reset, Stay, Fail}

-- ---- the ten statuses

pub data All (P : ℕ → Type 0) : List ℕ → Type 0 where
  none : All P []
  more : {x : ℕ} {xs : List ℕ} → P x → All P xs → All P (x ∷ xs)

-- what holds of each of a list holds of one among them
pub member : (P : ℕ → Type 0) (v : ℕ) (xs : List ℕ) → All P xs → among v xs ≡ true → P v
member P v [] none h = absurd (true≢false (sym h))
member P v (x ∷ xs) (more p m) h = go (eqb v x) refl h (member P v xs m)
  where
    go : (t : Bool) → eqb v x ≡ t → pick t true (among v xs) ≡ true → (among v xs ≡ true → P v) → P v
    go true e k f = rw (eqb-true v x e) p
    go false e k f = f k

-- a test that is true of each
each_passes : (p : ℕ → Bool) (xs : List ℕ) → list_all p xs ≡ true → All (λ (x : ℕ). p x ≡ true) xs
each_passes p [] a = none
each_passes p (x ∷ xs) a = let q = and_parts (p x) (list_all p xs) a in more q.0 (each_passes p xs q.1)

pub passed : (p : ℕ → Bool) (v : ℕ) (xs : List ℕ) → list_all p xs ≡ true → among v xs ≡ true → p v ≡ true
passed p v xs a = member (λ (x : ℕ). p x ≡ true) v xs (each_passes p xs a)

-- FAILED leaves a status among the ten, and one at the top there
pub failed-on : (v : ℕ) → among v statuses ≡ true → among (failed v) statuses ≡ true
failed-on v h = passed (λ (x : ℕ). among (failed x) statuses) v statuses refl h

pub failed-top : (v : ℕ) → among v top_statuses ≡ true → among (failed v) top_statuses ≡ true
failed-top v h = passed (λ (x : ℕ). among (failed x) top_statuses) v top_statuses refl h

-- ---- the rungs are unions of the standard's bits, one more at each (virtio 1.2, 2.1 and 3.1.1)

pub rung-1 : bit_or 0x0 std.ACKNOWLEDGE ≡ 0x1
rung-1 = refl

pub rung-3 : bit_or 0x1 std.DRIVER ≡ 0x3
rung-3 = refl

pub rung-b : bit_or 0x3 std.FEATURES-OK ≡ 0xb
rung-b = refl

pub rung-f : bit_or 0xb std.DRIVER-OK ≡ 0xf
rung-f = refl

-- what FAILED sets is the standard's bit, on every status that has it clear
pub failed-bit : (v : ℕ) → among v statuses ≡ true → failed v ≡ bit_or v std.FAILED
failed-bit v h = eqb-true (failed v) (bit_or v std.FAILED) (passed (λ (x : ℕ). eqb (failed x) (bit_or x std.FAILED)) v statuses refl h)

-- ---- states with the same status, or with FAILED set

module _ {s u : State} (r : Real s) (d : Sound u) (a : u.flags.active ≡ s.flags.active) where
  -- the same status, or FAILED set, in a sound state that is active if s is
  pub same-real : u.hot.status ≡ s.hot.status → Real u
  same-real e =
      record {
        sound = d;
        status = rw e r.status;
        top = λ h. rw e (r.top (sym a ∙ h));
      }

  pub failed-real : u.hot.status ≡ failed s.hot.status → Real u
  failed-real e =
      record {
        sound = d;
        status = rw e (failed-on s.hot.status r.status);
        top = λ h. rw e (failed-top s.hot.status (r.top (sym a ∙ h)));
      }

pub fails-real : (s : State) → Real s → Real (failed_state s)
fails-real s r = failed-real r (failed-keeps s r.sound) refl refl

-- ---- a move

-- what is known of a state where a move is met: one up from below is inactive
abbrev Met : State → Move → Type 0
Met s (Take v) = (among v statuses ≡ true) × (s.flags.active ≡ true → ⊥)
Met s Start = s.flags.active ≡ true → ⊥
Met s Reset = Unit {0}
Met s Stay = Unit {0}
Met s Fail = Unit {0}

module _ (s : State) (r : Real s) where
  -- at a status that is not at the top, the device is not active
  idle : (b : ℕ) → among b top_statuses ≡ false → s.hot.status ≡ b → s.flags.active ≡ true → ⊥
  idle b f e h = true≢false (sym (r.top h) ∙ rw e f)

  from-met : (b : ℕ) (m : Move) → among b top_statuses ≡ false → ((s.flags.active ≡ true → ⊥) → Met s m) → Met s (from b s.hot.status m)
  from-met b m f g = go (eqb s.hot.status b) refl
    where
      go : (t : Bool) → eqb s.hot.status b ≡ t → Met s (pick t m Fail)
      go true e = g (idle b f (eqb-true s.hot.status b e))
      go false e = tt

  down-met : Met s (down_move s.hot.status s.flags.active)
  down-met = go (eqb s.hot.status 0x0) s.flags.active
    where
      go : (t a : Bool) → Met s (pick t Stay (pick a Reset Fail))
      go true a = tt
      go false true = tt
      go false false = tt

  other-met : (v : ℕ) → Met s (other_move v s.hot.status)
  other-met v = go (eqb v s.hot.status)
    where
      go : (t : Bool) → Met s (pick t Stay Fail)
      go true = tt
      go false = tt

  pub move-met : (v : ℕ) → Met s (move_of v s.hot.status s.flags.active)
  move-met v = go (eqb v 0x1) (eqb v 0x3) (eqb v 0xb) (eqb v 0xf) (eqb v 0x0)
    where
      go : (a b c d e : Bool) → Met s (pick a (from 0x0 s.hot.status (Take 0x1)) (pick b (from 0x1 s.hot.status (Take 0x3)) (pick c (from 0x3 s.hot.status (Take 0xb)) (pick d (from 0xb s.hot.status Start) (pick e (down_move s.hot.status s.flags.active) (other_move v s.hot.status))))))
      go true b c d e = from-met 0x0 (Take 0x1) refl (λ i. (refl, i))
      go false true c d e = from-met 0x1 (Take 0x3) refl (λ i. (refl, i))
      go false false true d e = from-met 0x3 (Take 0xb) refl (λ i. (refl, i))
      go false false false true e = from-met 0xb Start refl (λ i. i)
      go false false false false true = down-met
      go false false false false false = other-met v

  -- "0xf taken": no active device is ever started again
  pub starts-idle : (v : ℕ) → move_of v s.hot.status s.flags.active ≡ Start → s.flags.active ≡ true → ⊥
  starts-idle v e = rw e at (move-met v)

  start-real : (k : ℕ) → Real (laddered s k Start).state
  start-real k = go (activating s k) (activate-keeps s k r.sound)
    where
      on : (t : Bool) → among (pick t 0xf 0x8f) statuses ≡ true
      on true = refl
      on false = refl

      high : (t : Bool) → among (pick t 0xf 0x8f) top_statuses ≡ true
      high true = refl
      high false = refl

      go : (e : Effect) → Sound e.state → Real (status_set e.state (pick e.ok 0xf 0x8f))
      go e d = record { sound = hot-keeps e.state _ refl d; status = on e.ok; top = λ h. high e.ok }

  reset-real : (k : ℕ) → Real (laddered s k Reset).state
  reset-real k = go (stops s.flags.active k) (held_after s.config.base s.held k (stopping s k)) (reset-keeps s k r.sound)
    where
      on : (t : Bool) → among (pick t 0x0 (failed s.hot.status)) statuses ≡ true
      on true = refl
      on false = failed-on s.hot.status r.status

      go : (t : Bool) (hs : List Held) → Sound (pick t (wiped s hs) s) → Real (status_set (pick t (wiped s hs) s) (pick t (pick (eqb s.hot.status 0xf) 0x0 (failed s.hot.status)) (failed s.hot.status)))
      go true hs d = record { sound = hot-keeps (wiped s hs) _ refl d; status = on (eqb s.hot.status 0xf); top = λ h. absurd (true≢false (sym h)) }
      go false hs d = fails-real s r

  pub climb-keeps : (v k : ℕ) → Real (climbing s v k).state
  climb-keeps v k = go (move_of v s.hot.status s.flags.active) (move-met v)
    where
      go : (m : Move) → Met s m → Real (laddered s k m).state
      go (Take w) h = record { sound = hot-keeps s _ refl r.sound; status = h.0; top = λ a. absurd (h.1 a) }
      go Start h = start-real k
      go Reset h = reset-real k
      go Stay h = r
      go Fail h = fails-real s r
