-- Every operation on a sound state leaves a sound one.
use mathlib.Core.Bool.{Bool, true, false}
use mathlib.Core.Path.{◌≡◌, refl, sym, ap, ap₂, ◌∙◌}
use mathlib.Core.List.{List, [], ◌∷◌}
use Prim.Native.Nat.{ℕ, ◌<◌, ◌≤◌}
use native.Mathlib.Omega.{arith}
use borrow.Author.Tests.{ltb-true, ltb-false, ne_eqb}
use lib.Dec.{eqb, ltb}
use lib.ListN.{length, get_or, set, get_or-eq_default}
use lib.Seq.{get_or-set_other}
use Rattle.words.specs.Pick.{pick}
use Rattle.words.specs.Lists.{each}
use Rattle.words.specs.declared.Action.{Action}
use Rattle.words.proofs.Lists.{get_or-each, length-each}
use Rattle.virtq.specs.Fields.{no_queue, updated}
use Rattle.virtq.specs.declared.Field.{Field}
use Rattle.virtq.specs.declared.Queue.{Queue}
use Rattle.tape.specs.Actions.{enable_interrupts, activate_device, reset_device, reset_interrupts}
use Rattle.tape.specs.declared.Entry.{Entry}
use Rattle.tape.specs.Held.{entry, bell, note, register, unregister, equal, stands, held_queue, held_one, held_after, left_after, no_held}
use Rattle.tape.specs.declared.Held.{Held}
use Rattle.activation.proofs.Every.{Every, none, more, Kinds, every-start, every-stop}
use Rattle.activation.proofs.Bound.{start-most, stop-most}
use Rattle.activation.specs.Bound.{most}
use Rattle.activation.specs.Requests.{stops}
use Rattle.mmio_hot.specs.Polled.{failed, with_status}
use Rattle.mmio_hot.specs.declared.Hot.{Hot}
use Rattle.mmio_config.specs.Fresh.{max_vectors, no_vector}
use Rattle.mmio_state.specs.State.{State, queues_in, with_hot, failed_state}
use Rattle.mmio_state.specs.Activation.{queues_valid, started, wiped, settled, starting, starts_at, activating, stopping, resetting}
use Rattle.mmio_state.specs.Effect.{Effect, quiet}
use Rattle.mmio_state.specs.Fields.{field_written}
use Rattle.mmio_state.specs.Sound.{Sound}
use Rattle.mmio_state.proofs.Sounding.{blank-there, no-fresh-queue, all-queues}

-- ---- the held table past the count

-- a record leaves the entries of every queue from n on blank
abbrev Spares : (b n : ℕ) → Action → Type 0
Spares b n x = (k q : ℕ) → n ≤ q → held_queue b k x q no_held ≡ no_held

held_of : Bool → Bool → Held
held_of x y = record { bell = x; note = y }

either : (t : Bool) → pick t false false ≡ false
either true = refl
either false = refl

-- one that registers nothing
plain : (b n : ℕ) (x : Action) → eqb x.kind 1 ≡ false → Spares b n x
unfolding held_of
plain b n x h k q g = ap₂ held_of (falls (bell b q)) (falls (note b q))
  where
    other : (t u : Bool) → pick t (pick u false false) false ≡ false
    other true u = either u
    other false u = refl

    falls : (e : Entry) → stands e k x false ≡ false
    falls e = rw h (other (equal e x) (eqb x.kind 2))

-- one that registers an entry of a queue below n
registers : (b n : ℕ) (e : Entry) → e.queue < n → Spares b n (register e)
unfolding held_of
registers b n e h k q g =
    let d : eqb q e.queue ≡ false = ne_eqb q e.queue (λ p. omega arith) in
    ap₂ held_of (rw d) (rw d)

kinds : (b n : ℕ) → Kinds (Spares b n) b n
kinds b n =
    record {
      bell-on = λ q h. registers b n (bell b q) h;
      note-on = λ q h. registers b n (note b q) h;
      bell-off = λ q. plain b n (unregister (bell b q)) refl;
      note-off = λ q. plain b n (unregister (note b q)) refl;
      missing = λ q a v. plain b n (unregister (entry q a 8 v)) refl;
      enabling = plain b n enable_interrupts refl;
      activating = plain b n activate_device refl;
      resetting = plain b n reset_interrupts refl;
      shutting = plain b n reset_device refl;
    }

one-spared : (b n k : ℕ) (x : Action) (hs : List Held) (q : ℕ) → Spares b n x → n ≤ q → get_or hs q no_held ≡ no_held → get_or (held_one b k x hs) q no_held ≡ no_held
unfolding held_one
one-spared b n k x hs q s h e = go (ltb q (length hs)) refl
  where
    go : (t : Bool) → ltb q (length hs) ≡ t → get_or (each (held_queue b k x) hs) q no_held ≡ no_held
    go true f = get_or-each (held_queue b k x) hs q no_held no_held (ltb-true q (length hs) f) ∙ ap (held_queue b k x q) e ∙ s k q h
    go false f = get_or-eq_default (each (held_queue b k x) hs) no_held (rw (length-each (held_queue b k x) hs) (ltb-false q (length hs) f))

spared : (b n : ℕ) (xs : List Action) → Every (Spares b n) xs → (k : ℕ) (hs : List Held) (q : ℕ) → n ≤ q → get_or hs q no_held ≡ no_held
    → get_or (held_after b hs k xs) q no_held ≡ no_held
spared b n [] none k hs q h e = e
spared b n (x ∷ xs) (more s m) k hs q h e = spared b n xs m (left_after k x) (held_one b k x hs) q h (one-spared b n k x hs q s h e)

-- ---- the states an activation and a reset leave

module _ {s : State} (d : Sound s) (hs : List Held) (free : (q : ℕ) → s.config.count ≤ q → get_or hs q no_held ≡ no_held) where
  started-sound : Sound (started s hs)
  started-sound =
      record {
        based = d.based;
        some = d.some;
        few = d.few;
        within = d.within;
        vectored = d.vectored;
        mapped = d.mapped;
        sizeless = d.sizeless;
        queueless = d.queueless;
        heldless = free;
        vectorless = d.vectorless;
        quiet = d.quiet;
        full = refl;
        live = refl;
      }

  wiped-sound : Sound (wiped s hs)
  wiped-sound =
      record {
        based = d.based;
        some = d.some;
        few = d.few;
        within = d.within;
        vectored = d.vectored;
        mapped = d.mapped;
        sizeless = d.sizeless;
        queueless = λ q h. no-fresh-queue s.config.sizes q (d.sizeless q h);
        heldless = free;
        vectorless = λ v h. blank-there max_vectors v no_vector;
        quiet = λ e. refl;
        full = refl;
        live = refl;
      }

  settled-sound : (ok : Bool) → Sound (settled s ok hs)
  settled-sound true = started-sound
  settled-sound false = wiped-sound

pub activate-keeps : (s : State) (k : ℕ) → Sound s → Sound (activating s k).state
unfolding starting
activate-keeps s k d = go s.flags.active
  where
    free : (q : ℕ) → s.config.count ≤ q → get_or (held_after s.config.base s.held k (starting s k)) q no_held ≡ no_held
    free q h =
        spared s.config.base (queues_in s) (starting s k)
        (every-start (kinds s.config.base (queues_in s)) s.hot.doorbell (queues_valid s) k)
        k s.held q (rw (all-queues s d) h) (d.heldless q h)

    begun : Effect
    begun =
        record {
          state = settled s (starts_at s k) (held_after s.config.base s.held k (starting s k));
          ok = starts_at s k;
          actions = starting s k;
        }

    go : (t : Bool) → Sound (pick t (quiet s true) begun).state
    go true = d
    go false = settled-sound d (held_after s.config.base s.held k (starting s k)) free (starts_at s k)

pub reset-keeps : (s : State) (k : ℕ) → Sound s → Sound (resetting s k).state
unfolding stopping
reset-keeps s k d = go (stops s.flags.active k)
  where
    free : (q : ℕ) → s.config.count ≤ q → get_or (held_after s.config.base s.held k (stopping s k)) q no_held ≡ no_held
    free q h =
        spared s.config.base (queues_in s) (stopping s k)
        (every-stop (kinds s.config.base (queues_in s)) s.flags.registered s.flags.active k)
        k s.held q (rw (all-queues s d) h) (d.heldless q h)

    go : (t : Bool) → Sound (pick t (wiped s (held_after s.config.base s.held k (stopping s k))) s)
    go true = wiped-sound d (held_after s.config.base s.held k (stopping s k)) free
    go false = d

-- ---- a queue's field

pub field-keeps : (s : State) (f : Field) (v : ℕ) → Sound s → Sound (field_written s f v)
field-keeps s f v d =
    record {
      based = d.based;
      some = d.some;
      few = d.few;
      within = d.within;
      vectored = d.vectored;
      mapped = d.mapped;
      sizeless = d.sizeless;
      queueless = λ q h. past q h (ltb s.hot.queue (queues_in s)) refl;
      heldless = d.heldless;
      vectorless = d.vectorless;
      quiet = d.quiet;
      full = d.full;
      live = d.live;
    }
  where
    new : Queue
    new = updated (get_or s.config.sizes s.hot.queue 0) (get_or s.queues s.hot.queue no_queue) f v

    past : (q : ℕ) → s.config.count ≤ q → (t : Bool) → ltb s.hot.queue (queues_in s) ≡ t
        → get_or (pick t (set s.queues s.hot.queue new) s.queues) q no_queue ≡ no_queue
    past q h true e =
        let l : s.hot.queue < queues_in s = ltb-true s.hot.queue (queues_in s) e in
        get_or-set_other s.queues s.hot.queue q new no_queue (λ p. omega arith) ∙ d.queueless q h
    past q h false e = d.queueless q h

-- ---- other polled registers, with the mode as it was

pub hot-keeps : (s : State) (h : Hot) → h.msi ≡ s.hot.msi → Sound s → Sound (with_hot s h)
hot-keeps s h e d =
    record {
      based = d.based;
      some = d.some;
      few = d.few;
      within = d.within;
      vectored = d.vectored;
      mapped = d.mapped;
      sizeless = d.sizeless;
      queueless = d.queueless;
      heldless = d.heldless;
      vectorless = d.vectorless;
      quiet = λ f. d.quiet (sym e ∙ f);
      full = d.full;
      live = d.live;
    }

-- FAILED set
pub failed-keeps : (s : State) → Sound s → Sound (failed_state s)
failed-keeps s d = hot-keeps s (with_status s.hot (failed s.hot.status)) refl d

-- ---- the bound on the records, over the number of queues

pub activate-most : (s : State) (k : ℕ) → length (activating s k).actions ≤ most (queues_in s)
unfolding starting
activate-most s k = go s.flags.active
  where
    asked : length (starting s k) ≤ most (queues_in s)
    asked = start-most s.config.base s.hot.doorbell (queues_in s) (queues_valid s) k

    go : (t : Bool) → length (pick t (quiet s true) (record { state = settled s (starts_at s k) (held_after s.config.base s.held k (starting s k)); ok = starts_at s k; actions = starting s k })).actions ≤ most (queues_in s)
    go true = omega arith
    go false = asked

pub reset-most : (s : State) (k : ℕ) → length (resetting s k).actions ≤ most (queues_in s)
unfolding stopping
reset-most s k = stop-most s.config.base (queues_in s) s.flags.registered s.flags.active k
