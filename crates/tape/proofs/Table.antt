-- The held table: one record changes one queue's entries at most, and each entry is the fold of its own rule alone.
use Rattle.std.proofs.Common.{◌≡◌, ℕ, ◌<◌, ◌≤◌, Bool, true, false, eqb, List, [], ◌∷◌, length, get_or, set, sym, refl, ap, ◌∙◌, ne_eqb}
use lib.Seq.{set_out}
use Rattle.words.specs.Pick.{pick}
use Rattle.words.specs.Lists.{each}
use Rattle.words.proofs.Lists.{each_none, each-one, get_or-each, length-each}
use Rattle.words.specs.declared.Action.{Action}
use Rattle.tape.specs.declared.Held.{Held}
use Rattle.tape.specs.Held.{held_queue, held_one, held_after, left_after, no_held}

module _ (b k : ℕ) (x : Action) where
  -- a record speaks of one queue
  other-queue : (q : ℕ) (h : Held) → (q ≡ x.a → ⊥) → held_queue b k x q h ≡ h
  other-queue q h n = rw (ne_eqb q x.a n)

  -- so it writes one place of the table
  pub held-stored : (hs : List Held) → set hs x.a (held_queue b k x x.a (get_or hs x.a no_held)) ≡ held_one b k x hs
  unfolding held_one
  held-stored hs = sym (each-one (held_queue b k x) hs x.a no_held (λ q h n. other-queue q h n))

  -- and none where the queue is past the table
  pub held-past : (hs : List Held) → length hs ≤ x.a → hs ≡ held_one b k x hs
  held-past hs h = sym (set_out hs x.a (held_queue b k x x.a (get_or hs x.a no_held)) h) ∙ held-stored hs

-- a record that neither registers nor unregisters leaves the table
pub held_plain : (b k : ℕ) (x : Action) (hs : List Held) → eqb x.kind 1 ≡ false → eqb x.kind 2 ≡ false → held_one b k x hs ≡ hs
unfolding held_one
held_plain b k x hs h g = each_none (held_queue b k x) hs (λ q e. simp (h, g, pick_same))
  where
    pick_same : {X : Type 0} (t : Bool) (y : X) → pick t y y ≡ y
    pick_same true y = refl
    pick_same false y = refl

-- the entry of queue q after the records of an operation
abbrev pub entry_after : (b : ℕ) (q : ℕ) → Held → (k : ℕ) → List Action → Held
entry_after b q h k [] = h
entry_after b q h k (x ∷ xs) = entry_after b q (held_queue b k x q h) (left_after k x) xs

-- each queue's entries are the fold of their own rule, whatever the others do
pub own-fold : (b : ℕ) (hs : List Held) (k : ℕ) (xs : List Action) (q : ℕ) → q < length hs
    → get_or (held_after b hs k xs) q no_held ≡ entry_after b q (get_or hs q no_held) k xs
unfolding held_one
own-fold b hs k [] q h = refl
own-fold b hs k (x ∷ xs) q h =
    own-fold b (each (held_queue b k x) hs) (left_after k x) xs q (rw (length-each (held_queue b k x) hs) h)
    ∙ ap (λ (e : Held). entry_after b q e (left_after k x) xs) (get_or-each (held_queue b k x) hs q no_held no_held h)
