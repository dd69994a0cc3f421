-- The message functions leave a sound state sound.
use mathlib.Core.Bool.{Bool, true, false, not, ◌&&◌, true≢false}
use mathlib.Core.Path.{◌≡◌, refl, sym, ◌∙◌}
use mathlib.Core.List.{List}
use Prim.Native.Nat.{ℕ, ◌<◌, ◌≤◌, min}
use native.Mathlib.Omega.{arith}
use borrow.Author.Tests.{ltb-true}
use lib.Dec.{eqb}
use lib.ListN.{get_or, set}
use lib.Seq.{get_or-set_other}
use Rattle.std.proofs.lemmas.Bool.{and_parts}
use Rattle.words.specs.Pick.{pick}
use Rattle.msi.specs.Stage.{no_message, with_index_select}
use Rattle.msi.specs.declared.Msi.{Msi}
use Rattle.mmio_config.specs.Fresh.{max_vectors, no_vector}
use Rattle.mmio_tables.specs.Tables.{updatable, vector_at, stored, stored_at, remasked, masked_at}
use Rattle.mmio_hot.specs.Commands.{csr_of, command_at}
use Rattle.mmio_hot.specs.declared.Csr.{Csr}
use Rattle.mmio_hot.specs.declared.Csr.TheVariants.{Locked, Stay, Turn}
use Rattle.mmio_hot.specs.declared.Command.{Command}
use Rattle.mmio_hot.specs.declared.Command.TheVariants.{Update, Mask, Unmask, Other}
use Rattle.mmio_config.specs.declared.Vector.{Vector}
use Rattle.mmio_state.specs.State.{State, failed_state, with_vectors}
use Rattle.mmio_state.specs.Sound.{Sound}
use Rattle.mmio_state.proofs.Keeping.{failed-keeps}
use Rattle.mmio_msi.specs.Messages.{staged, turned, controlled, enabling, heeded, updated_state, asks_mask, commanded, commanding}

module _ {s : State} (d : Sound s) where
  -- another stage and other vectors, where the stage stays zero while MSI is off and nothing stands past the vectors
  kept : (m : Msi) (vs : List Vector) → (s.hot.msi ≡ false → m ≡ no_message) → ((v : ℕ) → s.config.vectors ≤ v → get_or vs v no_vector ≡ no_vector)
      → Sound (with_vectors s m vs)
  kept m vs q f =
      record {
        based = d.based;
        some = d.some;
        few = d.few;
        within = d.within;
        vectored = d.vectored;
        mapped = d.mapped;
        sizeless = d.sizeless;
        queueless = d.queueless;
        heldless = d.heldless;
        vectorless = f;
        quiet = q;
        full = d.full;
        live = d.live;
      }

  -- another mode, with a stage of zeros
  turned-sound : (m : Bool) → Sound (turned s m)
  turned-sound m =
      record {
        based = d.based;
        some = d.some;
        few = d.few;
        within = d.within;
        vectored = d.vectored;
        mapped = d.mapped;
        sizeless = d.sizeless;
        queueless = d.queueless;
        heldless = d.heldless;
        vectorless = d.vectorless;
        quiet = λ e. refl;
        full = d.full;
        live = d.live;
      }

  pub stage-keeps : (m : Msi) → Sound (staged s m)
  stage-keeps m = kept (pick s.hot.msi m s.stage) s.vectors (λ e. rw e (d.quiet e)) d.vectorless

  -- one vector that exists, changed
  exists_below : (v : ℕ) → vector_at v s.config.vectors ≡ true → v < s.config.vectors
  exists_below v e = omega (arith, ltb-true v (min s.config.vectors max_vectors) e)

  one-vector : (v : ℕ) (x : Vector) → vector_at v s.config.vectors ≡ true → (w : ℕ) → s.config.vectors ≤ w → get_or (set s.vectors v x) w no_vector ≡ no_vector
  one-vector v x e w h =
      let l : v < s.config.vectors = exists_below v e in
      get_or-set_other s.vectors v w x no_vector (λ p. omega arith) ∙ d.vectorless w h

  update-sound : (v : ℕ) → Sound (updated_state s v)
  update-sound v = go (heeded s v) (vector_at v s.config.vectors) refl refl
    where
      m : Msi
      m = with_index_select s.stage v

      on : updatable s.config.dataqueues v && s.hot.msi ≡ true → s.hot.msi ≡ false → ⊥
      on e f = true≢false (sym e ∙ rw f (falls (updatable s.config.dataqueues v)))
        where
          falls : (t : Bool) → t && false ≡ false
          falls true = refl
          falls false = refl

      go : (t u : Bool) → heeded s v ≡ t → vector_at v s.config.vectors ≡ u
          → Sound (with_vectors s (pick t m s.stage) (pick (t && u) (stored_at s.vectors v m) s.vectors))
      go true true h e = kept m (stored_at s.vectors v m) (λ f. absurd (on h f)) (one-vector v (stored m (get_or s.vectors v no_vector)) e)
      go true false h e = kept m s.vectors (λ f. absurd (on h f)) d.vectorless
      go false u h e = d

  mask-sound : (v : ℕ) (m g : Bool) → Sound (with_vectors s s.stage (pick (asks_mask s v m && g) (masked_at s.vectors v m) s.vectors))
  mask-sound v m g = go (asks_mask s v m && g) refl
    where
      there : (a b c e : Bool) → ((a && b) && c) && e ≡ true → b ≡ true
      there a b c e h = (and_parts a b (and_parts (a && b) c (and_parts ((a && b) && c) e h).0).0).1

      go : (t : Bool) → asks_mask s v m && g ≡ t → Sound (with_vectors s s.stage (pick t (masked_at s.vectors v m) s.vectors))
      go true h =
          kept s.stage (masked_at s.vectors v m) d.quiet
          (one-vector v (remasked (get_or s.vectors v no_vector) m) (there s.flags.enabled (vector_at v s.config.vectors) _ g h))
      go false h = d

  pub control-keeps : (v k : ℕ) → Sound (enabling s v k).state
  control-keeps v k = go (csr_of s.hot.status v s.hot.msi)
    where
      by : (t m : Bool) → Sound (pick t (failed_state s) (turned s m))
      by true m = failed-keeps s d
      by false m = turned-sound m

      go : (x : Csr) → Sound (controlled s k x).state
      go Locked = failed-keeps s d
      go Stay = d
      go (Turn m) = by (eqb k 0) m

  pub command-keeps : (v k : ℕ) → Sound (commanding s v k).state
  command-keeps v k = go (command_at v)
    where
      go : (x : Command) → Sound (commanded s k x).state
      go (Update w) = update-sound w.0
      go (Mask w) = mask-sound w.0 true (not (eqb k 0))
      go (Unmask w) = mask-sound w.0 false (not (eqb k 0))
      go Other = failed-keeps s d
