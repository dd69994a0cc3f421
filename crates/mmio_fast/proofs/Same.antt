-- Where a short way is done it is the step: the same state, reply and actions. A raise's is the step everywhere.
use mathlib.Core.Bool.{Bool, true, false, true≢false}
use mathlib.Core.Path.{◌≡◌, refl, sym}
use mathlib.Core.List.{List, []}
use Prim.Native.Nat.{ℕ, ◌≤◌}
use borrow.Author.Tests.{eqb-true, le-leb}
use native.Mathlib.Omega.{arith}
use lib.Bits.{bit_or}
use lib.Dec.{eqb, ltb, lit≤}
use lib.ListN.{length}
use Rattle.words.specs.Pick.{pick}
use Rattle.words.specs.Bytes.{bytes_of, read_le, write_le}
use Rattle.mmio_state.specs.State.{State, with_hot}
use Rattle.mmio_state.specs.Effect.{room_words}
use Rattle.mmio_access.specs.Changes.{with_interrupts, cleared}
use Rattle.mmio_v2.specs.Operation.{Operation, Read, Write, Raise}
use Rattle.mmio_access.specs.Shown.{tweaked}
use Rattle.mmio_state.specs.Fields.{selected_ready}
use Rattle.mmio_v2.specs.Step.{Outcome, refusing, operated, step, replied}
use Rattle.mmio_v2.proofs.Found.{reply-short as short}
use Rattle.mmio_fast.specs.Quick.{when_word, quick_write, quick_read, quick_ready, quick_raise, done, slow}
use Rattle.mmio_fast.specs.Tell.{tell, told_of}
use Rattle.mmio_fast.specs.declared.Quick.{Quick}
use Rattle.mmio_fast.specs.declared.Raised.{Raised}

-- the interrupt bits set to these, and no more; a register's word shown, and no more
abbrev pub bits_only : State → (refusal bits : ℕ) → Outcome
bits_only s r b = record { refusal = r; state = with_hot s (with_interrupts s.hot b); reply = []; actions = [] }

abbrev pub word_only : State → (value : ℕ) → Outcome
word_only s v = record { refusal = 0; state = s; reply = bytes_of 4 v; actions = [] }

-- what is done under both tests passed both
module _ (w l v : ℕ) (s : State) (op : Operation) (q : Quick) (make : ℕ → Outcome) where
  pub when-word : (q.done ≡ true → l ≡ 4 → operated s op ≡ make q.value)
      → (when_word w l v q).done ≡ true → (step w s op ≡ make (when_word w l v q).value) × (l ≡ 4)
  when-word law e = by_tests (ltb w room_words) (eqb l 4) refl e
    where
      by_tests : (a b : Bool) → eqb l 4 ≡ b → (pick a (slow v) (pick b q (slow v))).done ≡ true
          → (pick a (refusing s) (operated s op) ≡ make (pick a (slow v) (pick b q (slow v))).value) × (l ≡ 4)
      by_tests true b f e = absurd (true≢false (sym e))
      by_tests false true f e = let n = eqb-true l 4 f in (law e n, n)
      by_tests false false f e = absurd (true≢false (sym e))

-- the registers, over their tests
abbrev wrote : State → List ℕ → Bool → Bool → Quick
wrote s bs c d =
    pick c (done (cleared s.hot.interrupts (read_le 4 bs))) (pick d (done s.hot.interrupts) (slow s.hot.interrupts))

abbrev polled : State → Bool → Bool → Quick
polled s c d = pick c (done (tweaked s.hot.vendor s.hot.interrupts)) (pick d (done s.hot.status) (slow 0))

abbrev ready : State → Bool → Quick
ready s c = pick c (done (selected_ready s)) (slow 0)

module _ (s : State) (k o : ℕ) where
  pub write_same : (bs : List ℕ) (w : ℕ) → (quick_write s.hot o bs w).done ≡ true
      → step w s (Write k o bs) ≡ bits_only s 0 (quick_write s.hot o bs w).value
  unfolding quick_write
  write_same bs w e =
      (when-word w (length bs) s.hot.interrupts s (Write k o bs) (wrote s bs (eqb o 0x64) (eqb o 0x50)) (bits_only s 0)
      (by_tests (eqb o 0x64) (eqb o 0x50) refl refl) e).0
    where
      by_tests : (c d : Bool) → eqb o 0x64 ≡ c → eqb o 0x50 ≡ d → (wrote s bs c d).done ≡ true → length bs ≡ 4
          → operated s (Write k o bs) ≡ bits_only s 0 (wrote s bs c d).value
      by_tests true d f g e n = rw (n, eqb-true o 0x64 f)
      by_tests false true f g e n = rw (n, eqb-true o 0x50 g)
      by_tests false false f g e n = absurd (true≢false (sym e))

  pub read_same : (l w : ℕ) → (quick_read s.hot o l w).done ≡ true
      → (step w s (Read k o l) ≡ word_only s (quick_read s.hot o l w).value) × (l ≡ 4)
  unfolding quick_read
  read_same l w e =
      when-word w l 0 s (Read k o l) (polled s (eqb o 0x60) (eqb o 0x70)) (word_only s)
      (by_tests (eqb o 0x60) (eqb o 0x70) refl refl) e
    where
      by_tests : (c d : Bool) → eqb o 0x60 ≡ c → eqb o 0x70 ≡ d → (polled s c d).done ≡ true → l ≡ 4
          → operated s (Read k o l) ≡ word_only s (polled s c d).value
      by_tests true d f g e n = rw (n, eqb-true o 0x60 f)
      by_tests false true f g e n = rw (n, eqb-true o 0x70 g)
      by_tests false false f g e n = absurd (true≢false (sym e))

  pub ready-same : (l w : ℕ) → (quick_ready s.hot s.config.count s.queues o l w).done ≡ true
      → (step w s (Read k o l) ≡ word_only s (quick_ready s.hot s.config.count s.queues o l w).value) × (l ≡ 4)
  unfolding quick_ready
  ready-same l w e = when-word w l 0 s (Read k o l) (ready s (eqb o 0x44)) (word_only s) (by_tests (eqb o 0x44) refl) e
    where
      by_tests : (c : Bool) → eqb o 0x44 ≡ c → (ready s c).done ≡ true → l ≡ 4
          → operated s (Read k o l) ≡ word_only s (ready s c).value
      by_tests true f e n = rw (n, eqb-true o 0x44 f)
      by_tests false f e n = absurd (true≢false (sym e))

-- a write that is not done leaves the bits
pub write_kept : (s : State) (o : ℕ) (bs : List ℕ) (w : ℕ) → (quick_write s.hot o bs w).done ≡ false
    → (quick_write s.hot o bs w).value ≡ s.hot.interrupts
unfolding quick_write
write_kept s o bs w e = by_tests (ltb w room_words) (eqb (length bs) 4) (eqb o 0x64) (eqb o 0x50) e
  where
    by_tests : (a b c d : Bool)
        → (pick a (slow s.hot.interrupts) (pick b (wrote s bs c d) (slow s.hot.interrupts))).done ≡ false
        → (pick a (slow s.hot.interrupts) (pick b (wrote s bs c d) (slow s.hot.interrupts))).value ≡ s.hot.interrupts
    by_tests true b c d e = refl
    by_tests false false c d e = refl
    by_tests false true true d e = absurd (true≢false e)
    by_tests false true false true e = refl
    by_tests false true false false e = refl

-- a raise, over its test
abbrev raising : State → (bits : ℕ) → Bool → Raised
raising s b t =
    pick t (record { bits = s.hot.interrupts; told = tell 7 0 0 })
    (record { bits = bit_or s.hot.interrupts b; told = tell 0 0 0 })

pub raise-same : (s : State) (b w : ℕ)
    → (step w s (Raise b) ≡ bits_only s (quick_raise s.hot b w).told.refusal (quick_raise s.hot b w).bits)
    × ((quick_raise s.hot b w).told ≡ told_of (step w s (Raise b)))
unfolding quick_raise
raise-same s b w = by_tests (ltb w room_words)
  where
    by_tests : (t : Bool) → (pick t (refusing s) (operated s (Raise b)) ≡ bits_only s (raising s b t).told.refusal (raising s b t).bits)
        × ((raising s b t).told ≡ told_of (pick t (refusing s) (operated s (Raise b))))
    by_tests true = (refl, refl)
    by_tests false = (refl, refl)

-- the word's four bytes over the lent ones
pub given : (l : List ℕ) (s : State) (v : ℕ) → length l ≡ 4 → write_le 4 l v ≡ replied l (word_only s v)
unfolding write_le
given l s v n = rw (le-leb 4 (length l) (omega arith))

-- no reply is longer than four bytes
pub reply-short : (w : ℕ) (s : State) (k o l : ℕ) → length (step w s (Read k o l)).reply ≤ 4
reply-short w s k o l = by (ltb w room_words)
  where
    by : (t : Bool) → length (pick t (refusing s) (operated s (Read k o l))).reply ≤ 4
    by true = lit≤ tt
    by false = (short s k o l).0
