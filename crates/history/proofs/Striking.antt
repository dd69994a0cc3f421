-- DEMAND 3, second sentence: a write to a queue-field register, of any length, that by the log did not count can be struck
-- from anywhere in it. Every later state, reply, action and field is the same, and so is what is read from the log.
use mathlib.Core.Bool.{Bool, true, false, true≢false}
use mathlib.Core.Path.{◌≡◌, refl, sym, ap, ◌∙◌}
use mathlib.Core.List.{List, ◌∷◌, ◌++◌}
use Prim.Native.Nat.{ℕ}
use borrow.Author.Tests.{eqb-true}
use lib.Dec.{eqb, leb}
use lib.ListN.{length}
use Rattle.words.specs.Pick.{pick}
use Rattle.words.specs.Bytes.{read_le}
use Rattle.virtq.specs.Index.{max_queues}
use Rattle.virtq.specs.declared.Field.{Field}
use Rattle.virtq.specs.declared.Field.TheVariants as F
use Rattle.registers.specs.Registers.{write_at}
use Rattle.registers.specs.declared.WriteRegister.{WriteRegister}
use Rattle.registers.specs.declared.WriteRegister.TheVariants as W
use Rattle.mmio_config.specs.declared.Configuration.{Configuration}
use Rattle.mmio_state.specs.State.{State, with_queues}
use Rattle.mmio_state.specs.Fresh.{fresh_state}
use Rattle.mmio_state.specs.Fields.{asked}
use Rattle.mmio_v2.specs.Fresh.{refusal}
use Rattle.mmio_v2.specs.Operation.{Operation, Write}
use Rattle.mmio_v2.specs.Registers.{does}
use Rattle.runs.proofs.Runs.{struck-run, struck-answers}
use Rattle.history.specs.Log.{counts, known_from, field_from}
use Rattle.history.specs.Run.{next, run, seen, sees, field_offset, counts_at, Idle}
use Rattle.history.proofs.Following.{known_of, Kind, does-queues}
use Rattle.history.proofs.Afresh.{run-kind, knows-afresh, reads-afresh}

-- ---- what a write there names: the register of a field, or nothing

pub data Names (o l : ℕ) : Type 0 where
  field : (f : Field) → write_at o l ≡ W.QueueField f → Names o l
  nothing : write_at o l ≡ W.Unknown → Names o l

-- below the configuration a length that is neither 4 nor 2 names nothing
unnamed : (o l : ℕ) → leb 0x100 o ≡ false → eqb l 4 ≡ false → eqb l 2 ≡ false → write_at o l ≡ W.Unknown
unnamed o l a four two = simp (a, four, two)

-- an offset at which four bytes name a field and two bytes nothing
named : (o l : ℕ) (f : Field) → leb 0x100 o ≡ false → write_at o 4 ≡ W.QueueField f → write_at o 2 ≡ W.Unknown → Names o l
named o l f a e g = go (eqb l 4) (eqb l 2) refl refl
  where
    go : (x y : Bool) → eqb l 4 ≡ x → eqb l 2 ≡ y → Names o l
    go true y p q = field f (rw (eqb-true l 4 p) e)
    go false true p q = nothing (rw (eqb-true l 2 q) g)
    go false false p q = nothing (unnamed o l a p q)

module _ (l : ℕ) where
  names : (o : ℕ) → field_offset o ≡ true → Names o l
  names o = go (eqb o 0x038) (eqb o 0x044) (eqb o 0x080) (eqb o 0x084) (eqb o 0x090) (eqb o 0x094) (eqb o 0x0a0) (eqb o 0x0a4) refl refl refl refl refl refl refl refl
    where
      at : (n : ℕ) → eqb o n ≡ true → Names n l → Names o l
      at n e x = rw (eqb-true o n e) x

      go : (a b c d e f g h : Bool) → eqb o 0x038 ≡ a → eqb o 0x044 ≡ b → eqb o 0x080 ≡ c → eqb o 0x084 ≡ d → eqb o 0x090 ≡ e → eqb o 0x094 ≡ f → eqb o 0x0a0 ≡ g → eqb o 0x0a4 ≡ h
          → pick a true (pick b true (pick c true (pick d true (pick e true (pick f true (pick g true h)))))) ≡ true → Names o l
      go true b c d e f g h i j k m n p q r z = at 0x038 i (named 0x038 l F.Size refl refl refl)
      go false true c d e f g h i j k m n p q r z = at 0x044 j (named 0x044 l F.Ready refl refl refl)
      go false false true d e f g h i j k m n p q r z = at 0x080 k (named 0x080 l F.DescLow refl refl refl)
      go false false false true e f g h i j k m n p q r z = at 0x084 m (named 0x084 l F.DescHigh refl refl refl)
      go false false false false true f g h i j k m n p q r z = at 0x090 n (named 0x090 l F.AvailLow refl refl refl)
      go false false false false false true g h i j k m n p q r z = at 0x094 p (named 0x094 l F.AvailHigh refl refl refl)
      go false false false false false false true h i j k m n p q r z = at 0x0a0 q (named 0x0a0 l F.UsedLow refl refl refl)
      go false false false false false false false true i j k m n p q r z = at 0x0a4 r (named 0x0a4 l F.UsedHigh refl refl refl)
      go false false false false false false false false i j k m n p q r z = absurd (true≢false (sym z))

-- ---- such a write leaves the state as it was

module _ (c : Configuration) (s : State) (p : Kind c s) (k o : ℕ) (bs : List ℕ) where
  unknown-write : write_at o (length bs) ≡ W.Unknown → next s (Write k o bs) ≡ s
  unknown-write e = ap (λ (x : WriteRegister). (does s (read_le 4 bs) (read_le 2 bs) (length bs) k x).state) e

  field-write : (f : Field) → write_at o (length bs) ≡ W.QueueField f → counts c (known_of s) f (read_le 4 bs) ≡ false → next s (Write k o bs) ≡ s
  field-write f e h =
      ap (λ (x : WriteRegister). (does s (read_le 4 bs) (read_le 2 bs) (length bs) k x).state) e
      ∙ ap (with_queues s) (does-queues c s p (read_le 4 bs) (read_le 2 bs) (length bs) k (W.QueueField f) ∙ rw h)

  idle-write : Idle c (known_of s) o bs → next s (Write k o bs) ≡ s
  idle-write i = go (names (length bs) o i.register)
    where
      go : Names o (length bs) → next s (Write k o bs) ≡ s
      go (field f e) = field-write f e (sym (ap (counts_at c (known_of s) (read_le 4 bs)) e) ∙ i.idle)
      go (nothing e) = unknown-write e

-- ---- struck from a log

-- what is the same without it
pub record Struck (c : Configuration) (later : List Operation) (op : Operation) (log : List Operation) : Type 0 where
  pub same-state : run c (later ++ op ∷ log) ≡ run c (later ++ log)
  pub same_seen : sees c (op ∷ log) later ≡ sees c log later
  pub same-fields : (q : ℕ) (f : Field) → asked (run c (later ++ op ∷ log)) q f ≡ asked (run c (later ++ log)) q f
  pub same-reading : (q : ℕ) (f : Field) → field_from c (later ++ op ∷ log) q f ≡ field_from c (later ++ log) q f

module _ (c : Configuration) (made : refusal c ≡ 0) (sixteen : length c.sizes ≡ max_queues) where
  pub strike : (later : List Operation) (k o : ℕ) (bs : List ℕ) (log : List Operation) → Idle c (known_from c log) o bs → Struck c later (Write k o bs) log
  strike later k o bs log i =
      let op : Operation = Write k o bs in
      let j : Idle c (known_of (run c log)) o bs = rw (knows-afresh c made sixteen log) i in
      let e : run c (op ∷ log) ≡ run c log = idle-write c (run c log) (run-kind c made sixteen log) k o bs j in
      let d : run c (later ++ op ∷ log) ≡ run c (later ++ log) = struck-run next seen (fresh_state c) (op ∷ log) log e later in
      record {
        same-state = d;
        same_seen = struck-answers next seen (fresh_state c) (op ∷ log) log e later;
        same-fields = λ q f. ap (λ (s : State). asked s q f) d;
        same-reading = λ q f. sym (reads-afresh c made sixteen (later ++ op ∷ log) q f) ∙ ap (λ (s : State). (asked s q f).value) d ∙ reads-afresh c made sixteen (later ++ log) q f;
      }
