-- What a loop over the records of a trace keeps: the device is that of a run over those told, and so is their text.
use mathlib.Core.Bool.{Bool, true, false}
use mathlib.Core.Path.{◌≡◌, refl, ap, sym, ◌∙◌}
use mathlib.Core.List.{List, ◌∷◌, ◌++◌}
use Prim.Native.Nat.{ℕ, zero, suc, ◌+◌, ◌*◌, ◌-◌, ◌≤◌, ◌<◌}
use native.Mathlib.Omega.{arith}
use borrow.Author.Tests.{eqb-true, eqb-false}
use lib.Dec.{eqb}
use lib.ListN.{length}
use Rattle.text.specs.Page.{Prints, has_room}
use Rattle.text.specs.declared.Page.{Page}
use Rattle.text.proofs.Pages.{still, then, worded, within}
use Rattle.mmio_state.specs.State.{State}
use Rattle.mmio_v2.specs.Fresh.{device}
use Rattle.mmio_v2.specs.Operation.{Operation}
use Rattle.mmio_v2.specs.Step.{operated}
use Rattle.mmio_v2.specs.declared.MmioV2Device.{MmioV2Device}
use Rattle.runs.specs.Runs.{run_from}
use Rattle.history.specs.Run.{next}
use Rattle.trace.specs.Verdict.{count}
use Rattle.play.specs.Log.{operation_at, log_from}
use Rattle.play.specs.Text.{outcome_text, log_text}
use Rattle.play.specs.Play.{Ran}
use Rattle.play.specs.declared.Show.{Show}
use Rattle.desk.specs.Desk.{room_before}
use Rattle.desk.specs.declared.Part.{Part}

pub length-log : (s : List ℕ) (i m : ℕ) → length (log_from s i m) ≡ m
unfolding log_from
length-log s i zero = refl
length-log s i (suc m) = ap suc (length-log s i m)

-- one record more
log-more : (s : List ℕ) (i j : ℕ) → i ≤ j → log_from s i (j + 1 - i) ≡ operation_at s j ∷ log_from s i (j - i)
unfolding log_from
log-more s i j h =
    let m : j + 1 - i ≡ suc (j - i) = omega arith in
    let k : i + (j - i) ≡ j = omega arith in
    ap (log_from s i) m ∙ ap (λ (x : ℕ). operation_at s x ∷ log_from s i (j - i)) k

-- records from record i on and before those that u has come to are told
pub record Going (o : Show) (s : List ℕ) (d : State) (i : ℕ) (old new : Page) (u : Part) : Type 0 where
  pub from : i ≤ u.next
  pub upto : u.next ≤ count s
  pub state : u.device ≡ device (run_from next d (log_from s i (u.next - i)))
  pub text : Prints (10304 * (u.next - i)) old (log_text o d i (log_from s i (u.next - i))) new
  pub had-room : (k : ℕ) → i ≤ k → k < u.next → room_before o s d i (length old.out.now) old.at k ≡ true

pub going-first : (o : Show) (s : List ℕ) (p : Page) (t : Part) → t.next ≤ count s → Going o s t.device.state t.next p p t
unfolding log_from log_text
going-first o s p t h =
    let z : t.next - t.next ≡ 0 = omega arith in
    record {
      from = omega arith;
      upto = h;
      state = rw z;
      text = rw z (still 0 p);
      had-room = λ k a b. absurd (none k a b);
    }
  where
    none : (k : ℕ) → t.next ≤ k → k < t.next → ⊥
    none k a b = omega arith

module _ {o : Show} {s : List ℕ} {d : State} {i : ℕ} {p q : Page} {u : Part} (g : Going o s d i p q u) where
  -- the room that the code sees is that before the next record
  here : (t : Bool) → has_room 10304 q ≡ t → room_before o s d i (length p.out.now) p.at u.next ≡ t
  here t e = rw (sym g.text.long, sym g.text.text.moved) e

  pub going_more : {q' : Page} {e : MmioV2Device} → u.next < count s → has_room 10304 q ≡ true
      → Ran o (u.next + 1) u.device.state (operation_at s u.next) q q' e → Going o s d i p q' (record { device = e; next = u.next + 1 })
  unfolding log_text
  going_more {e = e} less room x =
      let m : log_from s i (u.next + 1 - i) ≡ operation_at s u.next ∷ log_from s i (u.next - i) = log-more s i u.next g.from in
      let log = log_from s i (u.next - i) in
      let k : u.next + 1 ≡ i + length log + 1 = omega (arith, length-log s i (u.next - i), g.from) in
      let st : u.device.state ≡ run_from next d log = ap (λ (v : MmioV2Device). v.state) g.state in
      record {
        from = omega (arith, g.from);
        upto = omega arith;
        state = x.device-is ∙ ap (λ (v : State). device (next v (operation_at s u.next))) st ∙ sym (ap (λ (y : List Operation). device (run_from next d y)) m);
        text =
            within
            (worded (then g.text x.text)
            (ap (λ (v : State). log_text o d i log ++ outcome_text o (u.next + 1) (operated v (operation_at s u.next))) st
            ∙ ap (λ (j : ℕ). log_text o d i log ++ outcome_text o j (operated (run_from next d log) (operation_at s u.next))) k
            ∙ sym (ap (log_text o d i) m)))
            (omega (arith, g.from));
        had-room = λ j a b. earlier j a (omega arith) (eqb j u.next) refl;
      }
    where
      earlier : (j : ℕ) → i ≤ j → j < u.next + 1 → (t : Bool) → eqb j u.next ≡ t → room_before o s d i (length p.out.now) p.at j ≡ true
      earlier j a b true q = rw (eqb-true j u.next q) (here true room)
      earlier j a b false q = g.had-room j a (before (eqb-false j u.next q))
        where
          before : (j ≡ u.next → ⊥) → j < u.next
          before z = omega arith
