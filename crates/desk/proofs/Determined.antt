-- Any two results that a promise of this floor allows are equal, and so are the bytes of the page and its place, or the lent buffer.
use mathlib.Core.Bool.{Bool, true, false, true≢false}
use mathlib.Core.Path.{◌≡◌, refl, ap, sym, ◌∙◌}
use mathlib.Core.List.{List}
use Prim.Native.Nat.{ℕ, ◌-◌, ◌≤◌, ◌<◌}
use native.Mathlib.Omega.{arith}
use borrow.Author.Tests.{ltb-true, ltb-false}
use lib.Dec.{ltb}
use Rattle.text.specs.declared.Page.{Page}
use Rattle.text.proofs.Pages.{worded}
use Rattle.text.proofs.Determined.{Same, same-printed}
use Rattle.mmio_state.specs.State.{State}
use Rattle.mmio_v2.specs.Fresh.{device}
use Rattle.runs.specs.Runs.{run_from}
use Rattle.history.specs.Run.{next}
use Rattle.trace.specs.Verdict.{count}
use Rattle.play.specs.Log.{log_from}
use Rattle.play.specs.Text.{log_text}
use Rattle.play.specs.declared.Show.{Show}
use Rattle.desk.specs.Desk.{Parted, may_play, Pieced, Replayed}
use Rattle.desk.specs.declared.Part.{Part}
use Rattle.desk.specs.declared.Played.{Played}
use Rattle.desk.proofs.Part.begin.Reads as begin-promise
use Rattle.desk.proofs.Part.piece.Reads as piece-promise
use Rattle.desk.proofs.replay.Reads as replay-promise

same-part : {r r' : Part} → r.device ≡ r'.device → r.next ≡ r'.next → r ≡ r'
same-part a b = rw (a, b)

same-played : {r r' : Played} → r.device ≡ r'.device → r.len ≡ r'.len → r.whole ≡ r'.whole → r ≡ r'
same-played a b c = rw (a, b, c)

module _ (o : Show) (s : List ℕ) (d : State) (i : ℕ) (p : Page) where
  -- one can't stop earlier than the other: the other had room there
  no_less : {q q' : Page} {r r' : Part} → Parted o s d i p q r → Parted o s d i p q' r' → r.next < r'.next → ⊥
  no_less {r = r} {r' = r'} x y h = true≢false (sym (y.had-room r.next x.from h) ∙ x.full (other y.upto))
    where
      other : r'.next ≤ count s → r.next ≡ count s → ⊥
      other a b = omega arith

  same_next : {q q' : Page} {r r' : Part} → Parted o s d i p q r → Parted o s d i p q' r' → r.next ≡ r'.next
  same_next {r = r} {r' = r'} x y = go (ltb r.next r'.next) (ltb r'.next r.next) refl refl
    where
      go : (a b : Bool) → ltb r.next r'.next ≡ a → ltb r'.next r.next ≡ b → r.next ≡ r'.next
      go true b e f = absurd (no_less x y (ltb-true r.next r'.next e))
      go false true e f = absurd (no_less y x (ltb-true r'.next r.next f))
      go false false e f = omega (arith, ltb-false r.next r'.next e, ltb-false r'.next r.next f)

  same-parted : {q q' : Page} {r r' : Part} → Parted o s d i p q r → Parted o s d i p q' r' → (r ≡ r') × Same q q'
  same-parted x y =
      let e = same_next x y in (
        same-part (x.state ∙ ap (λ (k : ℕ). device (run_from next d (log_from s i (k - i)))) e ∙ sym y.state) e,
        same-printed (worded x.text (ap (λ (k : ℕ). log_text o d i (log_from s i (k - i))) e)) y.text,
      )

same-pieced : {o : Show} {s : List ℕ} {t : Part} {p q q' : Page} {r r' : Part} → Pieced o s t p q r → Pieced o s t p q' r' → (r ≡ r') × Same q q'
same-pieced {o = o} {s = s} {t = t} {p = p} {q = q} {q' = q'} {r = r} {r' = r'} x y = go (may_play s t.next) refl
  where
    alike : q ≡ p → q' ≡ p → Same q q'
    alike e f = rw (e, f) (refl, refl, refl)

    go : (b : Bool) → may_play s t.next ≡ b → (r ≡ r') × Same q q'
    go true e = same-parted o s t.device.state t.next p (x.ran e) (y.ran e)
    go false e = ((x.kept e).0 ∙ sym (y.kept e).0, alike (x.kept e).1 (y.kept e).1)

pub begin-determined : (κs : _) (a : _) (r r' : _) (s s' : _) → begin-promise.Post κs a r s → begin-promise.Post κs a r' s' → (r ≡ r') × Same s.1.0.now s'.1.0.now
begin-determined κs a r r' s s' p q = (same-part (p.fresh ∙ sym q.fresh) (p.first ∙ sym q.first), same-printed p.text q.text)

pub piece-determined : (κs : _) (a : _) (r r' : _) (s s' : _) → piece-promise.Post κs a r s → piece-promise.Post κs a r' s' → (r ≡ r') × Same s.1.1.1.0.now s'.1.1.1.0.now
piece-determined κs a r r' s s' p q = same-pieced p q

pub same-replayed : {o : Show} {s l l' l'' : List ℕ} {r r' : Played} → Replayed o s l l' r → Replayed o s l l'' r' → (r ≡ r') × (l' ≡ l'')
same-replayed p q =
    (same-played (p.state ∙ sym q.state) (p.text.moved ∙ sym q.text.moved) (p.whole ∙ sym q.whole), p.text.wrote ∙ sym q.text.wrote)

pub replay-determined : (κs : _) (a : _) (r r' : _) (s s' : _) → replay-promise.Post κs a r s → replay-promise.Post κs a r' s' → (r ≡ r') × (s.1.1.0.now ≡ s'.1.1.0.now)
replay-determined κs a r r' s s' p q = same-replayed p q
