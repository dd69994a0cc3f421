-- What an answer with words enough tells of its operation: the count is within bounds, its text is the operation's, the
-- record has run.
use mathlib.Core.Bool.{true}
use mathlib.Core.Path.{◌≡◌, refl, ap, sym, subst, ◌∙◌}
use mathlib.Core.List.{List}
use Prim.Native.Nat.{ℕ, ◌+◌, ◌*◌, ◌≤◌}
use native.Mathlib.Omega.{arith}
use borrow.Author.Tests.{eq-eqb, ne_eqb}
use lib.ListN.{length}
use lib.Seq.{length-sets}
use Rattle.words.specs.Actions.{words_of_all}
use Rattle.tape.specs.Play.{laid}
use Rattle.mmio_state.specs.State.{State, queues_in}
use Rattle.mmio_v2.specs.Fresh.{device}
use Rattle.mmio_v2.specs.Operation.{Operation, Read, Write, Raise}
use Rattle.mmio_v2.specs.Step.{operated, step, answer_of}
use Rattle.mmio_v2.specs.declared.Answer.{Answer}
use Rattle.mmio_v2.specs.declared.MmioV2Device.{MmioV2Device}
use Rattle.mmio_claims.proofs.Bounds.{done-from, at_most}
use Rattle.listing.specs.Listing.{words_text, actions_text}
use Rattle.listing.proofs.Back.{words-text}
use Rattle.text.specs.Page.{Prints}
use Rattle.text.specs.declared.Page.{Page}
use Rattle.text.proofs.Pages.{worded}
use Rattle.trace.specs.declared.Record.{Record}
use Rattle.play.specs.Log.{operation_of, may_run}
use Rattle.play.specs.Text.{told}
use Rattle.play.specs.Play.{Ran, Runs, runs}
use Rattle.std.specs.Prelude.{Bool, Option, Some, IsSome}
use Rattle.std.proofs.lemmas.Option.{same_Some}
use Rattle.text.proofs.Pieces.{room-left}
use Rattle.play.specs.declared.Show.{Show}

-- an operation, its answer, and the words after it
module _ (s : State) (op : Operation) (w w' : List ℕ) (a : Answer) (full : 320 ≤ length w)
    (q : a ≡ answer_of (step (length w) s op)) (e : w' ≡ laid w (step (length w) s op).actions)
  where
    plain : a ≡ answer_of (operated s op)
    plain = q ∙ ap answer_of (done-from (length w) s op full)

    written : w' ≡ laid w (operated s op).actions
    written = e ∙ rw (done-from (length w) s op full)

    most : length (operated s op).actions ≤ 64
    most = rw (done-from (length w) s op full) at (at_most (length w) s op)

    counted : a.count ≡ length (operated s op).actions
    counted = ap (λ (x : Answer). x.count) plain

    pub few : a.count ≤ 64
    few = omega (arith, counted, most)

    pub words-enough : 5 * a.count ≤ length w'
    words-enough = omega (arith, few, ap length e ∙ length-sets w 0 (words_of_all (step (length w) s op).actions))

    lines : words_text w' a.count ≡ actions_text (operated s op).actions
    lines = rw (counted, written) (words-text w (operated s op).actions (omega (arith, most)))

    -- it is told, so it has run
    pub has-run : {o : Show} {n : ℕ} (reply : List ℕ) {p p' : Page} → reply ≡ (operated s op).reply
        → Prints 10304 p (told o n a.device.state.hot.status reply a.count (words_text w' a.count) a.device.state.queues (queues_in a.device.state)) p'
        → Ran o n s op p p' a.device
    has-run {o} {n} reply e' t =
        let d : a.device ≡ device (operated s op).state = ap (λ (x : Answer). x.device) plain in
        record {
          device-is = d;
          text =
              worded t
              (rw (lines, counted, e')
              (ap (λ (x : MmioV2Device). told o n x.state.hot.status (operated s op).reply (length (operated s op).actions) (actions_text (operated s op).actions) x.state.queues (queues_in x.state)) d));
        }

-- ---- one record

module _ (r : Record) (bs : List ℕ) where
  pub is_read : r.kind ≡ 1 → operation_of r bs ≡ Read r.k r.place r.len
  unfolding operation_of
  is_read e = rw (eq-eqb r.kind 1 e)

  pub is-write : (r.kind ≡ 1 → ⊥) → r.kind ≡ 2 → operation_of r bs ≡ Write r.k r.place bs
  unfolding operation_of
  is-write f e = rw (ne_eqb r.kind 1 f, eq-eqb r.kind 2 e)

  pub is-raise : (r.kind ≡ 1 → ⊥) → (r.kind ≡ 2 → ⊥) → operation_of r bs ≡ Raise r.place
  unfolding operation_of
  is-raise f g = rw (ne_eqb r.kind 1 f, ne_eqb r.kind 2 g)

-- the same of an operation written otherwise
pub run-as : {o : Show} {n : ℕ} {s : State} {op op' : Operation} {p p' : Page} {d : MmioV2Device} → op' ≡ op → Ran o n s op p p' d → Ran o n s op' p p' d
run-as {o} {n} {s} {p = p} {p' = p'} {d = d} e x = subst (λ (y : Operation). Ran o n s y p p' d) (sym e) x

pub runs-yes : (r : Record) (len at : ℕ) → may_run r ≡ true → at + 10304 ≤ len → runs r len at ≡ true
runs-yes r len at e h = rw (e, room-left 10304 len at h)

-- where a record may run and there is room, there is a device, and the record has run
module _ {t : Bool} {o : Show} {n : ℕ} {s : State} {op : Operation} {p p' : Page} {r : Option MmioV2Device} (x : Runs t o n s op p p' r) (e : t ≡ true) where
  pub surely-some : IsSome r
  surely-some = let y = rw e at x in rw y.device-is refl

  pub surely-ran : (d : MmioV2Device) → r ≡ Some d → Ran o n s op p p' d
  surely-ran d is = let y = rw e at x in record { device-is = same_Some d _ (sym is ∙ y.device-is); text = y.text }
