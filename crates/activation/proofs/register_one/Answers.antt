use Rattle.std.proofs.Common.{[], ◌∷◌}
use Rattle.std.proofs.lemmas.Result.{err_from_is_err_and}
use Rattle.activation.specs.Requests.{Note}
use Rattle.activation.proofs.Turns.{ended, further}
use Rattle.activation.proofs.register_one.Goals.{then-bell+in_ok-ask, else-bell}
use Rattle.activation.proofs.register_one.Goals as goal

pub returns-in_err-ask : goal.returns-in_err-ask
returns-in_err-ask c =
    let p = err_from_is_err_and c.from_residual.result c.from_residual.ensures.1 in
    rw (c.if-bell.true, p.1, p.2) (ended (Note c.args.q.0 ∷ []) c.in_err-ask.ensures)

pub returns : goal.returns
returns c =
    elim c.if-bell.branch [
      | then-bell+in_ok-ask w ↦ rw w.if-bell.true (further w.in_ok-ask.ensures (rw w.recorder-is at c.ask-2.ensures))
      | else-bell w ↦ rw w.if-bell.false (rw w.recorder-is at c.ask-2.ensures)
    ]
