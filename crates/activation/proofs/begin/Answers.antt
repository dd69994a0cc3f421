use Rattle.std.proofs.Common.{[], ◌∷◌}
use Rattle.std.proofs.lemmas.Result.{err_from_is_err_and}
use Rattle.activation.specs.Requests.{Activate}
use Rattle.activation.proofs.Turns.{ended, further}
use Rattle.activation.proofs.begin.Goals as goal

pub returns-in_err-ask : goal.returns-in_err-ask
returns-in_err-ask c =
    let p = err_from_is_err_and c.from_residual.result c.from_residual.ensures.1 in rw (p.1, p.2) (ended (Activate ∷ []) c.in_err-ask.ensures)

pub returns : goal.returns
returns c = further c.in_ok-ask.ensures c.ask-2.ensures
