use Rattle.std.proofs.lemmas.Result.{err_from_is_err_and}
use Rattle.activation.specs.Requests.{lasts}
use Rattle.activation.proofs.Turns.{asking, ended, further, turns-lasts}
use Rattle.activation.proofs.ask_all.Goals as goal

pub returns-in_err-register_ioevent : goal.returns-in_err-register_ioevent
returns-in_err-register_ioevent c =
    let p = err_from_is_err_and c.from_residual.result c.from_residual.ensures.1 in
    rw (p.1, p.2) (asking (turns-lasts c.args.bell 0 c.args.n) (ended lasts c.in_err-register_ioevent.ensures))

pub returns : goal.returns
returns c = asking (turns-lasts c.args.bell 0 c.args.n) (further c.in_ok-register_ioevent.ensures c.begin.ensures)
