use Rattle.std.proofs.lemmas.Result.{err_from_is_err_and}
use Rattle.trace.proofs.Judging.{told_new}
use Rattle.trace.proofs.configured.Goals as goal

pub returns-in_err-new : goal.returns-in_err-new
returns-in_err-new c =
    let p = err_from_is_err_and c.from_residual.result c.from_residual.ensures.1 in
    rw (p.1, p.2) (told_new _ c.args.k c.in_err-new.ensures)

pub returns : goal.returns
returns c = told_new _ c.args.k c.in_ok-new.ensures
