use Rattle.std.proofs.lemmas.Result.{err_from_is_err_and}
use Rattle.mmio_config.specs.Fresh.{accepted, refused_for, configured}
use Rattle.mmio_config.proofs.Accepting.{unless-err}
use Rattle.mmio_config.proofs.configure.Goals as goal

pub returns-in_err-check : goal.returns-in_err-check
unfolding configured
returns-in_err-check c =
    let p = err_from_is_err_and c.from_residual.result c.from_residual.ensures.1 in
    rw (p.1, p.2) (unless-err (refused_for c.args.c) tt (accepted c.args.c) _ c.in_err-check.ensures)
