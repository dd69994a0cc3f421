use mathlib.Core.Path.{◌∙◌}
use Rattle.std.proofs.lemmas.Result.{err_from_is_err_and}
use Rattle.mmio_config.specs.Fresh.{accepted, configured, refused_for}
use Rattle.mmio_config.proofs.Accepting.{unless-err, unless-ok}
use Rattle.mmio_state.specs.Fresh.{fresh_state, made}
use Rattle.mmio_state.proofs.MmioV2DeviceState.new.Goals as goal

pub returns-in_err-config : goal.returns-in_err-config
unfolding made configured
returns-in_err-config c =
    let p = err_from_is_err_and c.from_residual.result c.from_residual.ensures.1 in
    rw (p.1, p.2) (unless-err (refused_for c.args.c) (accepted c.args.c) (fresh_state c.args.c) _ c.in_err-config.ensures)

pub returns : goal.returns
unfolding made configured
returns c =
    unless-ok (refused_for c.args.c) (accepted c.args.c) _ (fresh_state c.args.c) _ c.in_ok-config.ensures
    (λ e. c.begun.ensures ∙ rw (c.fresh_hot.ensures, e))
