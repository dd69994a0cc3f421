use mathlib.Core.Path.{◌≡◌, ap}
use native.Mathlib.Omega.{arith}
use Rattle.std.proofs.lemmas.Result.{err_from_is_err_and}
use Rattle.mmio_config.specs.Fresh.{refused_for}
use Rattle.mmio_config.proofs.Accepting.{unless-err, unless-ok}
use Rattle.mmio_state.specs.Fresh.{fresh_state, made}
use Rattle.mmio_v2.specs.Fresh.{device}
use Rattle.mmio_v2.proofs.MmioV2Device.new.Goals as goal

pub returns-in_err-state : goal.returns-in_err-state
unfolding made
returns-in_err-state c =
    let p = err_from_is_err_and c.from_residual.result c.from_residual.ensures.1 in
    let e : c.args.c.size ≡ 0x2000 = omega arith in
    rw (p.1, p.2, e) (unless-err (refused_for c.args.c) (fresh_state c.args.c) (device (fresh_state c.args.c)) _ c.in_err-state.ensures)

pub returns : goal.returns
unfolding made
returns c =
    let e : c.args.c.size ≡ 0x2000 = omega arith in
    rw e (unless-ok (refused_for c.args.c) (fresh_state c.args.c) _ (device (fresh_state c.args.c)) _ c.in_ok-state.ensures (λ e. ap device e))
