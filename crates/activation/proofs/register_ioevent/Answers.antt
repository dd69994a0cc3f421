use Rattle.std.proofs.lemmas.Result.{err_from_is_err_and}
use Rattle.activation.proofs.Turns.{asking, ended, further, turns-next, turns-others}
use Rattle.activation.proofs.register_ioevent.Goals as goal

pub loop-i-preserved : goal.loop-i-preserved
loop-i-preserved c = asking (turns-next c.args.bell c.loop-i.i) (further c.loop-i.invariant c.in_ok-register_one.ensures)

pub returns-in_err-register_one : goal.returns-in_err-register_one
returns-in_err-register_one c =
    let p = err_from_is_err_and c.from_residual.result c.from_residual.ensures.1 in
    rw (p.1, p.2)
    (asking (turns-others c.args.bell c.loop-i.i c.args.n c.loop-i-test.true)
    (ended _ (asking (turns-next c.args.bell c.loop-i.i) (further c.loop-i.invariant c.in_err-register_one.ensures))))
