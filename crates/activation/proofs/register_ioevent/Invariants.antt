use Rattle.std.specs.Prelude.{Ok}
use Rattle.activation.specs.Ties.{Asked, turns}
use Rattle.activation.proofs.register_ioevent.Given as goal

abbrev pub invariant-loop-i : goal.invariant-loop-i
invariant-loop-i l = Asked l.initial.recorder (turns l.bell 0 l.i) l.recorder (Ok tt)
