use Rattle.std.proofs.Common.{rules}
use Rattle.tape.specs.Held.{note, unregister}
use Rattle.activation.proofs.unregister_ioevent.Goals as goal

pub returns : goal.returns
returns c = c.tell_each.ensures (λ q. unregister (note c.args.recorder.now.base q)) (λ q x p. search rules)
