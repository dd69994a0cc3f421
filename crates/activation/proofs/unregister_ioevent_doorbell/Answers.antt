use Rattle.std.proofs.Common.{rules}
use Rattle.tape.specs.Held.{bell, unregister}
use Rattle.activation.proofs.unregister_ioevent_doorbell.Goals as goal

pub returns : goal.returns
returns c = c.tell_each.ensures (λ q. unregister (bell c.args.recorder.now.base q)) (λ q x p. search rules)
