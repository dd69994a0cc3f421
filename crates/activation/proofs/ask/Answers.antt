use Rattle.std.proofs.Common.{rules}
use Rattle.activation.proofs.Turns.{accepted}
use Rattle.activation.proofs.ask.Goals as goal

pub returns-then-accepted : goal.returns-then-accepted
returns-then-accepted c = accepted _ c.args.request _ (rw c.record.ensures at c.emit.ensures) (search rules)
