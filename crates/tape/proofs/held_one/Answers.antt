use Rattle.std.proofs.Common.{rules}
use Rattle.tape.proofs.Table.{held-stored, held-past}
use Rattle.tape.proofs.held_one.Goals as goal

pub returns-then-x : goal.returns-then-x
returns-then-x c = rw c.held_queue.ensures (held-stored _ _ c.args.x c.args.held)

pub returns-else-x : goal.returns-else-x
returns-else-x c = held-past _ _ c.args.x _ (search rules)
