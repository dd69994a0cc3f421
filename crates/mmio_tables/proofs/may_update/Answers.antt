use Rattle.mmio_tables.proofs.Tables.{update-bound}
use Rattle.mmio_tables.proofs.may_update.Goals as goal

pub returns : goal.returns
returns c = rw c.from.ensures (update-bound c.args.dataqueues c.args.v.0)
