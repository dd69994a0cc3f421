use Rattle.listing.specs.Listing.{queue_line}
use Rattle.listing.proofs.Rows.{line-first, line-more}
use Rattle.listing.proofs.put_queues.Goals as goal

pub loop-index-init : goal.loop-index-init
loop-index-init c = line-first _ _

pub loop-index-preserved : goal.loop-index-preserved
loop-index-preserved c = line-more (queue_line c.args.queues.now) c.loop-index.invariant c.put_queue.ensures
