use Prim.Native.Nat.{◌*◌}
use Rattle.text.specs.Page.{Prints}
use Rattle.listing.specs.Listing.{queues_text}
use Rattle.listing.proofs.put_queues.Given as goal

abbrev pub invariant-loop-index : goal.invariant-loop-index
invariant-loop-index l = Prints (128 * l.index) l.initial.page (queues_text l.queues l.index) l.page
