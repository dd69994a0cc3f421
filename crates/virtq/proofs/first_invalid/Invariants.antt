use Rattle.virtq.proofs.Scans.{Going}
use Rattle.virtq.specs.Fields.{fields_of}
use Rattle.virtq.proofs.first_invalid.Given as goal

abbrev pub invariant-loop-i : goal.invariant-loop-i
invariant-loop-i l = Going l.memory (fields_of l.queues) l.count l.i l.found
