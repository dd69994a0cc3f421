use Prim.Native.Nat.{◌-◌}
use Rattle.desk.proofs.Going.{Going}
use Rattle.desk.proofs.Log.run_part.Given as goal

abbrev pub invariant-loop-t : goal.invariant-loop-t
invariant-loop-t l = Going l.self.show l.self.trace.now l.initial.t.device.state l.initial.t.next l.initial.page l.page l.t

abbrev pub decreases-loop-t : goal.decreases-loop-t
decreases-loop-t l = l.self.count - l.t.next
