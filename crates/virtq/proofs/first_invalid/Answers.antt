use Rattle.std.proofs.Common.{rules}
use Rattle.virtq.proofs.Scans.{going_stop}
use Rattle.virtq.proofs.first_invalid.Goals as goal

pub returns-then-not-valid : goal.returns-then-not-valid
returns-then-not-valid c =
    rw (← c.min-count.ensures) (going_stop _ _ _ _ _ c.loop-i-test.true (search rules) c.loop-i.invariant)
