use Rattle.desk.proofs.Going.{going-first, going_more}
use native.Mathlib.Omega.{arith}
use Rattle.desk.proofs.Log.run_part.Goals as goal

pub loop-t-init : goal.loop-t-init
loop-t-init c = going-first _ _ _ _ (omega arith)

pub loop-t-preserved : goal.loop-t-preserved
loop-t-preserved c = going_more c.loop-t.invariant (omega arith) (cc) c.run_at-t.ensures
