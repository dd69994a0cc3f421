use mathlib.Core.Path.{refl}
use Rattle.mmio_v2.specs.Operation.{Raise}
use Rattle.play.proofs.Running.{has-run}
use native.Mathlib.Omega.{arith}
use Rattle.play.proofs.run_raise.Goals as goal

pub returns : goal.returns
returns c = has-run c.args.d.state (Raise c.args.bits) c.space-w.result _ c.raise-a.result (omega arith) c.raise-a.ensures.value c.raise-a.ensures.actions_after _ refl c.tell.ensures
