use native.Mathlib.Omega.{arith}
use Rattle.play.proofs.Running.{is_read, is-write, is-raise, run-as}
use Rattle.play.proofs.run_kind.Goals as goal

pub returns-in-1 : goal.returns-in-1
returns-in-1 c = run-as (is_read _ _ c.in-1.is) c.run_read.ensures

pub returns-in-2 : goal.returns-in-2
returns-in-2 c = run-as (is-write _ _ (λ e. omega arith) c.in-2.is) c.run_write.ensures

pub returns-in_default : goal.returns-in_default
returns-in_default c = run-as (is-raise _ _ (λ e. omega arith) (λ e. omega arith)) c.run_raise.ensures
