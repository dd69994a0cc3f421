use mathlib.Core.Path.{sym, ◌∙◌}
use Rattle.trace.proofs.Judging.{laid_few, accepted-good}
use Rattle.desk.proofs.Whole.{counted-good}
use native.Mathlib.Omega.{arith}
use Rattle.desk.proofs.Log.open.Goals as goal

pub invariant_of-result : goal.invariant_of-result
invariant_of-result c =
    let good = accepted-good c.args.trace.now (sym c.in_ok-verdict.ensures) in
    let counts = c.count-count.ensures ∙ counted-good c.args.trace.now good in
    record { good = good; counts = counts; few = omega (arith, counts, laid_few c.args.trace.now good.layout) }
