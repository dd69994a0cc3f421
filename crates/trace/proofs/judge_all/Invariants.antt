use Rattle.std.proofs.Common.{◌≡◌, ◌-◌}
use Rattle.trace.specs.Verdict.{judged_from}
use Rattle.trace.proofs.judge_all.Given as goal

abbrev pub invariant-loop-i : goal.invariant-loop-i
invariant-loop-i l = judged_from l.s l.i (l.n - l.i) ≡ judged_from l.s 0 l.n
