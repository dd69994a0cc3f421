use Rattle.std.proofs.lemmas.Result.{err_from_is_err_and}
use Rattle.trace.proofs.Judging.{judging_more, judging_stop, judging_last}
use Rattle.trace.proofs.judge_all.Goals as goal

pub loop-i-preserved : goal.loop-i-preserved
loop-i-preserved c = judging_more _ _ _ c.loop-i.invariant c.loop-i-test.true (rw (c.record_at.ensures, c.place_of.ensures, c.header_at-pool.ensures) at c.in_ok-judge.ensures)

pub returns-in_err-judge : goal.returns-in_err-judge
returns-in_err-judge c =
    let p = err_from_is_err_and c.from_residual.result c.from_residual.ensures.1 in
    rw (p.1, p.2) (judging_stop _ _ _ c.loop-i.invariant _ c.loop-i-test.true (rw (c.record_at.ensures, c.place_of.ensures, c.header_at-pool.ensures) at c.in_err-judge.ensures))

pub returns : goal.returns
returns c = judging_last _ _ _ c.loop-i.invariant c.loop-i-test.false
