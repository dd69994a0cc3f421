use Rattle.std.proofs.Common.{◌+◌, ℕ}
use Rattle.words.specs.Pick.{pick}
use Rattle.words.specs.declared.Action.{Action}
use Rattle.words.proofs.Lists.{down-more}
use Rattle.tape.specs.Held.{entry, unregister}
use Rattle.tape.proofs.Loops.{left_more, left_last, down_none}
use Rattle.activation.proofs.revert_ioevent.Goals as goal

pub loop-idx-preserved : goal.loop-idx-preserved
loop-idx-preserved c =
    let f : ℕ → Action = λ k. unregister (entry k c.args.address 8 (pick c.args.wildcard 0 (k + 1))) in
    left_more (f _) _ _ c.loop-idx.invariant (down-more c.loop-idx.idx f c.loop-idx-test.true) (rw (c.revert_one.ensures, c.datamatch.ensures) at c.emit.ensures)

pub returns : goal.returns
returns c = left_last c.loop-idx.invariant (down_none c.loop-idx.idx _ c.loop-idx-test.false)
