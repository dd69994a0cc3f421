use Rattle.words.proofs.Lists.{up_more, up_none}
use Rattle.tape.proofs.Loops.{left_more, left_last}
use Rattle.activation.proofs.tell_each.Goals as goal

pub loop-i-preserved : goal.loop-i-preserved
loop-i-preserved g c =
    λ f h. left_more (f c.loop-i.i) _ _ (c.loop-i.invariant f h) (up_more c.loop-i.i c.args.n f c.loop-i-test.true) (rw (h c.loop-i.i _ c.tell.ensures) at c.emit.ensures)

pub returns : goal.returns
returns g c = λ f h. left_last (c.loop-i.invariant f h) (up_none c.loop-i.i c.args.n f c.loop-i-test.false)
