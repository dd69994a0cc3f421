use Rattle.text.specs.Numerals.{pair}
use Rattle.text.proofs.Pages.{each-more}
use Rattle.text.proofs.Page.put_pairs.Goals as goal

pub loop-b-preserved : goal.loop-b-preserved
loop-b-preserved c = each-more pair c.args.s.now c.loop-b.invariant c.loop-b-test.true (rw c.from.ensures at c.put_pair.ensures)
