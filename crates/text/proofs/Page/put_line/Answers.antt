use Rattle.text.specs.Lines.{record_line}
use Rattle.text.proofs.Pages.{then, within}
use native.Mathlib.Omega.{arith}
use Rattle.text.proofs.Page.put_line.Goals as goal

pub returns : goal.returns
unfolding record_line
returns c = within (then (then (then (then (rw c.from.ensures at c.put_decimal.ensures) (then c.put.ensures c.put_pair.ensures)) c.next_reply.ensures) c.next_decimal.ensures) c.put_newline.ensures) (omega arith)
