use Rattle.text.proofs.Pages.{then, worded, within}
use Rattle.text.specs.Lines.{spaced}
use Rattle.text.proofs.Pieces.{reply-none, reply-some}
use borrow.Author.Tests.{eqb-true, eqb-false}
use mathlib.Core.Path.{ap, sym, ◌∙◌}
use native.Mathlib.Omega.{arith}
use Rattle.text.proofs.Page.next_reply.Goals as goal

pub returns-then-is_empty : goal.returns-then-is_empty
returns-then-is_empty c = within (worded (then c.put.ensures c.put-then-is_empty.ensures) (ap spaced (sym (reply-none _ (eqb-true _ 0 (sym c.is_empty.ensures ∙ c.if-is_empty.true)))))) (omega arith)

pub returns-else-is_empty : goal.returns-else-is_empty
returns-else-is_empty c = worded (then c.put.ensures c.put_pairs.ensures) (ap spaced (sym (reply-some _ (eqb-false _ 0 (sym c.is_empty.ensures ∙ c.if-is_empty.false)))))
