use Rattle.text.proofs.Pages.{then, within}
use native.Mathlib.Omega.{arith}
use Rattle.text.proofs.Page.put_named.Goals as goal

pub returns : goal.returns
returns c = within (then (then c.put_bytes.ensures (rw c.from.ensures at c.next_decimal.ensures)) c.put_newline.ensures) (omega arith)
