use mathlib.Core.List.{append_assoc}
use Rattle.text.specs.Details.{action_line}
use Rattle.text.proofs.Pages.{then, worded, within}
use native.Mathlib.Omega.{arith}
use Rattle.text.proofs.Page.put_action.Goals as goal

pub returns : goal.returns
unfolding action_line
returns c = within (worded (then (then c.put.ensures c.put_hexes.ensures) c.put_newline.ensures) (simp append_assoc)) (omega arith)
