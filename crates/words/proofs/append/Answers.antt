use mathlib.Core.Path.{◌∙◌}
use Rattle.words.proofs.Actions.{appended, left_out}
use Rattle.words.proofs.append.Goals.{then-actions-lt5-via-then-actions-lt5, then-actions-lt5-via-else-actions-lt5+then-actions-at}
use native.Mathlib.Omega.{arith}
use Rattle.words.proofs.append.Goals as goal

pub returns-then-actions-lt5 : goal.returns-then-actions-lt5
returns-then-actions-lt5 c =
    elim c.then-actions-lt5.branch [
      | then-actions-lt5-via-then-actions-lt5 w ↦ left_out _ _ c.args.x (omega arith)
      | then-actions-lt5-via-else-actions-lt5+then-actions-at w ↦ left_out _ _ c.args.x (omega arith)
    ]

pub returns : goal.returns
returns c = appended _ _ c.args.x _ (omega arith) (c.copy_from_slice.ensures.after ∙ c.words.ensures)
