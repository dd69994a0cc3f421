use Rattle.activation.proofs.Turns.{all-accepted, all-starts, undone, not-started}
use Rattle.activation.proofs.attempt.Goals as goal

pub returns-in-Ok-clause-played : goal.returns-in-Ok-clause-played
returns-in-Ok-clause-played c = all-accepted c.args.bell c.args.n (rw c.in-Ok.is at c.ask_all.ensures)

pub returns-in-Ok-clause-ok_value : goal.returns-in-Ok-clause-ok_value
returns-in-Ok-clause-ok_value c = all-starts (rw c.in-Ok.is at c.ask_all.ensures)

pub returns-in-Err-clause-played : goal.returns-in-Err-clause-played
returns-in-Err-clause-played c = undone c.args.bell c.args.n (rw c.in-Err.is at c.ask_all.ensures) c.undo.ensures

pub returns-in-Err-clause-ok_value : goal.returns-in-Err-clause-ok_value
returns-in-Err-clause-ok_value c = not-started (rw c.in-Err.is at c.ask_all.ensures)
