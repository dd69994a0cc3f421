use mathlib.Core.Path.{ap, ◌∙◌}
use Rattle.std.specs.Prelude.{Ok}
use Rattle.play.proofs.Running.{run-as, surely-some, surely-ran}
use Rattle.desk.proofs.Placing.{is-record, no-other, runs-here, at-place}
use native.Mathlib.Omega.{arith}
use Rattle.desk.proofs.Log.run_at.Goals.{in_default-via-in-Ok+in_default, in_default-via-in_default}
use Rattle.desk.proofs.Log.run_at.Goals as goal

pub unreachable-requires : goal.unreachable-requires
unreachable-requires c =
    no-other c.args.self.trace.now c.args.self.good c.args.i (omega arith) c.read_at.result c.read_at.ensures
    (λ r e. elim c.in_default.branch [
      | in_default-via-in-Ok+in_default w ↦ cc
      | in_default-via-in_default w ↦ cc
    ])

pub unwrap-requires : goal.unwrap-requires
unwrap-requires c =
    let found = c.in-Ok-Some in
    let here = is-record c.args.self.trace.now c.args.self.good c.args.i (omega arith) found.r _ c.read_at.ensures (found.is ∙ ap Ok found.field-0-is) in
    surely-some c.run_record.ensures (runs-here c.args.self.trace.now c.args.self.good c.args.i (omega arith) found.r here _ _ c.requires.1)

pub returns : goal.returns
returns c =
    let found = c.in-Ok-Some in
    let here = is-record c.args.self.trace.now c.args.self.good c.args.i (omega arith) found.r _ c.read_at.ensures (found.is ∙ ap Ok found.field-0-is) in
    run-as (at-place _ _ _ _ here c.data_of.ensures)
    (surely-ran c.run_record.ensures (runs-here c.args.self.trace.now c.args.self.good c.args.i (omega arith) found.r here _ _ c.requires.1) c.unwrap.result c.unwrap.ensures)
