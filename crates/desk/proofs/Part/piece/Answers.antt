use mathlib.Core.Bool.{true≢false}
use mathlib.Core.Path.{sym, ap, ◌∙◌}
use Rattle.trace.specs.Verdict.{count}
use Prim.Native.Nat.{◌≤◌}
use Rattle.desk.proofs.Whole.{may}
use native.Mathlib.Omega.{arith}
use borrow.Author.Rules.{rules}
use Rattle.desk.proofs.Part.piece.Goals as goal

pub returns-in-Ok : goal.returns-in-Ok
returns-in-Ok c =
    let ok = c.in-Ok.ensures.ok in
    let log = c.in-Ok.log in
    let good = rw ok.bytes at log.good in
    let left : c.args.self.next ≤ count c.args.s.now = omega (arith, log.counts, ap count ok.bytes) in
    record { ran = λ h. rw (← ok.bytes, ← ok.shows) (search rules); kept = λ h. absurd (true≢false (sym (may c.args.s.now c.args.self.next good left) ∙ h)) }
