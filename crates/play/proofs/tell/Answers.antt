use Prim.Native.Nat.{◌≤◌}
use native.Mathlib.Omega.{arith}
use borrow.Author.Rules.{rules}
use Rattle.text.specs.Page.{PrintsIf}
use Rattle.text.proofs.Pages.{untold, line-roomed}
use Rattle.listing.specs.Listing.{words_text}
use Rattle.play.proofs.Telling.{actions-told, queues-told, all_told}
use Rattle.play.proofs.tell.Goals.{then-line, else-line, Joined-line}
use Rattle.play.proofs.tell.Goals as goal

-- the line, and then the action records if they are asked for
acts : (c : Joined-line) → PrintsIf c.args.line.show.actions 8192 c.line.new.self (words_text c.args.w.now c.args.a.count) c.if-line.page
acts c =
    let line = line-roomed _ c.line.ensures c.requires.0 (omega arith) in
    elim c.if-line.branch [
      | then-line w ↦ rw w.page-is (actions-told w.if-line.true c.args.w.now _ c.args.a.count (search rules) (omega arith) (omega arith) (omega arith) w.actions.ensures)
      | else-line w ↦ rw w.page-is (untold _ _ _ w.if-line.false)
    ]

pub returns-then-line-2 : goal.returns-then-line-2
returns-then-line-2 c =
    let line = line-roomed _ c.line.ensures c.requires.0 (omega arith) in
    let records = acts (goal.at.returns-then-line-2 c).Joined-line in
    let few : c.queues_in-count.result ≤ 16 = search rules in
    all_told c.args.line.show _ _ _ _ _ _ _ line records (rw c.queues_in-count.ensures at (queues-told c.if-line-2.true c.args.a.device.state.queues _ c.queues_in-count.result (search rules) (omega arith) few (omega arith) c.queues.ensures))

pub returns-else-line-2 : goal.returns-else-line-2
returns-else-line-2 c =
    let line = line-roomed _ c.line.ensures c.requires.0 (omega arith) in
    all_told c.args.line.show _ _ _ _ _ _ _ line (acts (goal.at.returns-else-line-2 c).Joined-line) (untold _ _ _ c.if-line-2.false)
