use Rattle.std.proofs.Common.{false}
use Rattle.activation.specs.Requests.{wipes}
use Rattle.tape.proofs.Playing.{then, based}
use Rattle.activation.proofs.undo.Goals.{then-bell, else-bell}
use Rattle.activation.proofs.undo.Goals as goal

pub returns-in-Doorbell : goal.returns-in-Doorbell
returns-in-Doorbell c =
    rw c.in-Doorbell.is (based (rw c.bell_entry.ensures at c.revert_ioevent.ensures) (λ b. wipes b c.args.n false) c.wipe.ensures)

pub returns-after-bell : goal.returns-after-bell
returns-after-bell c =
    elim c.if-bell.branch [
      | then-bell w ↦
          let e = then w.unregister_ioevent_doorbell.ensures (rw (c.note_entry.ensures, w.recorder-is) at c.revert_ioevent-in-Notify.ensures) in
          rw (c.in-Notify.is, w.if-bell.true) (based e (λ b. wipes b c.args.n false) c.wipe-in-Notify.ensures)
      | else-bell w ↦
          let e = rw (c.note_entry.ensures, w.recorder-is) at c.revert_ioevent-in-Notify.ensures in
          rw (c.in-Notify.is, w.if-bell.false) (based e (λ b. wipes b c.args.n false) c.wipe-in-Notify.ensures)
    ]
