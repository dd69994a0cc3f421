use Rattle.std.proofs.Common.{rules, ◌≡◌}
use Rattle.mmio_state.specs.Activation.{resetting}
use Rattle.mmio_state.specs.Effect.{written}
use Rattle.mmio_state.proofs.Operating.{has-room, with-room, stop-effect}
use Rattle.mmio_state.proofs.MmioV2DeviceState.reset.Goals as goal

pub returns : goal.returns
returns c =
    let h = has-room _ _ c.in_ok-enough.ensures in
    let e = stop-effect c.args.self c.args.k _ h _ c.new-recorder.ensures.begun _ c.queues_in-n.ensures _ _ c.stop-ok.ensures.played c.stop-ok.ensures.ok_value in
    let p = with-room c.args.actions.now c.stop-ok.new.recorder.words.now (resetting c.args.self c.args.k) (record { state = c.reset_to.result; ok = c.stop-ok.result; count = c.stop-ok.new.recorder.tape.count }) h (rw c.reset_to.ensures e.0) e.1 in
    let q : c.stop-ok.new.recorder.words.now ≡ written c.args.actions.now (resetting c.args.self c.args.k) = p.1 in
    record { value = p.0; actions_after = search (rules, q) }
