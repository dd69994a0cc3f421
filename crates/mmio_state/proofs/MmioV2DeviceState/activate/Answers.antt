use Rattle.std.proofs.Common.{rules, ◌≡◌}
use Rattle.mmio_state.specs.Activation.{activating}
use Rattle.mmio_state.specs.Effect.{written}
use Rattle.mmio_state.proofs.Operating.{has-room, with-room, start-effect}
use Rattle.mmio_state.proofs.MmioV2DeviceState.activate.Goals as goal

pub returns : goal.returns
returns c =
    let h = has-room _ _ c.in_ok-enough.ensures in
    let e = start-effect c.args.self c.args.k _ h _ c.new-recorder.ensures.begun _ c.queues_in-n.ensures _ _ c.if-self.false _ c.check_queues_valid-valid.ensures c.start-ok.ensures.played c.start-ok.ensures.ok_value in
    let p = with-room c.args.actions.now c.start-ok.new.recorder.words.now (activating c.args.self c.args.k) (record { state = c.settle.result; ok = c.start-ok.result; count = c.start-ok.new.recorder.tape.count }) h (rw c.settle.ensures e.0) e.1 in
    let q : c.start-ok.new.recorder.words.now ≡ written c.args.actions.now (activating c.args.self c.args.k) = p.1 in
    record { value = p.0; actions_after = search (rules, q) }
