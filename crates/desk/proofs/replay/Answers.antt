use mathlib.Core.Path.{◌≡◌, ap}
use Prim.Native.Nat.{◌+◌, ◌*◌, ◌≤◌}
use borrow.Author.Rules.{rules}
use lib.ListN.{length}
use native.Mathlib.Omega.{arith}
use Rattle.words.specs.Refusals.{refusal_number}
use Rattle.words.proofs.Refusals.{some_number}
use Rattle.mmio_state.specs.Fresh.{no_state}
use Rattle.mmio_v2.specs.Fresh.{device}
use Rattle.text.specs.Lines.{bad_line}
use Rattle.text.specs.Page.{PrintsLine}
use Rattle.trace.specs.Verdict.{count}
use Rattle.desk.proofs.Whole.{replayed, bad-told, good-no-room, bad-no-room}
use Rattle.desk.proofs.replay.Goals.{in_default-via-in-Ok+else-log-out, in_default-via-in-Err+else-out-ge128}
use Rattle.desk.proofs.replay.Goals as goal

pub returns-in-Ok : goal.returns-in-Ok
returns-in-Ok c =
    let ok = c.in-Ok.ensures.ok in
    let log = c.in-Ok.log in
    let good = rw ok.bytes at log.good in
    let fits : 128 + 10304 * count c.args.s.now ≤ length c.args.out.now = omega (arith, log.counts, ap count ok.bytes) in
    let text = rw (ok.bytes, ok.shows) at c.run_all-device.ensures.text in
    rw (c.run_all-device.ensures.device, ok.bytes)
    (replayed c.args.show c.args.s.now c.args.out.now c.new-page.ensures.front c.new-page.ensures.kept (search rules) good fits text)

pub returns-in-Err : goal.returns-in-Err
returns-in-Err c =
    let none : c.default.result ≡ device no_state = search rules in
    let line : PrintsLine 64 c.new-page-in-Err.result (bad_line (refusal_number c.in-Err.e)) c.bad.new.self = search rules in
    rw none
    (bad-told c.args.show c.args.s.now c.args.out.now c.new-page-in-Err.ensures.front c.new-page-in-Err.ensures.kept (search rules) (refusal_number c.in-Err.e) c.in-Err.ensures.err (some_number c.in-Err.e) c.if-out-ge128.true line)

pub returns-in_default : goal.returns-in_default
returns-in_default c =
    let none : c.default-in_default.result ≡ device no_state = search rules in
    rw none
    (elim c.in_default.branch [
      | in_default-via-in-Ok+else-log-out w ↦
          let ok = w.in-Ok.ensures.ok in
          good-no-room c.args.show c.args.s.now c.args.out.now (rw ok.bytes at w.in-Ok.log.good) (omega (arith, w.in-Ok.log.counts, ap count ok.bytes, w.if-log-out.false))
      | in_default-via-in-Err+else-out-ge128 w ↦
          bad-no-room c.args.show c.args.s.now c.args.out.now (refusal_number w.in-Err.e) w.in-Err.ensures.err (some_number w.in-Err.e) w.if-out-ge128.false
    ])
