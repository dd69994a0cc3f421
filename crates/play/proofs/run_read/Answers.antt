use lib.ListN.{length, take}
use Rattle.mmio_v2.specs.Operation.{Read}
use Rattle.play.proofs.Running.{few, words-enough, has-run}
use Rattle.play.proofs.Replying.{reply-back, reply-short, as-asked, as-laid}
use native.Mathlib.Omega.{arith}
use Rattle.play.proofs.run_read.Goals as goal

pub tell-requires : goal.tell-requires
tell-requires c = let a = c.args in
    let m = a.r.len in
    let b = c.space-reply.result in
    let w = c.space-w.result in
    let r = c.read-a.ensures in
    let short = reply-short a.d.state a.r.k a.r.place m b w _ c.read-a.result (omega arith) (omega arith) r.reply_after r.value in
    let op = Read a.r.k a.r.place (length (take m b)) in
    (short, few a.d.state op w _ c.read-a.result (omega arith) r.value r.actions_after, words-enough a.d.state op w _ c.read-a.result (omega arith) r.value r.actions_after, c.requires.1)

pub returns : goal.returns
returns c = let a = c.args in
    let m = a.r.len in
    let b = c.space-reply.result in
    let w = c.space-w.result in
    let r = c.read-a.ensures in
    let asked = as-asked a.d.state a.r.k a.r.place m b w _ c.read-a.result (omega arith) (omega arith) r.reply_after r.value in
    let laid = as-laid a.d.state a.r.k a.r.place m b w _ c.read-a.result (omega arith) (omega arith) r.reply_after r.value _ r.actions_after in
    let back = reply-back a.d.state a.r.k a.r.place m b w _ c.read-a.result (omega arith) (omega arith) r.reply_after r.value in
    has-run a.d.state (Read a.r.k a.r.place m) w _ c.read-a.result (omega arith) asked laid _ back c.tell.ensures
