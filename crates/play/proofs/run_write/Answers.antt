use mathlib.Core.Path.{refl}
use Rattle.mmio_v2.specs.Operation.{Write}
use Rattle.play.proofs.Running.{few, words-enough, has-run}
use native.Mathlib.Omega.{arith}
use Rattle.play.proofs.run_write.Goals as goal

pub tell-requires : goal.tell-requires
tell-requires c = let op = Write c.args.r.k c.args.r.place c.args.bytes.now in
    let r = c.write-a.ensures in
    (omega arith, few c.args.d.state op c.space-w.result _ c.write-a.result (omega arith) r.value r.actions_after, words-enough c.args.d.state op c.space-w.result _ c.write-a.result (omega arith) r.value r.actions_after, c.requires)

pub returns : goal.returns
returns c = has-run c.args.d.state (Write c.args.r.k c.args.r.place c.args.bytes.now) c.space-w.result _ c.write-a.result (omega arith) c.write-a.ensures.value c.write-a.ensures.actions_after _ refl c.tell.ensures
