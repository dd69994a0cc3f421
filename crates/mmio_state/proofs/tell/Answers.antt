use Rattle.mmio_state.proofs.Operating.{has-room, with-room, one-laid}
use Rattle.mmio_state.proofs.tell.Goals as goal
use Rattle.mmio_state.specs.Effect.{telling}
use mathlib.Core.Path.{refl}

pub returns-clause-actions_after : goal.returns-clause-actions_after
returns-clause-actions_after c =
    let h = has-room _ _ c.in_ok-enough.ensures in
    (with-room _ _ (telling c.args.s c.args.ok c.args.x) _ h refl (one-laid _ _ _ _ h c.append.ensures)).1
