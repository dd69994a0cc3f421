use Prim.Native.Nat.{ℕ, ◌/◌}
use lib.ListN.{length}
use native.Mathlib.Omega.{arith}
use Rattle.text.specs.Details.{action_line}
use Rattle.text.proofs.Pages.{roomed}
use Rattle.listing.specs.Listing.{action_in}
use Rattle.listing.proofs.Rows.{line-first, line-more}
use Rattle.listing.proofs.Back.{chunk-action}
use Rattle.listing.proofs.put_actions.Goals as goal

pub loop-kind-init : goal.loop-kind-init
loop-kind-init c = line-first _ _

pub loop-kind-preserved : goal.loop-kind-preserved
loop-kind-preserved c =
    let w = c.args.w.now in
    let here = chunk-action c.as_chunks.result.0.now (length w / 5) w c.loop-kind.kind-index c.as_chunks.ensures.front (omega arith) in
    line-more (λ (i : ℕ). action_line (action_in w i)) c.loop-kind.invariant (rw here at (roomed 128 c.action_line.ensures (omega arith)))
