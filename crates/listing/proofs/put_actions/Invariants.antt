use Prim.Native.Nat.{◌*◌}
use Rattle.text.specs.Page.{Prints}
use Rattle.listing.specs.Listing.{words_text}
use Rattle.listing.proofs.put_actions.Given as goal

abbrev pub invariant-loop-kind : goal.invariant-loop-kind
invariant-loop-kind l = Prints (128 * l.kind-index) l.initial.page (words_text l.w l.kind-index) l.page
