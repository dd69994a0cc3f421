use Prim.Native.Nat.{◌*◌}
use lib.ListN.{take}
use Rattle.text.specs.Page.{Prints}
use Rattle.text.specs.Details.{hexes}
use Rattle.text.proofs.Page.put_hexes.Given as goal

abbrev pub invariant-loop-n : goal.invariant-loop-n
invariant-loop-n l = Prints (17 * l.n-index) l.initial.self (hexes (take l.n-index l.n-items)) l.self
