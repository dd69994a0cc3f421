use Prim.Native.Nat.{◌*◌}
use lib.ListN.{take}
use Rattle.text.specs.Page.{Prints}
use Rattle.text.specs.Numerals.{pairs}
use Rattle.text.proofs.Page.put_pairs.Given as goal

abbrev pub invariant-loop-b : goal.invariant-loop-b
invariant-loop-b l = Prints (2 * l.b-index) l.initial.self (pairs (take l.b-index l.s)) l.self
