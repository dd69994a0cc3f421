-- A message command's argument.
use mathlib.Core.Bool.{Bool, true, false}
use mathlib.Core.Path.{◌≡◌, ap}
use Prim.Native.Nat.{ℕ, ◌<◌}
use native.Mathlib.Omega.{arith}
use lib.Dec.{eqb}
use Rattle.words.specs.Pick.{pick}
use Rattle.virtq.specs.declared.VectorIndex.{VectorIndex}
use Rattle.dragonball.specs.Messages.{command_of}
use Rattle.mmio_hot.specs.declared.Command.{Command}
use Rattle.mmio_hot.specs.declared.Command.TheVariants.{Update, Mask, Unmask, Other}
use Rattle.mmio_hot.specs.Commands.{command_at, vector_number}

-- an update's argument has twelve bits
abbrev argument_of : Command → ℕ
argument_of (Update w) = w.0
argument_of (Mask w) = w.0
argument_of (Unmask w) = w.0
argument_of Other = 0

pub update-small : (v : ℕ) (w : VectorIndex) → command_at v ≡ Update w → w.0 < 4096
update-small v w e =
    let z : argument_of (command_at v) ≡ w.0 = ap argument_of e in
    let s : argument_of (command_at v) < 4096 = small (eqb (command_of v).code 0x1000) (eqb (command_of v).code 0x2000) (eqb (command_of v).code 0x3000) in
    omega arith
  where
    small : (a b c : Bool)
        → argument_of (pick a (Update (vector_number (command_of v).argument)) (pick b (Mask (vector_number (command_of v).argument)) (pick c (Unmask (vector_number (command_of v).argument)) Other))) < 4096
    small true b c = omega arith
    small false true c = omega arith
    small false false true = omega arith
    small false false false = omega arith
