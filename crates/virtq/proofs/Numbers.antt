-- The numbers of the fields are different, and all below 8.
use mathlib.Core.Path.{◌≡◌, refl}
use Prim.Native.Nat.{◌<◌}
use native.Mathlib.Omega.{arith}
use Rattle.virtq.specs.Fields.{number_of, field_numbered}
use Rattle.virtq.specs.declared.Field.{Field}
use Rattle.virtq.specs.declared.Field.TheVariants.{Size, Ready, DescLow, DescHigh, AvailLow, AvailHigh, UsedLow, UsedHigh}

pub field-numbers : (f : Field) → (field_numbered (number_of f) ≡ f) × (number_of f < 8)
field-numbers Size = (refl, omega arith)
field-numbers Ready = (refl, omega arith)
field-numbers DescLow = (refl, omega arith)
field-numbers DescHigh = (refl, omega arith)
field-numbers AvailLow = (refl, omega arith)
field-numbers AvailHigh = (refl, omega arith)
field-numbers UsedLow = (refl, omega arith)
field-numbers UsedHigh = (refl, omega arith)
