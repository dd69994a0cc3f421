-- An update command's vector as a register's number.
use mathlib.Core.Path.{◌≡◌}
use Prim.Native.Nat.{ℕ, ◌%◌, ◌^◌, ◌<◌}
use native.Mathlib.Omega.{arith}

pub small-index : (v : ℕ) → v < 4096 → v % 2 ^ 32 ≡ v
small-index v h = omega arith
