-- The 16-bit message command (01, Messages: "code v & 0xf000, argument v & 0x0fff").
use Rattle.std.specs.Prelude.{ℕ, ◌*◌, ◌/◌, ◌%◌}
use Rattle.dragonball.specs.declared.MsiCommand.{MsiCommand}

-- the code is the quotient by 4,096, at its place; the argument is the remainder
abbrev pub command_of : (v : ℕ) → MsiCommand
command_of v = record { code = 4096 * (v / 4096); argument = v % 4096 }
