-- What a version says of a trace: the configuration block's length, how many sizes it has, and where memory stands in it
-- (01, The trace). There is one version; with a second one `form` takes the version's number.
use Rattle.std.specs.Prelude.{Bool, ℕ, ◌+◌, ◌*◌, eqb}

pub record Form : Type 0 where
  pub block : ℕ
  pub sizes : ℕ
  pub memory : ℕ

-- "version 1": "Configuration, 240 bytes: u64 base, size, memory; .. 16 u16 sizes"
abbrev pub form : Form
form = record { block = 240; sizes = 16; memory = 16 }

abbrev pub known_version : (version : ℕ) → Bool
known_version v = eqb v 1

-- "offsets 24, 264 and 264 + 24 × count"
abbrev pub block_place : ℕ
block_place = 24

abbrev pub records_place : ℕ
records_place = block_place + form.block

abbrev pub pool_place : (count : ℕ) → ℕ
pool_place n = records_place + 24 * n
