-- The staged message of four words (01, Registers: 0c4, 0c8, 0cc; Messages: "index kept"), and each word changed alone.
use Rattle.std.specs.Prelude.{ℕ}
use Rattle.msi.specs.declared.Msi.{Msi}

-- the stage when it is zeroed
abbrev pub no_message : Msi
no_message = record { index_select = 0; address_low = 0; address_high = 0; «data» = 0 }

abbrev pub with_index_select : Msi → (v : ℕ) → Msi
with_index_select m v = record m { index_select = v }

abbrev pub with_address_low : Msi → (v : ℕ) → Msi
with_address_low m v = record m { address_low = v }

abbrev pub with_address_high : Msi → (v : ℕ) → Msi
with_address_high m v = record m { address_high = v }

abbrev pub with_data : Msi → (v : ℕ) → Msi
with_data m v = record m { «data» = v }
