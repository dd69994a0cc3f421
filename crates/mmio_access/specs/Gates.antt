-- What the status lets through (01, Registers; Queue fields). The bits are virtio 1.2's, 2.1: 1 DRIVER, 2 DRIVER_OK,
-- 3 FEATURES_OK, 7 FAILED.
use Rattle.std.specs.Prelude.{Bool, not, ◌&&◌, ℕ}
use Rattle.words.specs.Bits.{bit}

-- "FEATURES_OK is set, DRIVER_OK and FAILED clear": writes to queue fields
abbrev pub fields_open : (status : ℕ) → Bool
fields_open v = bit 3 v && (not (bit 2 v) && not (bit 7 v))

-- "DRIVER set, FEATURES_OK and FAILED clear": acknowledged features
abbrev pub acks_open : (status : ℕ) → Bool
acks_open v = bit 1 v && (not (bit 3 v) && not (bit 7 v))

-- "DRIVER is set and FAILED clear": the device's own configuration
abbrev pub config_open : (status : ℕ) → Bool
config_open v = bit 1 v && not (bit 7 v)
