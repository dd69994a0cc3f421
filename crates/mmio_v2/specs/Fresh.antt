-- A fresh device, or refusals 1 to 6 in that order (01, "What the gateway hands over").
use Rattle.std.specs.Prelude.{Result, Ok, Err, not, ℕ, eqb}
use Rattle.words.specs.Pick.{pick}
use Rattle.words.specs.Refusals.{refusal_number}
use Rattle.words.specs.declared.Refusal.{Refusal}
use Rattle.words.specs.declared.Refusal.TheVariants.{WindowSize}
use Rattle.mmio_config.specs.Fresh.{refusal_of, refused_for, unless}
use Rattle.mmio_config.specs.declared.Configuration.{Configuration}
use Rattle.mmio_state.specs.State.{State}
use Rattle.mmio_state.specs.Fresh.{fresh_state, no_state}
use Rattle.mmio_v2.specs.declared.MmioV2Device.{MmioV2Device}
use Rattle.mmio_v2.specs.declared.MadeDevice.{MadeDevice}

abbrev pub device : State → MmioV2Device
device s = record { state = s }

-- 1 "window size is not 0x2000"; then the others; 0 where a device is made
abbrev pub refusal : Configuration → ℕ
refusal c = pick (not (eqb c.size 0x2000)) 1 (refusal_of c)

unfoldable pub made_device : Configuration → MadeDevice
made_device c = record { refusal = refusal c; device = device (pick (eqb (refusal c) 0) (fresh_state c) no_state) }

-- the same as a Result; and the C answer to one: a refusal gives its number, and a device of zeros
abbrev pub new_device : Configuration → Result MmioV2Device Refusal
new_device c = pick (eqb c.size 0x2000) (unless (refused_for c) (device (fresh_state c))) (Err WindowSize)

abbrev pub made_of : Result MmioV2Device Refusal → MadeDevice
made_of (Ok d) = record { refusal = 0; device = d }
made_of (Err e) = record { refusal = refusal_number e; device = device no_state }
