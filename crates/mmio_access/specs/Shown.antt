-- What registers show (01, Registers, Read).
use Rattle.std.specs.Prelude.{Option, Some, None, ℕ, eqb}
use Rattle.std.specs.Int.Bits.{bit_or}
use Rattle.words.specs.Pick.{pick}
use Rattle.words.specs.Bits.{bit}
use Rattle.dragonball.specs.DoorBell.{door_bell, register_data}
use Rattle.dragonball.specs.Regions.{region_base, low_word, high_word}
use Rattle.mmio_config.specs.declared.Region.{Region}
use Rattle.mmio_state.specs.State.{State}
use Rattle.mmio_state.specs.Fields.{offered, selected_region}

-- "010 features of the selected page (page 1 gains bit 0; pages above 1 are 0)"
abbrev pub device_features : State → ℕ
device_features s = pick (eqb s.hot.page 1) (bit_or (offered s) 1) (offered s)

-- "060 interrupt bits, with bit 0 added if vendor bit 0 is set"
abbrev pub tweaked : (vendor bits : ℕ) → ℕ
tweaked vendor bits = pick (bit 0 vendor) (bit_or bits 1) bits

-- "050 doorbell word": offset 0x1000, scale 4
abbrev pub doorbell_word : ℕ
doorbell_word = register_data (door_bell 0x1000 4)

-- "0c0 0x8000 if vendor bit 1, else 0"
abbrev pub csr_word : (vendor : ℕ) → ℕ
csr_word vendor = pick (bit 1 vendor) 0x8000 0

-- "No such region: 0xffffffff"
abbrev pub region_word : Option Region → (Region → ℕ) → ℕ
region_word None word = 0xffffffff
region_word (Some r) word = word r

-- "0b0, 0b4 region length and 0b8, 0bc region base, low and high"
abbrev pub shm_len_low : State → ℕ
shm_len_low s = region_word (selected_region s) (λ r. low_word r.length)

abbrev pub shm_len_high : State → ℕ
shm_len_high s = region_word (selected_region s) (λ r. high_word r.length)

-- "Region base is region offset plus list address"
abbrev pub shm_base : State → Region → ℕ
shm_base s r = region_base r.offset s.config.list

abbrev pub shm_base_low : State → ℕ
shm_base_low s = region_word (selected_region s) (λ r. low_word (shm_base s r))

abbrev pub shm_base_high : State → ℕ
shm_base_high s = region_word (selected_region s) (λ r. high_word (shm_base s r))
