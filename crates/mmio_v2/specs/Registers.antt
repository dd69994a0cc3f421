-- Each register: what a read of it shows, and what a write to it does, in the order of 01's lists (01, Registers).
use Rattle.std.specs.Prelude.{Bool, true, List, [], ℕ, eqb}
use Rattle.words.specs.Pick.{pick}
use Rattle.words.specs.Bytes.{bytes_of}
use Rattle.words.specs.declared.Action.{Action}
use Rattle.msi.specs.Stage.{with_address_low, with_address_high, with_data}
use Rattle.registers.specs.declared.ReadRegister.{ReadRegister}
use Rattle.registers.specs.declared.ReadRegister.TheVariants as R
use Rattle.registers.specs.declared.WriteRegister.{WriteRegister}
use Rattle.registers.specs.declared.WriteRegister.TheVariants as W
use Rattle.mmio_state.specs.State.{State}
use Rattle.mmio_state.specs.Effect.{Effect, quiet}
use Rattle.mmio_state.specs.Fields.{selected_max, selected_ready}
use Rattle.mmio_msi.specs.Messages.{staged, enabling, commanding}
use Rattle.mmio_ladder.specs.Climbing.{climbing}
use Rattle.mmio_access.specs.Shown.{device_features, doorbell_word, tweaked, shm_len_low, shm_len_high, shm_base_low, shm_base_high, csr_word}
use Rattle.mmio_access.specs.Changes.{asking, selected, acknowledged, field_updated, acked, config_read, config_written}
use Rattle.mmio_v2.specs.declared.Shown.{Shown}
use Rattle.mmio_v2.specs.declared.Shown.TheVariants.{Word, Half, Nothing}

-- ---- a read

-- "while a doorbell stands, else unknown"
abbrev pub word_if : Bool → ℕ → Shown
word_if t v = pick t (Word v) Nothing

abbrev pub shows : State → ReadRegister → Shown
shows s R.MagicValue = Word 0x74726976
shows s R.Version = Word 2
shows s R.DeviceId = Word s.config.kind
shows s R.VendorId = Word s.hot.vendor
shows s R.DeviceFeature = Word (device_features s)
shows s R.QueueNumMax = Word (selected_max s)
shows s R.QueueReady = Word (selected_ready s)
shows s R.QueueNotify = word_if s.hot.doorbell doorbell_word
shows s R.InterruptStatus = Word (tweaked s.hot.vendor s.hot.interrupts)
shows s R.Status = Word s.hot.status
shows s R.ShmLenLow = Word (shm_len_low s)
shows s R.ShmLenHigh = Word (shm_len_high s)
shows s R.ShmBaseLow = Word (shm_base_low s)
shows s R.ShmBaseHigh = Word (shm_base_high s)
shows s R.ConfigGeneration = Word 0
shows s R.MsiCsr = Half (csr_word s.hot.vendor)
shows s (R.Config n) = Nothing
shows s R.Unknown = Nothing

-- the reply, "little-endian"
abbrev pub bytes_shown : Shown → List ℕ
bytes_shown (Word v) = bytes_of 4 v
bytes_shown (Half v) = bytes_of 2 v
bytes_shown Nothing = []

-- it is as long as the access, or there is none
abbrev pub fits_reply : Shown → (length : ℕ) → Bool
fits_reply (Word v) l = eqb 4 l
fits_reply (Half v) l = eqb 2 l
fits_reply Nothing l = true

-- what a read of this length asks: action 12 for the configuration, and else nothing
abbrev pub read_asks : State → ReadRegister → (length : ℕ) → List Action
read_asks s (R.Config n) l = (config_read s n l).actions
read_asks s _ l = []

abbrev pub reading_asks : State → ReadRegister → (length : ℕ) → Effect
reading_asks s r l = asking s (read_asks s r l)

-- ---- a write: v is the word of four bytes, h that of two, l the length, k the outcome number

abbrev pub does : State → (v h l k : ℕ) → WriteRegister → Effect
does s v h l k W.DeviceFeatureSel = quiet (selected s v s.hot.ackpage s.hot.queue s.hot.region) true
does s v h l k W.DriverFeature = acked s v
does s v h l k W.DriverFeatureSel = quiet (selected s s.hot.page v s.hot.queue s.hot.region) true
does s v h l k W.QueueSel = quiet (selected s s.hot.page s.hot.ackpage v s.hot.region) true
does s v h l k (W.QueueField f) = quiet (field_updated s f v) true
does s v h l k W.InterruptAck = quiet (acknowledged s v) true
does s v h l k W.Status = climbing s v k
does s v h l k W.ShmSel = quiet (selected s s.hot.page s.hot.ackpage s.hot.queue v) true
does s v h l k W.MsiAddressLow = quiet (staged s (with_address_low s.stage v)) true
does s v h l k W.MsiAddressHigh = quiet (staged s (with_address_high s.stage v)) true
does s v h l k W.MsiData = quiet (staged s (with_data s.stage v)) true
does s v h l k W.MsiCsr = enabling s h k
does s v h l k W.MsiCommand = commanding s h k
does s v h l k (W.Config n) = config_written s n l
does s v h l k W.Unknown = quiet s true
