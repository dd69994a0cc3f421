-- The port's registers: every offset, length and direction that it answers (01, Registers).
use Rattle.std.specs.Prelude.{List, [], ◌∷◌, ℕ, ◌-◌, leb, ltb}
use Rattle.words.specs.Pick.{pick}
use Rattle.virtq.specs.declared.Field.TheVariants as F
use Rattle.registers.specs.declared.ReadRegister.{ReadRegister}
use Rattle.registers.specs.declared.ReadRegister.TheVariants as R
use Rattle.registers.specs.declared.WriteRegister.{WriteRegister}
use Rattle.registers.specs.declared.WriteRegister.TheVariants as W
use Rattle.registers.specs.Rows.{Row, row, find}

-- "Below: exact offset and length 4, except 0xc0 (read, write) and 0xc2 (write) with length 2; all else is unknown"
abbrev pub read_rows : List (Row ReadRegister)
read_rows =
    row 0x000 4 R.MagicValue
    ∷ row 0x004 4 R.Version
    ∷ row 0x008 4 R.DeviceId
    ∷ row 0x00c 4 R.VendorId
    ∷ row 0x010 4 R.DeviceFeature
    ∷ row 0x034 4 R.QueueNumMax
    ∷ row 0x044 4 R.QueueReady
    ∷ row 0x050 4 R.QueueNotify
    ∷ row 0x060 4 R.InterruptStatus
    ∷ row 0x070 4 R.Status
    ∷ row 0x0b0 4 R.ShmLenLow
    ∷ row 0x0b4 4 R.ShmLenHigh
    ∷ row 0x0b8 4 R.ShmBaseLow
    ∷ row 0x0bc 4 R.ShmBaseHigh
    ∷ row 0x0fc 4 R.ConfigGeneration
    ∷ row 0x0c0 2 R.MsiCsr
    ∷ []

abbrev pub write_rows : List (Row WriteRegister)
write_rows =
    row 0x014 4 W.DeviceFeatureSel
    ∷ row 0x020 4 W.DriverFeature
    ∷ row 0x024 4 W.DriverFeatureSel
    ∷ row 0x030 4 W.QueueSel
    ∷ row 0x038 4 (W.QueueField F.Size)
    ∷ row 0x044 4 (W.QueueField F.Ready)
    ∷ row 0x064 4 W.InterruptAck
    ∷ row 0x070 4 W.Status
    ∷ row 0x080 4 (W.QueueField F.DescLow)
    ∷ row 0x084 4 (W.QueueField F.DescHigh)
    ∷ row 0x090 4 (W.QueueField F.AvailLow)
    ∷ row 0x094 4 (W.QueueField F.AvailHigh)
    ∷ row 0x0a0 4 (W.QueueField F.UsedLow)
    ∷ row 0x0a4 4 (W.QueueField F.UsedHigh)
    ∷ row 0x0ac 4 W.ShmSel
    ∷ row 0x0c4 4 W.MsiAddressLow
    ∷ row 0x0c8 4 W.MsiAddressHigh
    ∷ row 0x0cc 4 W.MsiData
    ∷ row 0x0c0 2 W.MsiCsr
    ∷ row 0x0c2 2 W.MsiCommand
    ∷ []

-- "Read at 0x100 or above, any length": the configuration, from its own offset 0 on
abbrev pub read_at : (offset length : ℕ) → ReadRegister
read_at o l = pick (leb 0x100 o) (R.Config (o - 0x100)) (find R.Unknown read_rows o l)

-- "Write from 0x100 to 0xfff": the configuration; above it nothing
abbrev pub write_at : (offset length : ℕ) → WriteRegister
write_at o l = pick (leb 0x100 o) (pick (ltb o 0x1000) (W.Config (o - 0x100)) W.Unknown) (find W.Unknown write_rows o l)
