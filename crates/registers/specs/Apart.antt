-- Where the port's register list and the standard's part. Both lists are read as one kind of answer, so that they can be
-- held side by side at any offset, any length and both directions.
use Rattle.std.specs.Prelude.{Bool, true, false, ◌&&◌, List, [], ◌∷◌, ◌++◌, ℕ, zero, suc, ◌+◌, ◌-◌, eqb, leb}
use Rattle.words.specs.Pick.{pick}
use Rattle.virtq.specs.declared.Field.{Field}
use Rattle.virtq.specs.declared.Field.TheVariants as F
use Rattle.registers.specs.declared.ReadRegister.{ReadRegister}
use Rattle.registers.specs.declared.ReadRegister.TheVariants as Rd
use Rattle.registers.specs.declared.WriteRegister.{WriteRegister}
use Rattle.registers.specs.declared.WriteRegister.TheVariants as Wr
use Rattle.registers.specs.Rows.{Row}
use Rattle.registers.specs.Registers.{read_at, write_at}
use Rattle.registers.specs.Virtio12 as std
use Rattle.registers.specs.Virtio12.{Register, Direction, Entry, table, natural}

-- the vendor's five registers, which the standard doesn't have
pub data Extra : Type 0 where
  MsiCsr MsiCommand MsiAddressLow MsiAddressHigh MsiData : Extra

-- what an access names: a register of the standard, one of the vendor's, the device's own configuration, or nothing
pub data Place : Type 0 where
  Named : Register → Place
  Vendors : Extra → Place
  Own : (offset : ℕ) → Place
  Nowhere : Place

-- ---- the port's places

abbrev pub read_place : ReadRegister → Place
read_place Rd.MagicValue = Named std.MagicValue
read_place Rd.Version = Named std.Version
read_place Rd.DeviceId = Named std.DeviceID
read_place Rd.VendorId = Named std.VendorID
read_place Rd.DeviceFeature = Named std.DeviceFeatures
read_place Rd.QueueNumMax = Named std.QueueNumMax
read_place Rd.QueueReady = Named std.QueueReady
read_place Rd.QueueNotify = Named std.QueueNotify
read_place Rd.InterruptStatus = Named std.InterruptStatus
read_place Rd.Status = Named std.Status
read_place Rd.ShmLenLow = Named std.SHMLenLow
read_place Rd.ShmLenHigh = Named std.SHMLenHigh
read_place Rd.ShmBaseLow = Named std.SHMBaseLow
read_place Rd.ShmBaseHigh = Named std.SHMBaseHigh
read_place Rd.ConfigGeneration = Named std.ConfigGeneration
read_place Rd.MsiCsr = Vendors MsiCsr
read_place (Rd.Config n) = Own n
read_place Rd.Unknown = Nowhere

abbrev pub field_place : Field → Place
field_place F.Size = Named std.QueueNum
field_place F.Ready = Named std.QueueReady
field_place F.DescLow = Named std.QueueDescLow
field_place F.DescHigh = Named std.QueueDescHigh
field_place F.AvailLow = Named std.QueueDriverLow
field_place F.AvailHigh = Named std.QueueDriverHigh
field_place F.UsedLow = Named std.QueueDeviceLow
field_place F.UsedHigh = Named std.QueueDeviceHigh

abbrev pub write_place : WriteRegister → Place
write_place Wr.DeviceFeatureSel = Named std.DeviceFeaturesSel
write_place Wr.DriverFeature = Named std.DriverFeatures
write_place Wr.DriverFeatureSel = Named std.DriverFeaturesSel
write_place Wr.QueueSel = Named std.QueueSel
write_place (Wr.QueueField f) = field_place f
write_place Wr.InterruptAck = Named std.InterruptACK
write_place Wr.Status = Named std.Status
write_place Wr.ShmSel = Named std.SHMSel
write_place Wr.MsiAddressLow = Vendors MsiAddressLow
write_place Wr.MsiAddressHigh = Vendors MsiAddressHigh
write_place Wr.MsiData = Vendors MsiData
write_place Wr.MsiCsr = Vendors MsiCsr
write_place Wr.MsiCommand = Vendors MsiCommand
write_place (Wr.Config n) = Own n
write_place Wr.Unknown = Nowhere

pub data Way : Type 0 where
  Read Write : Way

abbrev pub port_place : Way → (offset length : ℕ) → Place
port_place Read o l = read_place (read_at o l)
port_place Write o l = write_place (write_at o l)

-- ---- the standard's places

abbrev pub goes : Way → Direction → Bool
goes Read std.R = true
goes Read std.W = false
goes Read std.RW = true
goes Write std.R = false
goes Write std.W = true
goes Write std.RW = true

abbrev pub in_table : Way → List (Row Entry) → (offset length : ℕ) → Place
in_table w [] o l = Nowhere
in_table w (e ∷ es) o l =
    pick ((eqb l e.length && eqb o e.offset) && goes w e.register.direction) (Named e.register.register) (in_table w es o l)

abbrev pub standard_place : Way → (offset length : ℕ) → Place
standard_place w o l = pick (leb 0x100 o) (pick (natural o l) (Own (o - 0x100)) Nowhere) (in_table w table o l)

-- ---- all accesses below the configuration at which they part

abbrev pub number_of : Register → ℕ
number_of std.MagicValue = 0
number_of std.Version = 1
number_of std.DeviceID = 2
number_of std.VendorID = 3
number_of std.DeviceFeatures = 4
number_of std.DeviceFeaturesSel = 5
number_of std.DriverFeatures = 6
number_of std.DriverFeaturesSel = 7
number_of std.QueueSel = 8
number_of std.QueueNumMax = 9
number_of std.QueueNum = 10
number_of std.QueueReady = 11
number_of std.QueueNotify = 12
number_of std.InterruptStatus = 13
number_of std.InterruptACK = 14
number_of std.Status = 15
number_of std.QueueDescLow = 16
number_of std.QueueDescHigh = 17
number_of std.QueueDriverLow = 18
number_of std.QueueDriverHigh = 19
number_of std.QueueDeviceLow = 20
number_of std.QueueDeviceHigh = 21
number_of std.SHMSel = 22
number_of std.SHMLenLow = 23
number_of std.SHMLenHigh = 24
number_of std.SHMBaseLow = 25
number_of std.SHMBaseHigh = 26
number_of std.QueueReset = 27
number_of std.ConfigGeneration = 28

-- two places are one: the same register, or the same offset of the configuration. The vendor's are never the standard's.
abbrev pub alike : Place → Place → Bool
alike (Named r) (Named s) = eqb (number_of r) (number_of s)
alike (Named r) (Vendors x) = false
alike (Named r) (Own n) = false
alike (Named r) Nowhere = false
alike (Vendors x) p = false
alike (Own n) (Named r) = false
alike (Own n) (Vendors x) = false
alike (Own n) (Own m) = eqb n m
alike (Own n) Nowhere = false
alike Nowhere (Named r) = false
alike Nowhere (Vendors x) = false
alike Nowhere (Own n) = false
alike Nowhere Nowhere = true

pub record Parting : Type 0 where
  pub way : Way
  pub offset : ℕ
  pub length : ℕ
  pub port : Place
  pub standard : Place

abbrev pub parting : Way → (offset length : ℕ) → (port standard : Place) → Parting
parting w o l p s = record { way = w; offset = o; length = l; port = p; standard = s }

-- the parting at one access, if there is one
abbrev pub parts_at : Way → (offset length : ℕ) → List Parting
parts_at w o l =
    pick (alike (port_place w o l) (standard_place w o l)) [] (parting w o l (port_place w o l) (standard_place w o l) ∷ [])

-- at each length from l on, n of them; and at each offset from o on, n of them
abbrev pub parts_at_lengths : Way → (offset l n : ℕ) → List Parting
parts_at_lengths w o l zero = []
parts_at_lengths w o l (suc n) = parts_at w o l ++ parts_at_lengths w o (l + 1) n

abbrev pub parts_from : Way → (o n : ℕ) → List Parting
parts_from w o zero = []
parts_from w o (suc n) = parts_at_lengths w o 0 10 ++ parts_from w (o + 1) n

-- every offset below 0x100, lengths 0 to 9, both directions
unfoldable pub partings : List Parting
partings = parts_from Read 0 0x100 ++ parts_from Write 0 0x100
