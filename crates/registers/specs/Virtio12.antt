-- OASIS virtio 1.2 as far as this port meets it, from its facts as we know them: status bits (2.1), split rings (2.7), the
-- registers over MMIO (4.2.2) with what a read gives and what a write does. Nothing here speaks of the port.
use Rattle.std.specs.Prelude.{Bool, true, false, List, [], ◌∷◌, ℕ, ◌+◌, ◌-◌, ◌*◌, ◌/◌, ◌%◌, ◌^◌, eqb}
use Rattle.std.specs.Int.Bits.{bit_and, bit_or}
use Rattle.words.specs.Pick.{pick}
use Rattle.registers.specs.Rows.{Row, row}

-- ---- 2.1, the device status field

abbrev pub ACKNOWLEDGE : ℕ
ACKNOWLEDGE = 1

abbrev pub DRIVER : ℕ
DRIVER = 2

abbrev pub DRIVER-OK : ℕ
DRIVER-OK = 4

abbrev pub FEATURES-OK : ℕ
FEATURES-OK = 8

abbrev pub DEVICE-NEEDS-RESET : ℕ
DEVICE-NEEDS-RESET = 64

abbrev pub FAILED : ℕ
FAILED = 128

-- ---- 2.7, split virtqueues: bytes and alignment of the three areas of a queue of size n

abbrev pub largest_ring : ℕ
largest_ring = 32768

abbrev pub descriptor_bytes : ℕ → ℕ
descriptor_bytes n = 16 * n

abbrev pub available_bytes : ℕ → ℕ
available_bytes n = 6 + 2 * n

abbrev pub used_bytes : ℕ → ℕ
used_bytes n = 6 + 8 * n

abbrev pub descriptor_align : ℕ
descriptor_align = 16

abbrev pub available_align : ℕ
available_align = 2

abbrev pub used_align : ℕ
used_align = 4

abbrev pub aligned : (align address : ℕ) → Bool
aligned a n = eqb (n % a) 0

-- ---- 4.2.2, the registers

pub data Register : Type 0 where
  MagicValue Version DeviceID VendorID DeviceFeatures DeviceFeaturesSel DriverFeatures DriverFeaturesSel : Register
  QueueSel QueueNumMax QueueNum QueueReady QueueNotify InterruptStatus InterruptACK Status : Register
  QueueDescLow QueueDescHigh QueueDriverLow QueueDriverHigh QueueDeviceLow QueueDeviceHigh : Register
  SHMSel SHMLenLow SHMLenHigh SHMBaseLow SHMBaseHigh QueueReset ConfigGeneration : Register

-- "R", "W" and "RW" of the standard's table
pub data Direction : Type 0 where
  R W RW : Direction

pub record Entry : Type 0 where
  pub register : Register
  pub direction : Direction

abbrev pub entry : (offset : ℕ) → Direction → Register → Row Entry
entry o d r = row o 4 (record { register = r; direction = d })

-- each register is 32 bits wide
abbrev pub table : List (Row Entry)
table =
    entry 0x000 R MagicValue
    ∷ entry 0x004 R Version
    ∷ entry 0x008 R DeviceID
    ∷ entry 0x00c R VendorID
    ∷ entry 0x010 R DeviceFeatures
    ∷ entry 0x014 W DeviceFeaturesSel
    ∷ entry 0x020 W DriverFeatures
    ∷ entry 0x024 W DriverFeaturesSel
    ∷ entry 0x030 W QueueSel
    ∷ entry 0x034 R QueueNumMax
    ∷ entry 0x038 W QueueNum
    ∷ entry 0x044 RW QueueReady
    ∷ entry 0x050 W QueueNotify
    ∷ entry 0x060 R InterruptStatus
    ∷ entry 0x064 W InterruptACK
    ∷ entry 0x070 RW Status
    ∷ entry 0x080 W QueueDescLow
    ∷ entry 0x084 W QueueDescHigh
    ∷ entry 0x090 W QueueDriverLow
    ∷ entry 0x094 W QueueDriverHigh
    ∷ entry 0x0a0 W QueueDeviceLow
    ∷ entry 0x0a4 W QueueDeviceHigh
    ∷ entry 0x0ac W SHMSel
    ∷ entry 0x0b0 R SHMLenLow
    ∷ entry 0x0b4 R SHMLenHigh
    ∷ entry 0x0b8 R SHMBaseLow
    ∷ entry 0x0bc R SHMBaseHigh
    ∷ entry 0x0c0 RW QueueReset
    ∷ entry 0x0fc R ConfigGeneration
    ∷ []

-- the configuration from 0x100 up is accessed in its fields' natural widths: 1, 2 or 4 bytes, aligned (4.2.2.2)
abbrev pub natural : (offset length : ℕ) → Bool
natural o l = pick (eqb l 1) true (pick (eqb l 2) (aligned 2 o) (pick (eqb l 4) (aligned 4 o) false))

-- ---- 4.2.2, the meanings, over plain values

-- what a guest can learn of one queue, and what it laid out of it
pub record Ring : Type 0 where
  pub available : Bool
  pub maximum : ℕ
  pub size : ℕ
  pub ready : ℕ  -- the value last written to QueueReady
  pub desc : ℕ
  pub driver : ℕ
  pub device : ℕ

pub record Region : Type 0 where
  pub there : Bool
  pub length : ℕ
  pub base : ℕ

-- what a device is, whatever the guest writes
pub record Fixed : Type 0 where
  pub kind : ℕ
  pub vendor : ℕ
  pub offered : ℕ  -- the feature bits, bit 0 the lowest
  pub regions : ℕ → Region
  pub generation : ℕ

pub record Selectors : Type 0 where
  pub device_features : ℕ
  pub driver_features : ℕ
  pub queue : ℕ
  pub region : ℕ

pub record Plain : Type 0 where
  pub fixed : Fixed
  pub selects : Selectors
  pub accepted : ℕ → ℕ  -- the features that the driver accepted, 32 a page
  pub rings : ℕ → Ring
  pub notified : List ℕ  -- the queues notified, the newest first
  pub interrupts : ℕ
  pub status : ℕ

-- 32 feature bits: 32 × sel to 32 × sel + 31
abbrev pub page : (features sel : ℕ) → ℕ
page features sel = features / 2 ^ (32 * sel) % 2 ^ 32

abbrev pub low_half : ℕ → ℕ
low_half v = v % 2 ^ 32

abbrev pub high_half : ℕ → ℕ
high_half v = v / 2 ^ 32

abbrev pub all_ones : ℕ
all_ones = 0xffffffff

abbrev pub of_region : Region → (ℕ → ℕ) → ℕ → ℕ
of_region r half v = pick r.there (half v) all_ones

-- What a read gives; `Nothing` of a register that is not read. QueueReset reads 0 while no reset runs.
pub data Reading : Type 0 where
  Gives : ℕ → Reading
  Nothing : Reading

abbrev pub reads : Plain → Register → Reading
reads p MagicValue = Gives 0x74726976
reads p Version = Gives 2
reads p DeviceID = Gives p.fixed.kind
reads p VendorID = Gives p.fixed.vendor
reads p DeviceFeatures = Gives (page p.fixed.offered p.selects.device_features)
reads p DeviceFeaturesSel = Nothing
reads p DriverFeatures = Nothing
reads p DriverFeaturesSel = Nothing
reads p QueueSel = Nothing
reads p QueueNumMax = Gives (pick (p.rings p.selects.queue).available (p.rings p.selects.queue).maximum 0)
reads p QueueNum = Nothing
reads p QueueReady = Gives (p.rings p.selects.queue).ready
reads p QueueNotify = Nothing
reads p InterruptStatus = Gives p.interrupts
reads p InterruptACK = Nothing
reads p Status = Gives p.status
reads p QueueDescLow = Nothing
reads p QueueDescHigh = Nothing
reads p QueueDriverLow = Nothing
reads p QueueDriverHigh = Nothing
reads p QueueDeviceLow = Nothing
reads p QueueDeviceHigh = Nothing
reads p SHMSel = Nothing
reads p SHMLenLow = Gives (of_region (p.fixed.regions p.selects.region) low_half (p.fixed.regions p.selects.region).length)
reads p SHMLenHigh = Gives (of_region (p.fixed.regions p.selects.region) high_half (p.fixed.regions p.selects.region).length)
reads p SHMBaseLow = Gives (of_region (p.fixed.regions p.selects.region) low_half (p.fixed.regions p.selects.region).base)
reads p SHMBaseHigh = Gives (of_region (p.fixed.regions p.selects.region) high_half (p.fixed.regions p.selects.region).base)
reads p QueueReset = Gives 0
reads p ConfigGeneration = Gives p.fixed.generation

-- a place of a function changed
abbrev pub at : {A : Type 0} → (ℕ → A) → ℕ → A → ℕ → A
at g n x i = pick (eqb i n) x (g i)

-- an address with its low or its high half written
abbrev pub low_written : (a v : ℕ) → ℕ
low_written a v = a / 2 ^ 32 * 2 ^ 32 + v

abbrev pub high_written : (a v : ℕ) → ℕ
high_written a v = v * 2 ^ 32 + a % 2 ^ 32

abbrev pub selecting : Plain → (device driver queue region : ℕ) → Plain
selecting p d a q r =
    record {
      fixed = p.fixed;
      selects = record { device_features = d; driver_features = a; queue = q; region = r };
      accepted = p.accepted;
      rings = p.rings;
      notified = p.notified;
      interrupts = p.interrupts;
      status = p.status;
    }

-- the selected queue with these values
abbrev pub laying : Plain → (size ready desc driver device : ℕ) → Plain
laying p n r d a u =
    let q : Ring = p.rings p.selects.queue in
    record {
      fixed = p.fixed;
      selects = p.selects;
      accepted = p.accepted;
      rings = at p.rings p.selects.queue (record { available = q.available; maximum = q.maximum; size = n; ready = r; desc = d; driver = a; device = u });
      notified = p.notified;
      interrupts = p.interrupts;
      status = p.status;
    }

-- the features accepted, the notices, the interrupt bits, the status, and whether each queue stops
abbrev pub marking : Plain → (ℕ → ℕ) → List ℕ → (interrupts status : ℕ) → (rings : ℕ → Ring) → Plain
marking p f l i s g =
    record { fixed = p.fixed; selects = p.selects; accepted = f; rings = g; notified = l; interrupts = i; status = s }

abbrev pub stopped : Ring → Ring
stopped q =
    record {
      available = q.available;
      maximum = q.maximum;
      size = q.size;
      ready = 0;
      desc = q.desc;
      driver = q.driver;
      device = q.device;
    }

-- a device reset: status 0, InterruptStatus cleared and every QueueReady cleared (4.2.2.1)
abbrev pub reset : Plain → Plain
reset p = marking p p.accepted p.notified 0 0 (λ (q : ℕ). stopped (p.rings q))

-- non-zero sets bits, 0 resets the device
abbrev pub status_written : Plain → ℕ → Plain
status_written p v =
    pick (eqb v 0) (reset p) (marking p p.accepted p.notified p.interrupts (bit_or p.status v) p.rings)

-- What a write of v does; nothing to a register that is not written. QueueReset is only there with feature bit 40
-- negotiated, which this port does not know yet.
abbrev pub writes : Plain → Register → (v : ℕ) → Plain
writes p MagicValue v = p
writes p Version v = p
writes p DeviceID v = p
writes p VendorID v = p
writes p DeviceFeatures v = p
writes p DeviceFeaturesSel v = selecting p v p.selects.driver_features p.selects.queue p.selects.region
writes p DriverFeatures v =
    marking p (at p.accepted p.selects.driver_features v) p.notified p.interrupts p.status p.rings
writes p DriverFeaturesSel v = selecting p p.selects.device_features v p.selects.queue p.selects.region
writes p QueueSel v = selecting p p.selects.device_features p.selects.driver_features v p.selects.region
writes p QueueNumMax v = p
writes p QueueNum v =
    let q : Ring = p.rings p.selects.queue in laying p v q.ready q.desc q.driver q.device
writes p QueueReady v =
    let q : Ring = p.rings p.selects.queue in laying p q.size v q.desc q.driver q.device
writes p QueueNotify v = marking p p.accepted (v ∷ p.notified) p.interrupts p.status p.rings
writes p InterruptStatus v = p
writes p InterruptACK v =
    marking p p.accepted p.notified (p.interrupts - bit_and p.interrupts v) p.status p.rings
writes p Status v = status_written p v
writes p QueueDescLow v =
    let q : Ring = p.rings p.selects.queue in laying p q.size q.ready (low_written q.desc v) q.driver q.device
writes p QueueDescHigh v =
    let q : Ring = p.rings p.selects.queue in laying p q.size q.ready (high_written q.desc v) q.driver q.device
writes p QueueDriverLow v =
    let q : Ring = p.rings p.selects.queue in laying p q.size q.ready q.desc (low_written q.driver v) q.device
writes p QueueDriverHigh v =
    let q : Ring = p.rings p.selects.queue in laying p q.size q.ready q.desc (high_written q.driver v) q.device
writes p QueueDeviceLow v =
    let q : Ring = p.rings p.selects.queue in laying p q.size q.ready q.desc q.driver (low_written q.device v)
writes p QueueDeviceHigh v =
    let q : Ring = p.rings p.selects.queue in laying p q.size q.ready q.desc q.driver (high_written q.device v)
writes p SHMSel v = selecting p p.selects.device_features p.selects.driver_features p.selects.queue v
writes p SHMLenLow v = p
writes p SHMLenHigh v = p
writes p SHMBaseLow v = p
writes p SHMBaseHigh v = p
writes p QueueReset v = p
writes p ConfigGeneration v = p
