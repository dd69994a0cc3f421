-- The port's state in the standard's terms (registers/specs/Virtio12.antt), what a place of either list reads and does there,
-- and the condition under which the port parts from it, register by register. docs/DIFFERENCES.md has a line for each.
use Rattle.std.specs.Prelude.{Option, Some, None, Bool, true, false, not, ◌&&◌, ◌≡◌, List, [], ◌∷◌, ℕ, ◌+◌, ◌*◌, ◌^◌, ◌<◌, eqb, ltb, get_or, length}
use Rattle.std.specs.Int.Bits.{bit_or}
use Rattle.words.specs.Pick.{pick}
use Rattle.words.specs.Bits.{bit}
use Rattle.words.specs.Bytes.{bytes_of}
use Rattle.words.specs.declared.Action.{Action}
use Rattle.virtq.specs.Fields.{fit, no_queue}
use Rattle.virtq.specs.Index.{max_queues}
use Rattle.virtq.specs.Valid.{address}
use Rattle.virtq.specs.declared.Queue.{Queue}
use Rattle.virtq.specs.declared.Field.{Field}
use Rattle.virtq.specs.declared.Field.TheVariants as F
use Rattle.dragonball.specs.Regions.{region_base}
use Rattle.registers.specs.Virtio12 as std
use Rattle.registers.specs.Virtio12.{Plain, Ring, Reading, Gives, Nothing}
use Rattle.registers.specs.Apart.{Place, Named, Vendors, Own, Nowhere}
use Rattle.registers.specs.declared.ReadRegister.{ReadRegister}
use Rattle.registers.specs.declared.ReadRegister.TheVariants as R
use Rattle.registers.specs.declared.WriteRegister.{WriteRegister}
use Rattle.registers.specs.declared.WriteRegister.TheVariants as W
use Rattle.mmio_hot.specs.Polled.{failed}
use Rattle.mmio_config.specs.declared.Region.{Region}
use Rattle.mmio_tables.specs.Tables.{size_at, found_at}
use Rattle.mmio_state.specs.State.{State, queues_in}
use Rattle.mmio_ladder.specs.Ladder.{move_of}
use Rattle.mmio_ladder.specs.Climbing.{moved}
use Rattle.mmio_ladder.specs.declared.Move.{Move}
use Rattle.mmio_ladder.specs.declared.Move.TheVariants.{Take, Start, Reset, Stay, Fail}
use Rattle.mmio_access.specs.Gates.{acks_open, fields_open}

-- ---- the state in the standard's terms

-- a queue, 0 in each place if it isn't there
abbrev pub ring : (there : Bool) (maximum : ℕ) → Queue → Ring
ring t m q =
    record {
      available = t;
      maximum = m;
      size = pick t q.size 0;
      ready = pick t (pick q.ready 1 0) 0;
      desc = pick t (address q.desclow q.deschigh) 0;
      driver = pick t (address q.availlow q.availhigh) 0;
      device = pick t (address q.usedlow q.usedhigh) 0;
    }

abbrev pub ring_of : State → ℕ → Ring
ring_of s q = ring (ltb q (queues_in s)) (size_at s.config.sizes q (queues_in s)) (get_or s.queues q no_queue)

-- one that isn't there is of zeros
abbrev pub as_region : (list : ℕ) → Option Region → std.Region
as_region l None = record { there = false; length = 0; base = region_base 0 l }
as_region l (Some r) = record { there = true; length = r.length; base = region_base r.offset l }

abbrev pub region_of : State → ℕ → std.Region
region_of s r = as_region s.config.list (found_at s.config.table r s.config.regions)

-- the feature bits: two pages of 32, and bit 32 (VIRTIO_F_VERSION_1) always
abbrev pub features : State → ℕ
features s = bit_or s.config.page1 1 * 2 ^ 32 + s.config.page0

-- What the transport does not keep stands beside the state: the features that were passed on by action 11, and the notices,
-- which the host kernel takes.
abbrev pub plain : State → (accepted : ℕ → ℕ) → (notified : List ℕ) → Plain
plain s f n =
    record {
      fixed = record { kind = s.config.kind; vendor = s.hot.vendor; offered = features s; regions = region_of s; generation = 0 };
      selects = record { device_features = s.hot.page; driver_features = s.hot.ackpage; queue = s.hot.queue; region = s.hot.region };
      accepted = f;
      rings = ring_of s;
      notified = n;
      interrupts = s.hot.interrupts;
      status = s.hot.status;
    }

-- what the types of the state's fields say: 16 queues, words of 32 bits
pub record Typed (s : State) : Type 0 where
  pub sixteen : length s.queues ≡ max_queues
  pub first : s.config.page0 < 2 ^ 32
  pub second : s.config.page1 < 2 ^ 32
  pub desc : (q : ℕ) → (get_or s.queues q no_queue).desclow < 2 ^ 32
  pub driver : (q : ℕ) → (get_or s.queues q no_queue).availlow < 2 ^ 32
  pub device : (q : ℕ) → (get_or s.queues q no_queue).usedlow < 2 ^ 32

-- ---- reads

-- each register of the standard is of 32 bits
abbrev pub reply_of : Reading → List ℕ
reply_of (Gives v) = bytes_of 4 v
reply_of Nothing = []

abbrev pub place_reads : Plain → Place → Reading
place_reads p (Named r) = std.reads p r
place_reads p (Vendors x) = Nothing
place_reads p (Own n) = Nothing
place_reads p Nowhere = Nothing

-- where a read parts from the standard's: the doorbell word, vendor bit 0 in InterruptStatus, the vendor's own register
abbrev pub read_parts : State → ReadRegister → Bool
read_parts s R.MagicValue = false
read_parts s R.Version = false
read_parts s R.DeviceId = false
read_parts s R.VendorId = false
read_parts s R.DeviceFeature = false
read_parts s R.QueueNumMax = false
read_parts s R.QueueReady = false
read_parts s R.QueueNotify = s.hot.doorbell
read_parts s R.InterruptStatus = bit 0 s.hot.vendor
read_parts s R.Status = false
read_parts s R.ShmLenLow = false
read_parts s R.ShmLenHigh = false
read_parts s R.ShmBaseLow = false
read_parts s R.ShmBaseHigh = false
read_parts s R.ConfigGeneration = false
read_parts s R.MsiCsr = true
read_parts s (R.Config n) = false
read_parts s R.Unknown = false

-- ---- writes

abbrev pub place_writes : Plain → Place → (v : ℕ) → Plain
place_writes p (Named r) v = std.writes p r v
place_writes p (Vendors x) v = p
place_writes p (Own n) v = p
place_writes p Nowhere v = p

-- the features accepted after these actions: 11 passes one page on
abbrev pub accepted_after : List Action → (ℕ → ℕ) → (ℕ → ℕ)
accepted_after [] f = f
accepted_after (x ∷ xs) f = accepted_after xs (pick (eqb x.kind 11) (std.at f x.a x.b) f)

-- a value that its field holds whole: a size of 16 bits, ready or not
abbrev pub whole : Field → (v : ℕ) → Bool
whole F.Size v = ltb v 65536
whole F.Ready v = ltb v 2
whole F.DescLow v = true
whole F.DescHigh v = true
whole F.AvailLow v = true
whole F.AvailHigh v = true
whole F.UsedLow v = true
whole F.UsedHigh v = true

-- a write to a queue's register that counts, of such a value
abbrev pub lays : State → Field → (v : ℕ) → Bool
lays s g v =
    fields_open s.hot.status
    && (ltb s.hot.queue (queues_in s) && (fit (get_or s.config.sizes s.hot.queue 0) g v && whole g v))

-- a status that sets the bits written: one rung up, the same again, or FAILED by the driver itself; `ok` says whether what
-- was asked was accepted
abbrev pub bits_set : (v status : ℕ) → Move → (ok : Bool) → Bool
bits_set v status (Take w) ok = true
bits_set v status Start ok = ok
bits_set v status Reset ok = false
bits_set v status Stay ok = not (eqb v 0)
bits_set v status Fail ok = eqb v (failed status)

abbrev pub write_parts : State → (v k : ℕ) → WriteRegister → Bool
write_parts s v k W.DeviceFeatureSel = false
write_parts s v k W.DriverFeature = not (acks_open s.hot.status)
write_parts s v k W.DriverFeatureSel = false
write_parts s v k W.QueueSel = false
write_parts s v k (W.QueueField g) = not (lays s g v)
write_parts s v k W.InterruptAck = false
write_parts s v k W.Status =
    let m : Move = move_of v s.hot.status s.flags.active in not (bits_set v s.hot.status m (moved s k m).ok)
write_parts s v k W.ShmSel = false
write_parts s v k W.MsiAddressLow = false
write_parts s v k W.MsiAddressHigh = false
write_parts s v k W.MsiData = false
write_parts s v k W.MsiCsr = true
write_parts s v k W.MsiCommand = true
write_parts s v k (W.Config n) = false
write_parts s v k W.Unknown = false
