-- What is read afresh from a log, by document 01 alone (The ladder of status; Queue fields, counting writes and wipes;
-- Messages). Nothing of the device's state or step is used here: the rules below are those on plain numbers. The log holds
-- each operation that was not refused, with its k, the newest first.
use Rattle.std.specs.Prelude.{Bool, true, false, not, ◌&&◌, List, [], ◌∷◌, ℕ, eqb, ltb, get_or, length}
use Rattle.words.specs.Pick.{pick}
use Rattle.words.specs.Bytes.{read_le}
use Rattle.virtq.specs.Fields.{fit}
use Rattle.virtq.specs.Valid.{scanned}
use Rattle.virtq.specs.Events.{Holds, Event, Set, Wipe}
use Rattle.virtq.specs.declared.Field.{Field}
use Rattle.virtq.specs.declared.Field.TheVariants as F
use Rattle.dragonball.specs.Vendor.{fresh_doorbell}
use Rattle.registers.specs.Registers.{write_at}
use Rattle.registers.specs.declared.WriteRegister.{WriteRegister}
use Rattle.registers.specs.declared.WriteRegister.TheVariants as W
use Rattle.activation.specs.Requests.{begins, stops}
use Rattle.mmio_hot.specs.Polled.{failed}
use Rattle.mmio_hot.specs.Commands.{csr_of, command_at}
use Rattle.mmio_hot.specs.declared.Csr.{Csr}
use Rattle.mmio_hot.specs.declared.Csr.TheVariants.{Locked, Turn}
use Rattle.mmio_hot.specs.declared.Command.{Command}
use Rattle.mmio_hot.specs.declared.Command.TheVariants.{Update, Mask, Unmask, Other}
use Rattle.mmio_config.specs.Fresh.{queue_count, maxima}
use Rattle.mmio_config.specs.declared.Configuration.{Configuration}
use Rattle.mmio_tables.specs.Tables.{none_found}
use Rattle.mmio_ladder.specs.Ladder.{move_of, status_after}
use Rattle.mmio_ladder.specs.declared.Move.{Move}
use Rattle.mmio_ladder.specs.declared.Move.TheVariants.{Take, Start, Reset, Stay, Fail}
use Rattle.mmio_access.specs.Gates.{fields_open}
use Rattle.mmio_v2.specs.Operation.{Operation, Read, Write, Raise}
use Rattle.runs.specs.Reading as log

-- what is worked out from the log beside the fields
pub record Known : Type 0 where
  pub status : ℕ
  pub active : Bool
  pub selector : ℕ
  pub doorbell : Bool
  pub msi : Bool

abbrev pub know : (status : ℕ) (active : Bool) (selector : ℕ) (doorbell msi : Bool) → Known
know s a q d m = record { status = s; active = a; selector = q; doorbell = d; msi = m }

-- ---- a move of the status

-- "0xf taken: the device is activated. If that fails, state reset"; "Accepted: inactive, state reset"
abbrev pub active_after : Move → (ok active : Bool) → Bool
active_after (Take v) ok a = a
active_after Start ok a = ok
active_after Reset ok a = pick ok false a
active_after Stay ok a = a
active_after Fail ok a = a

-- "A wipe is a state reset"
abbrev pub wipes_at : Move → (ok : Bool) → Bool
wipes_at (Take v) ok = false
wipes_at Start ok = not ok
wipes_at Reset ok = ok
wipes_at Stay ok = false
wipes_at Fail ok = false

-- "The selector is the last 030 write since the wipe, else 0"; "MSI off; doorbell gone"
abbrev pub moved_on : Known → Move → (ok : Bool) → Known
moved_on h m ok =
    know (status_after m h.status ok) (active_after m ok h.active) (pick (wipes_at m ok) 0 h.selector)
    (pick (wipes_at m ok) false h.doorbell) (pick (wipes_at m ok) false h.msi)

abbrev pub move : Known → (v : ℕ) → Move
move h v = move_of v h.status h.active

-- ---- the message registers set FAILED, and the mode

abbrev pub mode_set : Known → (k : ℕ) → Csr → Known
mode_set h k Locked = know (failed h.status) h.active h.selector h.doorbell h.msi
mode_set h k Csr.Stay = h
mode_set h k (Turn m) =
    know (pick (eqb k 0) (failed h.status) h.status) h.active h.selector h.doorbell (pick (eqb k 0) h.msi m)

abbrev pub commanded : Known → Command → Known
commanded h (Update v) = h
commanded h (Mask v) = h
commanded h (Unmask v) = h
commanded h Other = know (failed h.status) h.active h.selector h.doorbell h.msi

-- ---- what depends on the configuration

module _ (c : Configuration) where
  -- the maximum size of a queue
  abbrev pub maximum : (q : ℕ) → ℕ
  maximum q = get_or (maxima c) q 0

  -- "Fresh: size is the maximum, not ready, addresses 0"
  abbrev pub fresh_field : Holds
  fresh_field q F.Size = maximum q
  fresh_field q F.Ready = 0
  fresh_field q F.DescLow = 0
  fresh_field q F.DescHigh = 0
  fresh_field q F.AvailLow = 0
  fresh_field q F.AvailHigh = 0
  fresh_field q F.UsedLow = 0
  fresh_field q F.UsedHigh = 0

  -- "A queue write (length 4) counts exactly when FEATURES_OK is set, DRIVER_OK and FAILED clear, the selector names a
  -- queue, and the value is fit"
  abbrev pub counts : Known → Field → (v : ℕ) → Bool
  counts h f v = fields_open h.status && (ltb h.selector (queue_count c) && fit (maximum h.selector) f v)

  -- ---- a write to the status register

  -- whether an activation is accepted whole: "validity, then for each queue .. Then 3, then 4"
  abbrev pub activates : Known → Holds → (k : ℕ) → Bool
  activates h g k =
      begins h.doorbell (queue_count c) (none_found (scanned (record { length = c.memory }) g 0 (queue_count c))) k

  -- whether what a move asks is accepted; one that asks nothing is
  abbrev pub accepts : Known → Holds → (k : ℕ) → Move → Bool
  accepts h g k (Take v) = true
  accepts h g k Start = activates h g k
  accepts h g k Reset = stops h.active k
  accepts h g k Stay = true
  accepts h g k Fail = true

  -- ---- each register: v is the word of four bytes, w that of two

  abbrev pub known_after : Known → Holds → (v w k : ℕ) → WriteRegister → Known
  known_after h g v w k W.DeviceFeatureSel = h
  known_after h g v w k W.DriverFeature = h
  known_after h g v w k W.DriverFeatureSel = h
  known_after h g v w k W.QueueSel = know h.status h.active v h.doorbell h.msi
  known_after h g v w k (W.QueueField f) = h
  known_after h g v w k W.InterruptAck = h
  known_after h g v w k W.Status = moved_on h (move h v) (accepts h g k (move h v))
  known_after h g v w k W.ShmSel = h
  known_after h g v w k W.MsiAddressLow = h
  known_after h g v w k W.MsiAddressHigh = h
  known_after h g v w k W.MsiData = h
  known_after h g v w k W.MsiCsr = mode_set h k (csr_of h.status w h.msi)
  known_after h g v w k W.MsiCommand = commanded h (command_at w)
  known_after h g v w k (W.Config n) = h
  known_after h g v w k W.Unknown = h

  -- "A counting write sets that one field. A wipe is a state reset."
  abbrev pub events_of : Known → Holds → (v k : ℕ) → WriteRegister → List Event
  events_of h g v k W.DeviceFeatureSel = []
  events_of h g v k W.DriverFeature = []
  events_of h g v k W.DriverFeatureSel = []
  events_of h g v k W.QueueSel = []
  events_of h g v k (W.QueueField f) = pick (counts h f v) (Set h.selector f v ∷ []) []
  events_of h g v k W.InterruptAck = []
  events_of h g v k W.Status = pick (wipes_at (move h v) (accepts h g k (move h v))) (Wipe ∷ []) []
  events_of h g v k W.ShmSel = []
  events_of h g v k W.MsiAddressLow = []
  events_of h g v k W.MsiAddressHigh = []
  events_of h g v k W.MsiData = []
  events_of h g v k W.MsiCsr = []
  events_of h g v k W.MsiCommand = []
  events_of h g v k (W.Config n) = []
  events_of h g v k W.Unknown = []

  -- ---- each operation

  abbrev pub known : Known → Holds → Operation → Known
  known h g (Read k o l) = h
  known h g (Write k o bs) = known_after h g (read_le 4 bs) (read_le 2 bs) k (write_at o (length bs))
  known h g (Raise b) = h

  abbrev pub events : Known → Holds → Operation → List Event
  events h g (Read k o l) = []
  events h g (Write k o bs) = events_of h g (read_le 4 bs) k (write_at o (length bs))
  events h g (Raise b) = []

  abbrev pub rules : log.Rules Operation Known
  rules = record { count = queue_count c; fresh = fresh_field; events = events; known = known }

  -- "Fresh status is 0"; not active, selector 0, MSI off; a doorbell if one was given and the host can serve it
  abbrev pub fresh : log.Start Known
  fresh = record { knows = know 0 false 0 (fresh_doorbell c.given c.features c.wildcard) false; holds = fresh_field }

  -- what the log says
  abbrev pub known_from : List Operation → Known
  known_from ops = (log.reading rules fresh ops).now

  abbrev pub field_from : List Operation → Holds
  field_from ops = log.field_from_log rules fresh ops
