-- Refused exactly below 320 words; the count is the number of records; at most 64 of them; reads change no state.
use mathlib.Core.Bool.{Bool, true, false}
use mathlib.Core.Path.{◌≡◌, refl}
use mathlib.Core.List.{[], ◌∷◌}
use Prim.Native.Nat.{ℕ, ◌*◌, ◌<◌, ◌≤◌}
use native.Mathlib.Omega.{arith}
use borrow.Author.Tests.{lt-ltb, le-ltb}
use lib.Dec.{ltb}
use lib.ListN.{length}
use Rattle.words.specs.Pick.{pick}
use Rattle.words.specs.Actions.{words_of_all}
use Rattle.words.specs.declared.Action.{Action}
use Rattle.words.proofs.Actions.{length-all}
use Rattle.registers.specs.Registers.{read_at, write_at}
use Rattle.registers.specs.declared.ReadRegister.{ReadRegister}
use Rattle.registers.specs.declared.ReadRegister.TheVariants as R
use Rattle.registers.specs.declared.WriteRegister.{WriteRegister}
use Rattle.registers.specs.declared.WriteRegister.TheVariants as W
use Rattle.mmio_hot.specs.Commands.{csr_of, command_at}
use Rattle.mmio_hot.specs.declared.Csr.{Csr}
use Rattle.mmio_hot.specs.declared.Csr.TheVariants.{Locked, Stay, Turn}
use Rattle.mmio_hot.specs.declared.Command.{Command}
use Rattle.mmio_hot.specs.declared.Command.TheVariants.{Update, Mask, Unmask, Other}
use Rattle.mmio_state.specs.State.{State}
use Rattle.mmio_state.proofs.Keeping.{activate-most, reset-most}
use Rattle.mmio_msi.specs.Messages.{controlled, asks_update, asks_mask, commanded}
use Rattle.mmio_ladder.specs.Ladder.{move_of}
use Rattle.mmio_ladder.specs.Climbing.{laddered}
use Rattle.mmio_ladder.specs.declared.Move.{Move}
use Rattle.mmio_ladder.specs.declared.Move.TheVariants as M
use Rattle.mmio_access.specs.Gates.{acks_open, config_open}
use Rattle.mmio_v2.specs.Registers.{read_asks, does}
use Rattle.mmio_v2.specs.Operation.{Operation, Read, Write, Raise}
use Rattle.mmio_v2.specs.Step.{Outcome, refusing, operated, step, answer_of}

-- ---- refusal 7

-- "7: action space below 320 words: same device", with no reply and no record
pub refused-below : (w : ℕ) (s : State) (op : Operation) → w < 320 → step w s op ≡ refusing s
refused-below w s op h = rw (lt-ltb w 320 h)

pub done-from : (w : ℕ) (s : State) (op : Operation) → 320 ≤ w → step w s op ≡ operated s op
done-from w s op h = rw (le-ltb w 320 h)

-- and only then: an operation with room is never refused
pub never-else : (s : State) (op : Operation) → (operated s op).refusal ≡ 0
never-else s (Read k o l) = refl
never-else s (Write k o bs) = refl
never-else s (Raise b) = refl

-- ---- the count

pub count-is : (o : Outcome) → (answer_of o).count ≡ length o.actions
count-is o = refl

-- five words for each record
pub words_are : (o : Outcome) → length (words_of_all o.actions) ≡ 5 * (answer_of o).count
words_are o = length-all o.actions

-- ---- at most 64 records

one : (t : Bool) (x : Action) → length (pick t (x ∷ []) []) ≤ 64
one true x = omega arith
one false x = omega arith

climbed : (s : State) (k : ℕ) (m : Move) → length (laddered s k m).actions ≤ 64
climbed s k (M.Take v) = omega arith
climbed s k M.Start = omega (arith, activate-most s k)
climbed s k M.Reset = omega (arith, reset-most s k)
climbed s k M.Stay = omega arith
climbed s k M.Fail = omega arith

moded : (s : State) (k : ℕ) (x : Csr) → length (controlled s k x).actions ≤ 64
moded s k Locked = omega arith
moded s k Stay = omega arith
moded s k (Turn m) = omega arith

told : (s : State) (k : ℕ) (x : Command) → length (commanded s k x).actions ≤ 64
told s k (Update v) = one (asks_update s v.0) _
told s k (Mask v) = one (asks_mask s v.0 true) _
told s k (Unmask v) = one (asks_mask s v.0 false) _
told s k Other = omega arith

does-most : (s : State) (v h l k : ℕ) (r : WriteRegister) → length (does s v h l k r).actions ≤ 64
does-most s v h l k W.DeviceFeatureSel = omega arith
does-most s v h l k W.DriverFeature = one (acks_open s.hot.status) _
does-most s v h l k W.DriverFeatureSel = omega arith
does-most s v h l k W.QueueSel = omega arith
does-most s v h l k (W.QueueField f) = omega arith
does-most s v h l k W.InterruptAck = omega arith
does-most s v h l k W.Status = climbed s k (move_of v s.hot.status s.flags.active)
does-most s v h l k W.ShmSel = omega arith
does-most s v h l k W.MsiAddressLow = omega arith
does-most s v h l k W.MsiAddressHigh = omega arith
does-most s v h l k W.MsiData = omega arith
does-most s v h l k W.MsiCsr = moded s k (csr_of s.hot.status h s.hot.msi)
does-most s v h l k W.MsiCommand = told s k (command_at h)
does-most s v h l k (W.Config n) = one (config_open s.hot.status) _
does-most s v h l k W.Unknown = omega arith

asks-most : (s : State) (r : ReadRegister) (l : ℕ) → length (read_asks s r l) ≤ 64
asks-most s R.MagicValue l = omega arith
asks-most s R.Version l = omega arith
asks-most s R.DeviceId l = omega arith
asks-most s R.VendorId l = omega arith
asks-most s R.DeviceFeature l = omega arith
asks-most s R.QueueNumMax l = omega arith
asks-most s R.QueueReady l = omega arith
asks-most s R.QueueNotify l = omega arith
asks-most s R.InterruptStatus l = omega arith
asks-most s R.Status l = omega arith
asks-most s R.ShmLenLow l = omega arith
asks-most s R.ShmLenHigh l = omega arith
asks-most s R.ShmBaseLow l = omega arith
asks-most s R.ShmBaseHigh l = omega arith
asks-most s R.ConfigGeneration l = omega arith
asks-most s R.MsiCsr l = omega arith
asks-most s (R.Config n) l = one (config_open s.hot.status) _
asks-most s R.Unknown l = omega arith

operated-most : (s : State) (op : Operation) → length (operated s op).actions ≤ 64
operated-most s (Read k o l) = asks-most s (read_at o l) l
operated-most s (Write k o bs) = does-most s _ _ (length bs) k (write_at o (length bs))
operated-most s (Raise b) = omega arith

-- "At most 64 an operation", from whatever state
pub at_most : (w : ℕ) (s : State) (op : Operation) → length (step w s op).actions ≤ 64
at_most w s op = go (ltb w 320) (operated-most s op)
  where
    go : (t : Bool) → length (operated s op).actions ≤ 64 → length (pick t (refusing s) (operated s op)).actions ≤ 64
    go true h = omega arith
    go false h = h

-- ---- reads

pub reads-keep : (w : ℕ) (s : State) (k o l : ℕ) → (step w s (Read k o l)).state ≡ s
reads-keep w s k o l = go (ltb w 320)
  where
    go : (t : Bool) → (pick t (refusing s) (operated s (Read k o l))).state ≡ s
    go true = refl
    go false = refl

-- the outcome number plays no part in a read
pub reads-any-k : (w : ℕ) (s : State) (k j o l : ℕ) → step w s (Read k o l) ≡ step w s (Read j o l)
reads-any-k w s k j o l = refl
