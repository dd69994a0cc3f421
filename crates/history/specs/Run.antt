-- Runs of the device, over the very step that its promises cite; what is seen of a step; calls, some of which are refused.
use Rattle.std.specs.Prelude.{Bool, true, false, ◌≡◌, List, [], ◌∷◌, ℕ, eqb, ltb, length}
use Rattle.words.specs.Pick.{pick}
use Rattle.words.specs.Bits.{bit}
use Rattle.words.specs.Bytes.{read_le}
use Rattle.words.specs.declared.Action.{Action}
use Rattle.virtq.specs.declared.Field.{Field}
use Rattle.registers.specs.Registers.{write_at}
use Rattle.registers.specs.declared.WriteRegister.{WriteRegister}
use Rattle.registers.specs.declared.WriteRegister.TheVariants as W
use Rattle.mmio_config.specs.declared.Configuration.{Configuration}
use Rattle.mmio_tables.specs.declared.Reply.{Reply}
use Rattle.mmio_state.specs.State.{State}
use Rattle.mmio_state.specs.Effect.{room_words}
use Rattle.mmio_state.specs.Fields.{asked}
use Rattle.mmio_state.specs.Fresh.{fresh_state}
use Rattle.mmio_v2.specs.Operation.{Operation}
use Rattle.mmio_v2.specs.Step.{operated, step}
use Rattle.runs.specs.Runs.{run_from, answers_to}
use Rattle.history.specs.Log.{Known, counts}

-- the state after an operation that is not refused
abbrev pub next : State → Operation → State
next s op = (operated s op).state

-- a run from a fresh device, the newest operation first
abbrev pub run : Configuration → List Operation → State
run c log = run_from next (fresh_state c) log

-- what the outside sees of a step: the reply, the actions, and what the question then says of each field
pub record Seen : Type 0 where
  pub reply : List ℕ
  pub actions : List Action
  pub fields : (q : ℕ) → Field → Reply

abbrev pub seen : State → Operation → Seen
seen s op = record { reply = (operated s op).reply; actions = (operated s op).actions; fields = asked (next s op) }

-- what is seen of each operation of `later`, after `earlier`
abbrev pub sees : Configuration → (earlier later : List Operation) → List Seen
sees c earlier later = answers_to next seen (fresh_state c) earlier later

-- ---- calls: an operation with the words that are lent for its actions

pub record Call : Type 0 where
  pub words : ℕ
  pub operation : Operation

abbrev pub called : State → Call → State
called s x = (step x.words s x.operation).state

-- "The log holds each operation that wasn't refused"
abbrev pub logged : List Call → List Operation
logged [] = []
logged (x ∷ xs) = pick (ltb x.words room_words) (logged xs) (x.operation ∷ logged xs)

-- ---- writes that did not count

-- the offset of a queue-field register
abbrev pub field_offset : (offset : ℕ) → Bool
field_offset o =
    pick (eqb o 0x038) true
    (pick (eqb o 0x044) true
    (pick (eqb o 0x080) true
    (pick (eqb o 0x084) true
    (pick (eqb o 0x090) true
    (pick (eqb o 0x094) true
    (pick (eqb o 0x0a0) true
    (eqb o 0x0a4)))))))

-- whether a write to a register counts, by what is known
abbrev pub counts_at : Configuration → Known → (v : ℕ) → WriteRegister → Bool
counts_at c h v W.DeviceFeatureSel = false
counts_at c h v W.DriverFeature = false
counts_at c h v W.DriverFeatureSel = false
counts_at c h v W.QueueSel = false
counts_at c h v (W.QueueField f) = counts c h f v
counts_at c h v W.InterruptAck = false
counts_at c h v W.Status = false
counts_at c h v W.ShmSel = false
counts_at c h v W.MsiAddressLow = false
counts_at c h v W.MsiAddressHigh = false
counts_at c h v W.MsiData = false
counts_at c h v W.MsiCsr = false
counts_at c h v W.MsiCommand = false
counts_at c h v (W.Config n) = false
counts_at c h v W.Unknown = false

-- a write to a queue-field register, of any length, that by what is known did not count
pub record Idle (c : Configuration) (h : Known) (offset : ℕ) (bytes : List ℕ) : Type 0 where
  pub register : field_offset offset ≡ true
  pub idle : counts_at c h (read_le 4 bytes) (write_at offset (length bytes)) ≡ false

-- FAILED is set
abbrev pub Failed : State → Type 0
Failed s = bit 7 s.hot.status ≡ true
