-- The device as one function of its state and an operation (01, "What the gateway hands over", Registers, Actions). Its
-- tests stand in this order: room for the actions, then the access's length and offset, then the register's own.
use Rattle.std.specs.Prelude.{Result, Ok, Err, List, [], ℕ, ltb, length}
use Rattle.std.proofs.lemmas.List.Edits.{sets}
use Rattle.words.specs.Pick.{pick}
use Rattle.words.specs.Bytes.{read_le}
use Rattle.words.specs.declared.Action.{Action}
use Rattle.words.specs.Refusals.{refusal_number}
use Rattle.words.specs.declared.Refusal.{Refusal}
use Rattle.registers.specs.Registers.{read_at, write_at}
use Rattle.registers.specs.declared.ReadRegister.{ReadRegister}
use Rattle.mmio_state.specs.State.{State}
use Rattle.mmio_state.specs.Effect.{Effect, room_words}
use Rattle.mmio_state.specs.declared.Done.{Done}
use Rattle.mmio_access.specs.Changes.{raised}
use Rattle.mmio_v2.specs.Operation.{Operation, Read, Write, Raise}
use Rattle.mmio_v2.specs.Fresh.{device}
use Rattle.mmio_v2.specs.Registers.{shows, bytes_shown, read_asks, does}
use Rattle.mmio_v2.specs.declared.Answer.{Answer}
use Rattle.mmio_v2.specs.declared.MmioV2Device.{MmioV2Device}

-- what comes back: the refusal's number or 0, the state, the reply's bytes (none: no reply), the actions asked
pub record Outcome : Type 0 where
  pub refusal : ℕ
  pub state : State
  pub reply : List ℕ
  pub actions : List Action

-- "7 action space below 320 words: same device"
abbrev pub refusing : State → Outcome
refusing s = record { refusal = 7; state = s; reply = []; actions = [] }

-- a read changes no state; of the configuration "the host fills the reply, so .. no reply is reported"
abbrev pub reading : State → ReadRegister → (length : ℕ) → Outcome
reading s r l = record { refusal = 0; state = s; reply = bytes_shown (shows s r); actions = read_asks s r l }

-- a write, and a raise, have no reply
abbrev pub acting : Effect → Outcome
acting e = record { refusal = 0; state = e.state; reply = []; actions = e.actions }

abbrev pub raising : State → (bits : ℕ) → Outcome
raising s b = record { refusal = 0; state = raised s b; reply = []; actions = [] }

-- an operation that is not refused
abbrev pub operated : State → Operation → Outcome
operated s (Read k o l) = reading s (read_at o l) l
operated s (Write k o bs) = acting (does s (read_le 4 bs) (read_le 2 bs) (length bs) k (write_at o (length bs)))
operated s (Raise b) = raising s b

-- the step, where so many words are lent for the actions
abbrev pub step : (words : ℕ) → State → Operation → Outcome
step w s op = pick (ltb w room_words) (refusing s) (operated s op)

-- the code's answer: how many reply bytes were written, 0 for none; how many action records
abbrev pub answer_of : Outcome → Answer
answer_of o = record { device = device o.state; refusal = o.refusal; reply = length o.reply; count = length o.actions }

-- the lent reply bytes after it: those past the reply stay, and all of them where there is none
abbrev pub replied : List ℕ → Outcome → List ℕ
replied l o = sets l 0 o.reply

-- the answer to a refusal, and a write's, of what its function gives
abbrev pub refused_as : MmioV2Device → Refusal → Answer
refused_as d e = record { device = d; refusal = refusal_number e; reply = 0; count = 0 }

abbrev pub of_done : Done → Answer
of_done d = record { device = device d.state; refusal = 0; reply = 0; count = d.count }

-- how many records
abbrev pub counted_of : Result Done Refusal → Result ℕ Refusal
counted_of (Ok x) = Ok x.count
counted_of (Err e) = Err e
