-- The selected queue, feature words and regions, and the question (01, Registers; "Queue fields, counting writes and wipes";
-- refusal 13).
use Rattle.std.specs.Prelude.{Option, Result, true, [], ◌∷◌, ℕ, eqb, ltb}
use Rattle.words.specs.Pick.{pick}
use Rattle.words.specs.declared.Refusal.{Refusal}
use Rattle.virtq.specs.declared.Field.{Field}
use Rattle.virtq.specs.declared.Field.TheVariants as F
use Rattle.tape.specs.Actions.{ack_features}
use Rattle.mmio_tables.specs.Tables.{size_at, field_at, updated_at, found_at, queue_field_at, standing_at, held_reply_of}
use Rattle.mmio_config.specs.declared.Region.{Region}
use Rattle.mmio_tables.specs.declared.Reply.{Reply}
use Rattle.mmio_tables.specs.declared.Standing.{Standing}
use Rattle.mmio_tables.specs.declared.HeldReply.{HeldReply}
use Rattle.mmio_tables.specs.declared.Kind.{Kind}
use Rattle.mmio_state.specs.State.{State, queues_in, with_queues}
use Rattle.mmio_state.specs.Effect.{Effect}

-- "034 maximum size, 044 ready, of the selected queue, 0 if none"
abbrev pub selected_max : State → ℕ
selected_max s = size_at s.config.sizes s.hot.queue (queues_in s)

abbrev pub selected_ready : State → ℕ
selected_ready s = field_at s.queues s.hot.queue (queues_in s) F.Ready

-- a write to a queue-field register that the status lets through: "the selector names a queue, and the value is fit"
abbrev pub field_written : State → Field → (v : ℕ) → State
field_written s f v = with_queues s (updated_at s.queues s.config.sizes s.hot.queue (queues_in s) f v)

-- "010 features of the selected page (..; pages above 1 are 0)", before bit 0 of page 1 is added
abbrev pub offered : State → ℕ
offered s = pick (eqb s.hot.page 0) s.config.page0 (pick (eqb s.hot.page 1) s.config.page1 0)

-- "020 action 11"; the status is tested by the device
abbrev pub acking : State → (v : ℕ) → Effect
acking s v = record { state = s; ok = true; actions = ack_features s.hot.ackpage v ∷ [] }

-- the selected region, if there is one
abbrev pub selected_region : State → Option Region
selected_region s = found_at s.config.table s.hot.region s.config.regions

-- the questions' answers
abbrev pub answer_to : State → (q : ℕ) → Field → Result ℕ Refusal
answer_to s q f = queue_field_at s.queues q (queues_in s) f

abbrev pub held_answer_to : State → (q : ℕ) → Kind → Result Standing Refusal
held_answer_to s q k = standing_at s.held q (queues_in s) s.config.base k

-- the answers as C has them
-- "13: question about a field of a queue that isn't there: 0"
abbrev pub asked : State → (q : ℕ) → Field → Reply
asked s q f = record { refusal = pick (ltb q (queues_in s)) 0 13; value = field_at s.queues q (queues_in s) f }

abbrev pub asked_held : State → (q : ℕ) → Kind → HeldReply
asked_held s q k = held_reply_of (held_answer_to s q k)
