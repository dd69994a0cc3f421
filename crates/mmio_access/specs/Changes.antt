-- What registers do (01, Registers, Write; Queue fields).
use Rattle.std.specs.Prelude.{true, List, [], ◌∷◌, ℕ, ◌-◌}
use Rattle.std.specs.Int.Bits.{bit_and, bit_or}
use Rattle.words.specs.Pick.{pick}
use Rattle.words.specs.declared.Action.{Action}
use Rattle.virtq.specs.declared.Field.{Field}
use Rattle.tape.specs.Actions.{ack_features, read_config, write_config}
use Rattle.mmio_hot.specs.Polled.{selecting}
use Rattle.mmio_tables.specs.Tables.{updated_at}
use Rattle.mmio_hot.specs.declared.Hot.{Hot}
use Rattle.mmio_state.specs.State.{State, queues_in, with_hot, with_queues}
use Rattle.mmio_state.specs.Effect.{Effect}
use Rattle.mmio_access.specs.Gates.{fields_open, acks_open, config_open}

-- "014, 024, 030, 0ac selectors at any status"
abbrev pub selected : State → (page ackpage queue region : ℕ) → State
selected s p a q r = with_hot s (selecting s.hot p a q r)

-- other interrupt bits
abbrev pub with_interrupts : Hot → (bits : ℕ) → Hot
with_interrupts h v = record h { interrupts = v }

-- "064 clears the given interrupt bits"
abbrev pub cleared : (bits v : ℕ) → ℕ
cleared b v = b - bit_and b v

abbrev pub acknowledged : State → (v : ℕ) → State
acknowledged s v = with_hot s (with_interrupts s.hot (cleared s.hot.interrupts v))

-- "A raise sets the given interrupt bits at any status"
abbrev pub raised : State → (v : ℕ) → State
raised s v = with_hot s (with_interrupts s.hot (bit_or s.hot.interrupts v))

-- "A queue write (length 4) counts exactly when FEATURES_OK is set, DRIVER_OK and FAILED clear, the selector names a queue,
-- and the value is fit"
abbrev pub field_updated : State → Field → (v : ℕ) → State
field_updated s f v =
    with_queues s
    (pick (fields_open s.hot.status) (updated_at s.queues s.config.sizes s.hot.queue (queues_in s) f v) s.queues)

-- these actions asked, and nothing else
abbrev pub asking : State → List Action → Effect
asking s xs = record { state = s; ok = true; actions = xs }

-- "020 action 11 if DRIVER set, FEATURES_OK and FAILED clear"
abbrev pub acked : State → (v : ℕ) → Effect
acked s v = asking s (pick (acks_open s.hot.status) (ack_features s.hot.ackpage v ∷ []) [])

-- "action 12 if DRIVER is set and FAILED clear"; "action 13, same test"
abbrev pub config_asked : State → Action → Effect
config_asked s x = asking s (pick (config_open s.hot.status) (x ∷ []) [])

abbrev pub config_read : State → (offset len : ℕ) → Effect
config_read s o l = config_asked s (read_config o l)

abbrev pub config_written : State → (offset len : ℕ) → Effect
config_written s o l = config_asked s (write_config o l)
