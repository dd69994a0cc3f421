-- Activation and state reset as functions of the state (01, The ladder of status; State reset; Actions).
use Rattle.std.specs.Prelude.{Bool, true, List, ℕ}
use Rattle.words.specs.Pick.{pick}
use Rattle.words.specs.declared.Action.{Action}
use Rattle.msi.specs.Stage.{no_message}
use Rattle.tape.specs.Held.{held_after}
use Rattle.tape.specs.declared.Held.{Held}
use Rattle.activation.specs.Requests.{start_records, begins, stop_records, stops}
use Rattle.mmio_hot.specs.Polled.{wiped_hot}
use Rattle.mmio_config.specs.Fresh.{fresh_queues, no_flags, no_vectors}
use Rattle.mmio_tables.specs.Tables.{valid_all}
use Rattle.mmio_config.specs.declared.Flags.{Flags}
use Rattle.mmio_state.specs.State.{State, queues_in}
use Rattle.mmio_state.specs.Effect.{Effect, quiet}

-- "validity"
abbrev pub queues_valid : State → Bool
queues_valid s = valid_all s.queues (queues_in s) s.config.memory

-- "queues fresh; .. vectors zero, unmasked, disabled"; the held table is what the records leave
abbrev pub wiped : State → List Held → State
wiped s hs =
    record {
      hot = wiped_hot s.hot;
      config = s.config;
      flags = no_flags;
      stage = no_message;
      queues = fresh_queues s.config.sizes;
      held = hs;
      vectors = no_vectors;
    }

abbrev pub all_flags : Flags
all_flags = record { active = true; registered = true; enabled = true }

-- started: active, the full set registered, interrupts enabled
abbrev pub started : State → List Held → State
started s hs = record s { flags = all_flags; held = hs }

abbrev pub settled : State → (ok : Bool) → List Held → State
settled s ok hs = pick ok (started s hs) (wiped s hs)

-- the records of a start, and whether it starts
unfoldable pub starting : State → (k : ℕ) → List Action
starting s k = start_records s.config.base s.hot.doorbell (queues_in s) (queues_valid s) k

unfoldable pub starts_at : State → (k : ℕ) → Bool
starts_at s k = begins s.hot.doorbell (queues_in s) (queues_valid s) k

-- "0xf taken: the device is activated. If that fails, state reset". (A device that is active stays so, as in the Rust; none
-- is when 0xf is taken.)
abbrev pub activating : State → (k : ℕ) → Effect
activating s k =
    pick s.flags.active (quiet s true)
    (record {
      state = settled s (starts_at s k) (held_after s.config.base s.held k (starting s k));
      ok = starts_at s k;
      actions = starting s k;
    })

-- the records of a reset
unfoldable pub stopping : State → (k : ℕ) → List Action
stopping s k = stop_records s.config.base (queues_in s) s.flags.registered s.flags.active k

-- "If active: ask device reset; refused: .. still active. Accepted: inactive, state reset"
abbrev pub resetting : State → (k : ℕ) → Effect
resetting s k =
    record {
      state = pick (stops s.flags.active k) (wiped s (held_after s.config.base s.held k (stopping s k))) s;
      ok = stops s.flags.active k;
      actions = stopping s k;
    }
