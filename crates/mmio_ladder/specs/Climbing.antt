-- A write to the status register, on the state: what its move asks, and the status after it (01, The ladder of status).
use Rattle.std.specs.Prelude.{true, false, ℕ}
use Rattle.mmio_hot.specs.Polled.{with_status}
use Rattle.mmio_state.specs.State.{State, with_hot}
use Rattle.mmio_state.specs.Effect.{Effect, quiet}
use Rattle.mmio_state.specs.Activation.{activating, resetting}
use Rattle.mmio_state.specs.declared.Done.{Done}
use Rattle.mmio_ladder.specs.Ladder.{move_of, status_after}
use Rattle.mmio_ladder.specs.declared.Move.{Move}
use Rattle.mmio_ladder.specs.declared.Move.TheVariants.{Take, Start, Reset, Stay, Fail}

abbrev pub status_set : State → (v : ℕ) → State
status_set s v = with_hot s (with_status s.hot v)

-- what a move asks, before the status is set: an activation, a reset, or nothing
abbrev pub moved : State → (k : ℕ) → Move → Effect
moved s k (Take v) = quiet s true
moved s k Start = activating s k
moved s k Reset = resetting s k
moved s k Stay = quiet s true
moved s k Fail = quiet s false

-- an effect with this status at its end
abbrev pub marking : Effect → (status : ℕ) → Effect
marking e v = record e { state = status_set e.state v }

abbrev pub laddered : State → (k : ℕ) → Move → Effect
laddered s k m = marking (moved s k m) (status_after m s.hot.status (moved s k m).ok)

-- the write of v
abbrev pub climbing : State → (v k : ℕ) → Effect
climbing s v k = laddered s k (move_of v s.hot.status s.flags.active)

-- the code's answer with another status
abbrev pub marked : Done → (status : ℕ) → Done
marked d v = record d { state = status_set d.state v }
