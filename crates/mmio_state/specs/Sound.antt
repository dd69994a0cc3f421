-- Which states are real: what a fresh state has and every operation keeps. A struct can hold values that no run leaves; the
-- promises answer for those too, and this says which they are.
use Rattle.std.specs.Prelude.{false, ◌≡◌, ℕ, ◌-◌, ◌^◌, ◌≤◌, get_or}
use Rattle.virtq.specs.Index.{max_queues}
use Rattle.virtq.specs.Fields.{no_queue}
use Rattle.msi.specs.Stage.{no_message}
use Rattle.tape.specs.Held.{no_held}
use Rattle.mmio_config.specs.Fresh.{max_vectors, max_regions, no_vector}
use Rattle.mmio_state.specs.State.{State}

pub record Sound (s : State) : Type 0 where
  -- refusals 2, 3, 5 and 6 did not hold
  pub based : s.config.base ≤ 2 ^ 64 - 0x2000
  pub some : 1 ≤ s.config.count
  pub few : s.config.count ≤ max_queues
  pub within : s.config.dataqueues ≤ s.config.count
  pub vectored : s.config.vectors ≤ max_vectors
  pub mapped : s.config.regions ≤ max_regions
  -- entries past the counts are blank
  pub sizeless : (q : ℕ) → s.config.count ≤ q → get_or s.config.sizes q 0 ≡ 0
  pub queueless : (q : ℕ) → s.config.count ≤ q → get_or s.queues q no_queue ≡ no_queue
  pub heldless : (q : ℕ) → s.config.count ≤ q → get_or s.held q no_held ≡ no_held
  pub vectorless : (v : ℕ) → s.config.vectors ≤ v → get_or s.vectors v no_vector ≡ no_vector
  -- the stage is zero while MSI is off
  pub quiet : s.hot.msi ≡ false → s.stage ≡ no_message
  -- a full set is registered, and interrupts are enabled, exactly while the device is active
  pub full : s.flags.registered ≡ s.flags.active
  pub live : s.flags.enabled ≡ s.flags.active
