-- The state, and the state with one of its parts changed.
use Rattle.std.specs.Prelude.{List, ℕ}
use Rattle.virtq.specs.declared.Queue.{Queue}
use Rattle.msi.specs.declared.Msi.{Msi}
use Rattle.mmio_hot.specs.Polled.{failed, with_status}
use Rattle.mmio_tables.specs.Tables.{counted}
use Rattle.mmio_hot.specs.declared.Hot.{Hot}
use Rattle.mmio_config.specs.declared.Vector.{Vector}
use Rattle.mmio_state.specs.declared.MmioV2DeviceState.{MmioV2DeviceState}

abbrev pub State : Type 0
State = MmioV2DeviceState

-- the queues that are there
abbrev pub queues_in : State → ℕ
queues_in s = counted s.config.count

abbrev pub with_hot : State → Hot → State
with_hot s h = record s { hot = h }

abbrev pub with_stage : State → Hot → Msi → State
with_stage s h m = record s { hot = h; stage = m }

abbrev pub with_queues : State → List Queue → State
with_queues s qs = record s { queues = qs }

abbrev pub with_vectors : State → Msi → List Vector → State
with_vectors s m vs = record s { stage = m; vectors = vs }

-- FAILED set
abbrev pub failed_state : State → State
failed_state s = with_hot s (with_status s.hot (failed s.hot.status))
