-- What running one record promises: the device after it, its text on a page, or neither where the record may not run or there
-- is no room for the longest text of one.
use Rattle.std.specs.Prelude.{Bool, false, ◌≡◌, ℕ, Option, Some, None}
use Rattle.words.specs.Pick.{pick}
use Rattle.mmio_state.specs.State.{State}
use Rattle.mmio_v2.specs.Fresh.{device}
use Rattle.mmio_v2.specs.Operation.{Operation}
use Rattle.mmio_v2.specs.Step.{operated}
use Rattle.mmio_v2.specs.declared.MmioV2Device.{MmioV2Device}
use Rattle.text.specs.Room.{room}
use Rattle.text.specs.Page.{Prints, PrintsIf}
use Rattle.text.specs.declared.Page.{Page}
use Rattle.trace.specs.declared.Record.{Record}
use Rattle.play.specs.Log.{may_run}
use Rattle.play.specs.Text.{outcome_text}
use Rattle.play.specs.declared.Show.{Show}

-- the room for any record's text: a line of 64 bytes, and 128 bytes for each of 64 actions and 16 queues
abbrev pub roomy : (len at : ℕ) → Bool
roomy len at = room 10304 len at

abbrev pub runs : Record → (len at : ℕ) → Bool
runs r len at = pick (may_run r) (roomy len at) false

-- the operation is done if `done`, and else there is no device and nothing is printed
pub record Runs (done : Bool) (o : Show) (number : ℕ) (s : State) (op : Operation) (old new : Page) (r : Option MmioV2Device) : Type 0 where
  pub device-is : r ≡ pick done (Some (device (operated s op).state)) None
  pub text : PrintsIf done 10304 old (outcome_text o number (operated s op)) new

-- it is done; no public promise cites this
pub record Ran (o : Show) (number : ℕ) (s : State) (op : Operation) (old new : Page) (d : MmioV2Device) : Type 0 where
  pub device-is : d ≡ device (operated s op).state
  pub text : Prints 10304 old (outcome_text o number (operated s op)) new
