-- A trace's records, one after the other (01, The trace): the device after them and their text are those of a run by the very
-- step that the device's own promises cite. As many are run as a lent buffer has room for, or all of them.
use Rattle.std.specs.Prelude.{Bool, true, false, ◌≡◌, List, [], ℕ, ◌+◌, ◌*◌, ◌-◌, ◌≤◌, ◌<◌, eqb, leb, length}
use Rattle.words.specs.Pick.{pick}
use Rattle.words.specs.Actions.{Emitted}
use Rattle.mmio_state.specs.State.{State}
use Rattle.mmio_state.specs.Fresh.{no_state}
use Rattle.mmio_v2.specs.Fresh.{device, made_device}
use Rattle.runs.specs.Runs.{run_from}
use Rattle.history.specs.Run.{next, run}
use Rattle.trace.specs.Block.{block_at}
use Rattle.trace.specs.Verdict.{count, verdict_of}
use Rattle.text.specs.Lines.{heading_line}
use Rattle.text.specs.Page.{Prints, PrintsLine}
use Rattle.text.specs.declared.Page.{Page}
use Rattle.play.specs.Log.{log_from, records_of}
use Rattle.play.specs.Text.{log_text, replay_text}
use Rattle.play.specs.Play.{roomy}
use Rattle.play.specs.declared.Show.{Show}
use Rattle.desk.specs.declared.Part.{Part}
use Rattle.desk.specs.declared.Played.{Played}

-- ---- some records

-- there is room for one more, once those from record i on and before j are told
abbrev pub room_before : Show → List ℕ → State → (i len at j : ℕ) → Bool
room_before o s d i len at j = roomy len (at + length (log_text o d i (log_from s i (j - i))))

-- records from record i on were run, from state d: to the last, or until there was no room
pub record Parted (o : Show) (s : List ℕ) (d : State) (i : ℕ) (old new : Page) (r : Part) : Type 0 where
  pub from : i ≤ r.next
  pub upto : r.next ≤ count s
  pub state : r.device ≡ device (run_from next d (log_from s i (r.next - i)))
  pub text : Prints (10304 * (r.next - i)) old (log_text o d i (log_from s i (r.next - i))) new
  pub had-room : (j : ℕ) → i ≤ j → j < r.next → room_before o s d i (length old.out.now) old.at j ≡ true
  pub full : (r.next ≡ count s → ⊥) → room_before o s d i (length old.out.now) old.at r.next ≡ false

-- they may run: the trace is good, and it has a record i or ends there
abbrev pub may_play : List ℕ → (i : ℕ) → Bool
may_play s i = pick (eqb (verdict_of s) 0) (leb i (count s)) false

-- where they may not, nothing is done
pub record Pieced (o : Show) (s : List ℕ) (t : Part) (old new : Page) (r : Part) : Type 0 where
  pub ran : may_play s t.next ≡ true → Parted o s t.device.state t.next old new r
  pub kept : may_play s t.next ≡ false → (r ≡ t) × (new ≡ old)

-- ---- the whole

-- the configuration's device, and the heading where there is room for it
pub record Begun (s : List ℕ) (old new : Page) (r : Part) : Type 0 where
  pub fresh : r.device ≡ (made_device (block_at s)).device
  pub first : r.next ≡ 0
  pub text : PrintsLine 64 old heading_line new

-- room for the heading or the one line of a bad trace, and for the end; 10,304 bytes for each record
abbrev pub enough : List ℕ → (len : ℕ) → Bool
enough s len = leb (128 + 10304 * pick (eqb (verdict_of s) 0) (count s) 0) len

-- the device at the end: that of a run over all the records, or none of a trace that may not run
abbrev pub last_of : List ℕ → State
last_of s = pick (eqb (verdict_of s) 0) (run (block_at s) (records_of s)) no_state

pub record Replayed (o : Show) (s : List ℕ) (l l' : List ℕ) (r : Played) : Type 0 where
  pub whole : r.whole ≡ enough s (length l)
  pub state : r.device ≡ device (pick (enough s (length l)) (last_of s) no_state)
  pub text : Emitted l 0 (pick (enough s (length l)) (replay_text o s) []) l' r.len
