-- What a record prints: its line, its action records if they are asked for, then the fields of each queue likewise. A log
-- prints the text of each of its operations in turn, and a trace the heading, its log's text and its end, or `bad` alone
-- (01, The trace).
use Rattle.std.specs.Prelude.{List, [], ◌∷◌, ◌++◌, ℕ, ◌+◌, eqb, length}
use Rattle.words.specs.Pick.{pick}
use Rattle.virtq.specs.declared.Queue.{Queue}
use Rattle.mmio_state.specs.State.{State, queues_in}
use Rattle.mmio_state.specs.Fresh.{fresh_state}
use Rattle.mmio_v2.specs.Operation.{Operation}
use Rattle.mmio_v2.specs.Step.{Outcome, operated}
use Rattle.runs.specs.Runs.{run_from}
use Rattle.history.specs.Run.{next}
use Rattle.text.specs.Lines.{heading_line, record_line, end_line, bad_line}
use Rattle.listing.specs.Listing.{actions_text, queues_text}
use Rattle.trace.specs.Block.{block_at}
use Rattle.trace.specs.Verdict.{count, verdict_of}
use Rattle.play.specs.Log.{records_of}
use Rattle.play.specs.declared.Show.{Show}

-- of a status, a reply, the number and the lines of the actions, and the first m queues of a table
unfoldable pub told : Show → (number status : ℕ) → (reply : List ℕ) → (n : ℕ) → (actions : List ℕ) → List Queue → (m : ℕ) → List ℕ
told o number status reply n actions qs m =
    (record_line number status reply n ++ pick o.actions actions []) ++ pick o.fields (queues_text qs m) []

-- of what comes of an operation
abbrev pub outcome_text : Show → (number : ℕ) → Outcome → List ℕ
outcome_text o number r =
    told o number r.state.hot.status r.reply (length r.actions) (actions_text r.actions) r.state.queues
    (queues_in r.state)

-- of a log that begins at a state, after n records
unfoldable pub log_text : Show → State → (n : ℕ) → List Operation → List ℕ
log_text o s n [] = []
log_text o s n (op ∷ log) = log_text o s n log ++ outcome_text o (n + length log + 1) (operated (run_from next s log) op)

-- of a trace
unfoldable pub replay_text : Show → List ℕ → List ℕ
replay_text o s =
    pick (eqb (verdict_of s) 0)
    ((heading_line ++ log_text o (fresh_state (block_at s)) 0 (records_of s)) ++ end_line (count s))
    (bad_line (verdict_of s))
