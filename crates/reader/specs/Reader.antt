-- What a reader keeps, and what it finds (01, Forms to follow in each place): "Struct with the trace slice and a position,
-- thin over a proved cursor function that yields the next record."
use Rattle.std.specs.Prelude.{◌≡◌, List, ℕ, Option, Result}
use Rattle.std.specs.Borrow.{Bor}
use Rattle.trace.specs.Verdict.{next_at}
use Rattle.trace.specs.declared.Record.{Record}
use Rattle.reader.specs.declared.TraceReader.{TraceReader}

-- this very slice, and this place
abbrev pub Keeps : Bor (List ℕ) → (place : ℕ) → TraceReader → Type 0
Keeps s n r = (r.trace ≡ s) × (r.place ≡ n)

-- the cursor's answer for the slice's bytes
abbrev pub found_by : TraceReader → Result (Option Record) ℕ
found_by r = next_at r.trace.now r.place
