-- What is told of an operation beside the device: its refusal, how many reply bytes, how many records (01, "What the
-- gateway hands over").
use Rattle.std.specs.Prelude.{ℕ, length}
use Rattle.mmio_v2.specs.Fresh.{device}
use Rattle.mmio_v2.specs.Step.{Outcome}
use Rattle.mmio_fast.specs.declared.Told.{Told}
use Rattle.mmio_fast.specs.declared.Wrote.{Wrote}

abbrev pub tell : (refusal reply count : ℕ) → Told
tell r n c = record { refusal = r; reply = n; count = c }

abbrev pub told_of : Outcome → Told
told_of o = tell o.refusal (length o.reply) (length o.actions)

abbrev pub wrote_of : Outcome → Wrote
wrote_of o = record { told = told_of o; device = device o.state }
