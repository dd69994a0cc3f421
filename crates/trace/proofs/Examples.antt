-- THE CLAIM on the examples: each trace has the verdict that it must have, by computing.
use mathlib.Core.Path.{◌≡◌, refl}
use lib.ListN.{length}
use Rattle.words.specs.Bytes.{read_le}
use Rattle.trace.specs.Block.{sizes_at, regions_at, block_at}
use Rattle.trace.specs.Verdict.{layout_of, judged_from, verdict_of}
use Rattle.trace.specs.Examples.{example, cases, verdicts, expected}

pub example-long : length example ≡ 364
example-long = refl

pub example-verdicts : verdicts cases ≡ expected cases
unfolding cases verdict_of layout_of judged_from block_at sizes_at regions_at read_le
example-verdicts = refl
