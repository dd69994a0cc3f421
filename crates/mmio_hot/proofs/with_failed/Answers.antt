use Rattle.words.proofs.Bits.{set-bit}
use Rattle.mmio_hot.proofs.with_failed.Goals as goal

pub returns : goal.returns
returns c = set-bit 7 c.args.status
