use Rattle.dragonball.proofs.Masks.{given-without}
use Rattle.dragonball.proofs.feature_bits.Goals as goal

pub returns : goal.returns
returns c = rw (c.if-wildcard.false, c.unwrap_or-low.ensures) (given-without c.args.features)
