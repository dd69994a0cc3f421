use Rattle.dragonball.proofs.Masks.{given-bit}
use Rattle.dragonball.proofs.doorbell_enabled.Goals as goal

pub returns-then-wildcard : goal.returns-then-wildcard
returns-then-wildcard c = rw (c.if-wildcard.true, c.unwrap_or-word.ensures) (given-bit c.args.features)
