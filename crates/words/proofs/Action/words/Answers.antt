use mathlib.Core.Path.{refl}
use Rattle.words.specs.Actions.{words_of}
use Rattle.words.proofs.Action.words.Goals as goal

pub returns : goal.returns
unfolding words_of
returns c = refl
