use Rattle.std.proofs.Common.{◌+◌}
use Rattle.words.specs.Pick.{pick}
use Rattle.tape.specs.Held.{entry, unregister}
use Rattle.tape.proofs.Loops.{Sinking}
use Rattle.activation.proofs.revert_ioevent.Given as goal

abbrev pub invariant-loop-idx : goal.invariant-loop-idx
invariant-loop-idx l = Sinking (λ k. unregister (entry k l.address 8 (pick l.wildcard 0 (k + 1)))) l.num l.initial.recorder l.recorder l.idx
