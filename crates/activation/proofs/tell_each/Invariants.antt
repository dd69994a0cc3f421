use Rattle.std.proofs.Common.{◌≡◌, ℕ}
use Rattle.words.specs.declared.Action.{Action}
use Rattle.tape.proofs.Loops.{Rising}
use Rattle.activation.proofs.tell_each.Given as goal

abbrev pub invariant-loop-i : goal.invariant-loop-i
invariant-loop-i g l =
    (f : ℕ → Action) → ((q : ℕ) (x : Action) → goal.F-post g l.tell (record { 0 = q }) x → x ≡ f q) → Rising f l.n l.initial.recorder l.recorder l.i
