-- Pieces one after the other are the whole: the device and the text do not depend on where the cuts fall. It is what a program
-- relies on that empties its buffer between them.
use mathlib.Core.Path.{◌≡◌, refl, ap, ap₂, sym, ◌∙◌}
use mathlib.Core.List.{List, [], ◌∷◌, ◌++◌, append-nil, append_assoc}
use Prim.Native.Nat.{ℕ, zero, suc, ◌+◌, ◌-◌, ◌≤◌}
use native.Mathlib.Nat.{add-zero, zero-add, add-suc}
use native.Mathlib.Omega.{arith}
use lib.ListN.{length, length-append}
use Rattle.mmio_state.specs.State.{State}
use Rattle.mmio_v2.specs.Operation.{Operation}
use Rattle.mmio_v2.specs.Step.{operated}
use Rattle.runs.specs.Runs.{run_from}
use Rattle.history.specs.Run.{next}
use Rattle.play.specs.Log.{operation_at, log_from}
use Rattle.play.specs.Text.{outcome_text, log_text}
use Rattle.play.specs.declared.Show.{Show}
use Rattle.desk.proofs.Going.{length-log}

run_join : (d : State) (xs ys : List Operation) → run_from next d (xs ++ ys) ≡ run_from next (run_from next d ys) xs
run_join d [] ys = refl
run_join d (x ∷ xs) ys = ap (λ (e : State). next e x) (run_join d xs ys)

text-join : (o : Show) (d : State) (n : ℕ) (xs ys : List Operation)
    → log_text o d n (xs ++ ys) ≡ log_text o d n ys ++ log_text o (run_from next d ys) (n + length ys) xs
unfolding log_text
text-join o d n [] ys = sym (append-nil (log_text o d n ys))
text-join o d n (x ∷ xs) ys =
    let k : n + length (xs ++ ys) + 1 ≡ n + length ys + length xs + 1 = omega (arith, length-append xs ys) in
    ap₂ (λ (t : List ℕ) (m : ℕ). t ++ outcome_text o m (operated (run_from next d (xs ++ ys)) x)) (text-join o d n xs ys) k
    ∙ ap (λ (e : State). (log_text o d n ys ++ log_text o (run_from next d ys) (n + length ys) xs) ++ outcome_text o (n + length ys + length xs + 1) (operated e x)) (run_join d xs ys)
    ∙ append_assoc (log_text o d n ys) (log_text o (run_from next d ys) (n + length ys) xs) (outcome_text o (n + length ys + length xs + 1) (operated (run_from next (run_from next d ys) xs) x))

log-join : (s : List ℕ) (i m : ℕ) → log_from s 0 (i + m) ≡ log_from s i m ++ log_from s 0 i
unfolding log_from
log-join s i zero = ap (log_from s 0) (add-zero i)
log-join s i (suc m) = ap (log_from s 0) (add-suc i m) ∙ ap₂ (λ (j : ℕ) (l : List Operation). operation_at s j ∷ l) (zero-add (i + m)) (log-join s i m)

-- a piece from 0 to i, then one from i to j, are one piece from 0 to j
module _ (o : Show) (s : List ℕ) (d e : State) (i j : ℕ) (h : i ≤ j) (was : e ≡ run_from next d (log_from s 0 i)) where
  parts : log_from s 0 j ≡ log_from s i (j - i) ++ log_from s 0 i
  parts = let k : j ≡ i + (j - i) = omega arith in ap (log_from s 0) k ∙ log-join s i (j - i)

  pub pieces-state : run_from next e (log_from s i (j - i)) ≡ run_from next d (log_from s 0 j)
  pieces-state = ap (λ (x : State). run_from next x (log_from s i (j - i))) was ∙ sym (ap (run_from next d) parts ∙ run_join d (log_from s i (j - i)) (log_from s 0 i))

  pub pieces-text : log_text o d 0 (log_from s 0 i) ++ log_text o e i (log_from s i (j - i)) ≡ log_text o d 0 (log_from s 0 j)
  pieces-text =
      let n : i ≡ 0 + length (log_from s 0 i) = omega (arith, length-log s 0 i) in
      ap₂ (λ (x : State) (k : ℕ). log_text o d 0 (log_from s 0 i) ++ log_text o x k (log_from s i (j - i))) was n
      ∙ sym (ap (log_text o d 0) parts ∙ text-join o d 0 (log_from s i (j - i)) (log_from s 0 i))
