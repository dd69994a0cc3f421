-- What holds of every run: an operation that leaves the state as it was can be struck; what a step keeps, a run keeps; the
-- answers to the earlier part of a log don't depend on the later part.
use mathlib.Core.Path.{◌≡◌, refl, ap, ap₂}
use mathlib.Core.List.{List, [], ◌∷◌, ◌++◌, append-nil}
use Rattle.runs.specs.Runs.{run_from, answers_to}

module _ {Op S A : Type 0} (next : S → Op → S) (answer : S → Op → A) (s : S) where
  -- two logs that leave one state: every later state and every later answer is the same
  pub struck-run : (x y : List Op) → run_from next s x ≡ run_from next s y → (later : List Op) → run_from next s (later ++ x) ≡ run_from next s (later ++ y)
  struck-run x y e [] = e
  struck-run x y e (op ∷ later) = ap (λ (u : S). next u op) (struck-run x y e later)

  pub struck-answers : (x y : List Op) → run_from next s x ≡ run_from next s y → (later : List Op) → answers_to next answer s x later ≡ answers_to next answer s y later
  struck-answers x y e [] = refl
  struck-answers x y e (op ∷ later) = ap₂ (λ (u : S) (rest : List A). answer u op ∷ rest) (struck-run x y e later) (struck-answers x y e later)

  -- PREFIX: the answers to a whole log are those to its later part before those to its earlier part, and these are the same
  -- whatever comes later
  pub prefix : (later earlier : List Op) → answers_to next answer s [] (later ++ earlier) ≡ answers_to next answer s earlier later ++ answers_to next answer s [] earlier
  prefix [] earlier = refl
  prefix (op ∷ later) earlier =
      ap₂ (λ (log : List Op) (rest : List A). answer (run_from next s log) op ∷ rest) (append-nil (later ++ earlier)) (prefix later earlier)

-- what a step keeps, a run keeps
pub run-keeps {ℓ} : {S Op : Type 0} (P : S → Type ℓ) (next : S → Op → S) → ((s : S) (op : Op) → P s → P (next s op))
    → (s : S) (later log : List Op) → P (run_from next s log) → P (run_from next s (later ++ log))
run-keeps P next keep s [] log h = h
run-keeps P next keep s (op ∷ later) log h = keep (run_from next s (later ++ log)) op (run-keeps P next keep s later log h)
