-- Records written one after the other: what is left to write from here comes to the whole.
use Rattle.std.proofs.Common.{◌≡◌, ℕ, ◌-◌, ◌≤◌, List, [], ◌∷◌, ap, arith}
use Rattle.words.specs.Lists.{up, down}
use Rattle.words.specs.declared.Action.{Action}
use Rattle.tape.specs.declared.Recorder.{Recorder}
use Rattle.tape.specs.Play.{Played}
use Rattle.tape.proofs.Playing.{then, unplayed}

-- from r₀ on the records `whole` are to be played; at r, `rest` of them are left
pub record Left (r₀ : Recorder) (whole : List Action) (r : Recorder) (rest : List Action) : Type 0 where
  pub comes : (r' : Recorder) → Played r rest r' → Played r₀ whole r'

module _ {r₀ : Recorder} {whole : List Action} {r : Recorder} where
  pub left_last : {rest : List Action} → Left r₀ whole r rest → rest ≡ [] → Played r₀ whole r
  left_last g e = g.comes r (rw e (unplayed r))

  pub left_more : {rest : List Action} (x : Action) (ys : List Action) (r' : Recorder) → Left r₀ whole r rest → rest ≡ x ∷ ys → Played r (x ∷ []) r' → Left r₀ whole r' ys
  left_more x ys r' g e p = record { comes = λ u q. g.comes u (rw e (then p q)) }

-- f 0 up to f (n - 1), of which those from f j on are left
abbrev pub Rising : (f : ℕ → Action) (n : ℕ) (r₀ r : Recorder) (j : ℕ) → Type 0
Rising f n r₀ r j = Left r₀ (up 0 n f) r (up j (n - j) f)

-- f (n - 1) down to f 0, of which those from f (j - 1) on are left
abbrev pub Sinking : (f : ℕ → Action) (n : ℕ) (r₀ r : Recorder) (j : ℕ) → Type 0
Sinking f n r₀ r j = Left r₀ (down n f) r (down j f)

pub down_none : (j : ℕ) (f : ℕ → Action) → j ≤ 0 → down j f ≡ []
down_none j f h = let z : j ≡ 0 = omega arith in ap (λ (m : ℕ). down m f) z
