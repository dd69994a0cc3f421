-- Which statuses there are, and at which a device is active (01, The ladder of status, last paragraph).
use Rattle.std.specs.Prelude.{Bool, true, false, ◌≡◌, List, [], ◌∷◌, ℕ, eqb}
use Rattle.words.specs.Pick.{pick}
use Rattle.mmio_state.specs.State.{State}
use Rattle.mmio_state.specs.Sound.{Sound}

abbrev pub among : ℕ → List ℕ → Bool
among v [] = false
among v (x ∷ xs) = pick (eqb v x) true (among v xs)

-- "status is one of 0, 1, 3, 0xb, 0xf, each with or without FAILED"
abbrev pub statuses : List ℕ
statuses = 0x00 ∷ 0x01 ∷ 0x03 ∷ 0x0b ∷ 0x0f ∷ 0x80 ∷ 0x81 ∷ 0x83 ∷ 0x8b ∷ 0x8f ∷ []

-- a device is active only at these
abbrev pub top_statuses : List ℕ
top_statuses = 0x0f ∷ 0x8f ∷ []

-- a state that a run can leave: sound, with its status on the ladder, and active only at the top of it
pub record Real (s : State) : Type 0 where
  pub sound : Sound s
  pub status : among s.hot.status statuses ≡ true
  pub top : s.flags.active ≡ true → among s.hot.status top_statuses ≡ true
