-- What shuts lookalikes out, on the step itself (01, "What separates a port from a lookalike"): it does not refuse everything,
-- two replies differ, the status moves, and the count is the number of records (`count-is`, `words_are`).
use mathlib.Core.Path.{◌≡◌, refl, ap}
use mathlib.Core.List.{List, [], ◌∷◌}
use Prim.Native.Nat.{ℕ}
use native.Mathlib.Omega.{arith}
use lib.ListN.{get_or}
use Rattle.words.specs.Bytes.{read_le}
use Rattle.mmio_state.specs.State.{State}
use Rattle.mmio_v2.specs.Operation.{Read, Write}
use Rattle.mmio_v2.specs.Step.{step}

-- it does not refuse everything
pub not-all-refused : (s : State) → (step 320 s (Read 0 0x000 4)).refusal ≡ 0
not-all-refused s = refl

-- two replies of one device differ: the magic value and the version
pub magic-reply : (s : State) → (step 320 s (Read 0 0x000 4)).reply ≡ 0x76 ∷ 0x69 ∷ 0x72 ∷ 0x74 ∷ []
magic-reply s = refl

pub version-reply : (s : State) → (step 320 s (Read 0 0x004 4)).reply ≡ 2 ∷ 0 ∷ 0 ∷ 0 ∷ []
version-reply s = refl

pub replies-differ : (s : State) → (step 320 s (Read 0 0x000 4)).reply ≡ (step 320 s (Read 0 0x004 4)).reply → ⊥
replies-differ s e = let z : ◌≡◌ {A = ℕ} 0x76 2 = ap (λ (l : List ℕ). get_or l 0 0) e in omega arith

-- a reply shows the state: the status register's is the status
pub status-reply : (s : State) → s.hot.status ≡ 0x83 → (step 320 s (Read 0 0x070 4)).reply ≡ 0x83 ∷ 0 ∷ 0 ∷ 0 ∷ []
status-reply s h = rw h

-- the status moves
pub status-moves : (s : State) → s.hot.status ≡ 0 → (step 320 s (Write 0 0x070 (1 ∷ 0 ∷ 0 ∷ 0 ∷ []))).state.hot.status ≡ 1
unfolding read_le
status-moves s h = rw h
