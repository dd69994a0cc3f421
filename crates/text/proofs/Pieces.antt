-- Text written piece by piece, the two ways to write a reply, and the room asked for.
use mathlib.Core.Path.{◌≡◌}
use mathlib.Core.Bool.{true}
use mathlib.Core.List.{List, [], ◌∷◌, ◌++◌, append_assoc}
use Prim.Native.Nat.{ℕ, ◌+◌, ◌≤◌}
use borrow.Author.Tests.{eq-eqb, ne_eqb, le-leb}
use lib.ListN.{length}
use Rattle.text.specs.Numerals.{decimal, pairs}
use Rattle.text.specs.Lines.{reply_text, spaced}
use Rattle.text.specs.Details.{hexes, field_line}
use Rattle.text.specs.Room.{room}

pub reply-none : (s : List ℕ) → length s ≡ 0 → reply_text s ≡ 45 ∷ []
unfolding reply_text
reply-none s h = simp (eq-eqb _ _ h)

pub reply-some : (s : List ℕ) → (length s ≡ 0 → ⊥) → reply_text s ≡ pairs s
unfolding reply_text
reply-some s h = simp (ne_eqb _ _ h)

-- the columns of a queue's line, all but the first in one
pub field-columns : (i a b c d e : ℕ)
    → (((32 ∷ 32 ∷ 113 ∷ []) ++ spaced (decimal i)) ++ hexes (a ∷ b ∷ c ∷ d ∷ e ∷ [])) ++ 10 ∷ [] ≡ field_line i a b c d e
unfolding field_line
field-columns i a b c d e = simp append_assoc

-- ---- room

pub room-left : (n len at : ℕ) → at + n ≤ len → room n len at ≡ true
room-left n len at h = le-leb (at + n) len h
