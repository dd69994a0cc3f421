-- A list of registers, and looking one up by the offset and the length of an access.
use Rattle.std.specs.Prelude.{◌&&◌, List, [], ◌∷◌, ℕ, eqb}
use Rattle.words.specs.Pick.{pick}

pub record Row (A : Type 0) : Type 0 where
  pub offset : ℕ
  pub length : ℕ
  pub register : A

abbrev pub row : {A : Type 0} → (offset length : ℕ) → A → Row A
row o l r = record { offset = o; length = l; register = r }

-- the register of the first row with this offset and this length, else `none`
abbrev pub find : {A : Type 0} → (none : A) → List (Row A) → (offset length : ℕ) → A
find none [] o l = none
find none (r ∷ rs) o l = pick (eqb l r.length && eqb o r.offset) r.register (find none rs o l)
