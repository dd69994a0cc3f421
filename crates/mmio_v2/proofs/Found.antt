-- A property of each row of a register list, at the row's length, is one of the register found, at the access's length.
use mathlib.Core.Bool.{Bool, true, false, ◌&&◌}
use mathlib.Core.Path.{◌≡◌, refl}
use mathlib.Core.List.{List, [], ◌∷◌}
use Prim.Native.Nat.{ℕ, ◌-◌, ◌≤◌}
use native.Mathlib.Omega.{arith}
use borrow.Author.Tests.{eqb-true}
use lib.Dec.{eqb, leb}
use lib.ListN.{length}
use Rattle.std.proofs.lemmas.Bool.{and_parts}
use Rattle.words.specs.Pick.{pick}
use Rattle.registers.specs.Rows.{Row, find}
use Rattle.registers.specs.Registers.{read_rows, read_at}
use Rattle.registers.specs.declared.ReadRegister.{ReadRegister}
use Rattle.registers.specs.declared.ReadRegister.TheVariants as R
use Rattle.mmio_state.specs.State.{State}
use Rattle.mmio_access.specs.Changes.{config_read}
use Rattle.mmio_access.specs.Shown.{doorbell_word}
use Rattle.mmio_v2.specs.Operation.{Read}
use Rattle.mmio_v2.specs.Registers.{shows, word_if, bytes_shown, fits_reply, read_asks}
use Rattle.mmio_v2.specs.Step.{operated}
use Rattle.mmio_v2.specs.declared.Shown.{Shown}
use Rattle.mmio_v2.specs.declared.Shown.TheVariants.{Word, Half, Nothing}

pub data Each {A : Type 0} (P : A → ℕ → Type 0) : List (Row A) → Type 0 where
  none : Each P []
  more : {r : Row A} {rs : List (Row A)} → P r.register r.length → Each P rs → Each P (r ∷ rs)

pub found : {A : Type 0} (P : A → ℕ → Type 0) (n : A) (rs : List (Row A)) → ((l : ℕ) → P n l) → Each P rs → (o l : ℕ) → P (find n rs o l) l
found P n [] z none o l = z l
found P n (r ∷ rs) z (more p m) o l = go (eqb l r.length && eqb o r.offset) refl (found P n rs z m o l)
  where
    go : (t : Bool) → eqb l r.length && eqb o r.offset ≡ t → P (find n rs o l) l → P (pick t r.register (find n rs o l)) l
    go true e q = rw (eqb-true l r.length (and_parts (eqb l r.length) (eqb o r.offset) e).0) p
    go false e q = q

-- a reply that fits has at most four bytes, and not more than the access
fitting : (x : Shown) (l : ℕ) → fits_reply x l ≡ true → (length (bytes_shown x) ≤ 4) × (length (bytes_shown x) ≤ l)
fitting (Word v) l e = let z = eqb-true 4 l e in (omega arith, omega arith)
fitting (Half v) l e = let z = eqb-true 2 l e in (omega arith, omega arith)
fitting Nothing l e = (omega arith, omega arith)

-- every reply is as long as its access
module _ (s : State) where
  abbrev Fits : ReadRegister → ℕ → Type 0
  Fits r l = fits_reply (shows s r) l ≡ true

  bell : (t : Bool) → fits_reply (word_if t doorbell_word) 4 ≡ true
  bell true = refl
  bell false = refl

  rows : Each Fits read_rows
  rows =
      more refl (more refl (more refl (more refl (more refl (more refl (more refl (more (bell s.hot.doorbell)
      (more refl (more refl (more refl (more refl (more refl (more refl (more refl (more refl none)))))))))))))))

  pub shown-fits : (o l : ℕ) → fits_reply (shows s (read_at o l)) l ≡ true
  shown-fits o l = go (leb 0x100 o)
    where
      go : (t : Bool) → fits_reply (shows s (pick t (R.Config (o - 0x100)) (find R.Unknown read_rows o l))) l ≡ true
      go true = refl
      go false = found Fits R.Unknown read_rows (λ m. refl) rows o l

  pub reply-short : (k o l : ℕ) → (length (operated s (Read k o l)).reply ≤ 4) × (length (operated s (Read k o l)).reply ≤ l)
  reply-short k o l = fitting (shows s (read_at o l)) l (shown-fits o l)

  -- only the configuration asks
  abbrev Silent : ReadRegister → ℕ → Type 0
  Silent r l = read_asks s r l ≡ []

  silent-rows : Each Silent read_rows
  silent-rows =
      more refl (more refl (more refl (more refl (more refl (more refl (more refl (more refl
      (more refl (more refl (more refl (more refl (more refl (more refl (more refl (more refl none)))))))))))))))

  pub asks_nothing : (o l : ℕ) → leb 0x100 o ≡ false → read_asks s (read_at o l) l ≡ []
  asks_nothing o l e = rw e (found Silent R.Unknown read_rows (λ m. refl) silent-rows o l)

  pub asks-config : (o l : ℕ) → leb 0x100 o ≡ true → read_asks s (read_at o l) l ≡ (config_read s (o - 0x100) l).actions
  asks-config o l e = rw e
