-- Printing one after the other is one printing; what a page prints where it has room.
use mathlib.Core.Bool.{Bool, true, false}
use mathlib.Core.Path.{◌≡◌, refl, ap, sym, ◌∙◌}
use mathlib.Core.List.{List, [], ◌++◌}
use Prim.Native.Nat.{ℕ, ◌+◌, ◌*◌, ◌≤◌, ◌<◌}
use native.Mathlib.Omega.{arith}
use lib.ListN.{length, take, get_or}
use Rattle.std.specs.List.{flat_map}
use Rattle.std.proofs.lemmas.List.{flat_map_more, take_more}
use Rattle.words.proofs.Actions as emitted
use borrow.Author.Tests.{le-leb}
use Rattle.text.specs.Room.{record_room}
use Rattle.text.specs.Page.{Prints, PrintsIf, Spare, has_room}
use Rattle.text.specs.declared.Page.{Page}
use Rattle.text.proofs.Pieces.{room-left}

-- nothing was printed
pub still : (m : ℕ) (p : Page) → Prints m p [] p
still m p = record { same = refl; text = emitted.still p.out.now p.at; small = omega arith; long = refl }

module _ {m : ℕ} {p q : Page} {w : List ℕ} (e : Prints m p w q) where
  -- two printings, joined
  pub then : {n : ℕ} {r : Page} {v : List ℕ} → Prints n q v r → Prints (m + n) p (w ++ v) r
  then f = record { same = f.same ∙ e.same; text = emitted.then e.text f.text; small = omega (arith, e.small, f.small); long = f.long ∙ e.long }

  -- the same bytes, written otherwise
  pub worded : {v : List ℕ} → w ≡ v → Prints m p v q
  worded h = rw h at e

  -- a wider bound
  pub within : {n : ℕ} → m ≤ n → Prints n p w q
  within h = record { same = e.same; text = e.text; small = omega (arith, e.small); long = e.long }

  -- where it is told
  pub told : {t : Bool} → t ≡ true → PrintsIf t m p w q
  told h = rw h e

-- and where it is not
pub untold : {t : Bool} (m : ℕ) (p : Page) (w : List ℕ) → t ≡ false → PrintsIf t m p w p
untold m p w h = rw h (still m p)

-- one more of the pieces that a loop prints, each of at most k bytes
pub each-more : (f : ℕ → List ℕ) {k i : ℕ} (s : List ℕ) {p q r : Page} → Prints (k * i) p (flat_map f (take i s)) q
    → i < length s → Prints k q (f (get_or s i 0)) r → Prints (k * (i + 1)) p (flat_map f (take (i + 1) s)) r
each-more f {k} {i} s e h g =
    within (worded (then e g) (flat_map_more f [] (take i s) (get_or s i 0) ∙ ap (flat_map f) (sym (take_more s i 0 h)))) (omega arith)

-- there is room, so the line is written
pub roomed : {m : ℕ} {p q : Page} {w : List ℕ} (n : ℕ) → PrintsIf (has_room n p) m p w q → Spare n p → Prints m p w q
roomed {p = p} n e h = rw (room-left n (length p.out.now) p.at h) at e

-- the same of a record's line, with a reply that is short enough
pub line-roomed : (k : ℕ) {m : ℕ} {p q : Page} {w : List ℕ} → PrintsIf (record_room k (length p.out.now) p.at) m p w q → k ≤ 8
    → Spare 64 p → Prints m p w q
line-roomed k {p = p} e s h = rw (le-leb k 8 s, room-left 64 (length p.out.now) p.at h) at e
