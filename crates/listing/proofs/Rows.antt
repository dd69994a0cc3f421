-- Lines printed one under the other, each of at most 128 bytes, and where there is enough room for them.
use mathlib.Core.Path.{◌≡◌}
use mathlib.Core.List.{List, ◌++◌}
use Prim.Native.Nat.{ℕ, ◌+◌, ◌*◌, ◌≤◌}
use native.Mathlib.Numerals.{add-one}
use native.Mathlib.Omega.{arith}
use borrow.Author.Tests.{le-leb}
use lib.ListN.{length}
use Rattle.text.specs.Page.{Prints, PrintsIf, Spare}
use Rattle.text.specs.declared.Page.{Page}
use Rattle.text.proofs.Pieces.{room-left}
use Rattle.text.proofs.Pages.{still, then, worded, within}
use Rattle.listing.specs.Listing.{rows, actions_room, queues_room}

rows_more : (n : ℕ) (f : ℕ → List ℕ) → rows n f ++ f n ≡ rows (n + 1) f
unfolding rows
rows_more n f = rw add-one

-- of the lines none is printed yet; i are, and one more
pub line-first : (f : ℕ → List ℕ) (p : Page) → Prints 0 p (rows 0 f) p
unfolding rows
line-first f p = still 0 p

pub line-more : (f : ℕ → List ℕ) {i : ℕ} {p q r : Page} → Prints (128 * i) p (rows i f) q → Prints 128 q (f i) r → Prints (128 * (i + 1)) p (rows (i + 1) f) r
line-more f {i} e g = within (worded (then e g) (rows_more i f)) (omega arith)

-- where there is enough room the lines are printed
pub actions-roomed : (n : ℕ) {m : ℕ} {p q : Page} {t : List ℕ} → PrintsIf (actions_room n (length p.out.now) p.at) m p t q
    → n ≤ 64 → Spare (128 * n) p → Prints m p t q
actions-roomed n {p = p} e a h = rw (le-leb n 64 a, room-left (128 * n) (length p.out.now) p.at h) at e

pub queues-roomed : (n : ℕ) {m : ℕ} {p q : Page} {t : List ℕ} → PrintsIf (queues_room n (length p.out.now) p.at) m p t q
    → n ≤ 16 → Spare (128 * n) p → Prints m p t q
queues-roomed n {p = p} e a h = rw (le-leb n 16 a, room-left (128 * n) (length p.out.now) p.at h) at e
