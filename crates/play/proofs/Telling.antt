-- A record's line, its action records and the fields of its queues are its text.
use mathlib.Core.Bool.{Bool, true}
use mathlib.Core.Path.{◌≡◌, ap, ◌∙◌}
use mathlib.Core.List.{List}
use Prim.Native.Nat.{ℕ, ◌*◌, ◌/◌, ◌≤◌}
use native.Mathlib.Omega.{arith}
use lib.ListN.{length, take}
use lib.Seq.{length-take-le}
use Rattle.virtq.specs.declared.Queue.{Queue}
use Rattle.text.specs.Lines.{record_line}
use Rattle.text.specs.Page.{Prints, PrintsIf, Spare}
use Rattle.text.specs.declared.Page.{Page}
use Rattle.text.proofs.Pages.{then, worded, within, told}
use Rattle.listing.specs.Listing.{actions_room, words_text, queues_room, queues_text}
use Rattle.listing.proofs.Rows.{actions-roomed, queues-roomed}
use Rattle.listing.proofs.Back.{words-front, queues-front}
use Rattle.play.specs.Text as text
use Rattle.play.specs.declared.Show.{Show}

module _ {p q : Page} {asked : Bool} (yes : asked ≡ true) where
  -- action records that are asked for, where there is room for all that an operation may have
  pub actions-told : (w v : List ℕ) (n : ℕ) → v ≡ take (5 * n) w → 5 * n ≤ length w → n ≤ 64 → Spare 8192 p
      → PrintsIf (actions_room (length v / 5) (length p.out.now) p.at) (128 * (length v / 5)) p (words_text v (length v / 5)) q → PrintsIf asked 8192 p (words_text w n) q
  actions-told w v n is long a h e =
      let m : length v / 5 ≡ n = omega (arith, ap length is, length-take-le (5 * n) w long) in
      told (within (worded (actions-roomed n (rw m at e) a (omega arith)) (ap (λ (x : List ℕ). words_text x n) is ∙ words-front w n)) (omega arith)) yes

  -- and fields, where there is room for those of the whole table
  pub queues-told : (qs v : List Queue) (n : ℕ) → v ≡ take n qs → n ≤ length qs → n ≤ 16 → Spare 2048 p
      → PrintsIf (queues_room (length v) (length p.out.now) p.at) (128 * length v) p (queues_text v (length v)) q → PrintsIf asked 2048 p (queues_text qs n) q
  queues-told qs v n is long a h e =
      let m : length v ≡ n = omega (arith, ap length is, length-take-le n qs long) in
      told (within (worded (queues-roomed n (rw m at e) a (omega arith)) (ap (λ (x : List Queue). queues_text x n) is ∙ queues-front qs n)) (omega arith)) yes

pub all_told : (o : Show) (n status : ℕ) (reply : List ℕ) (k : ℕ) (acts : List ℕ) (qs : List Queue) (m : ℕ) {p q r t : Page}
    → Prints 64 p (record_line n status reply k) q → PrintsIf o.actions 8192 q acts r → PrintsIf o.fields 2048 r (queues_text qs m) t
    → Prints 10304 p (text.told o n status reply k acts qs m) t
unfolding text.told
all_told o n status reply k acts qs m e f g = within (then (then e f) g) (omega arith)
