use Rattle.std.proofs.Common.{rules, ◌≡◌, ℕ, ◌+◌, ◌-◌, ◌≤◌, List, ◌++◌, refl, sym, ap, subst, ◌∙◌, arith, length, take, length-take-le}
use borrow.Rule.Slice.PartMut.{put_mid}
use lib.Seq.{take-append-add, take-take}
use Rattle.std.proofs.lemmas.Slice.{take-put_mid}
use Rattle.std.proofs.KnownBytes.{Consumes-trans}
use Rattle.std.specs.Io.KnownBytes.{Consumes}
use Rattle.show.proofs.read_full.Goals as goal

-- up to `at` what stood there, and then the first n bytes of what was put from `at` on
taken-more : (at k n : ℕ) (xs ys : List ℕ) → at ≤ length xs → n ≤ length ys → take (at + n) (put_mid at k xs ys) ≡ take at xs ++ take n ys
taken-more at k n xs ys within fits =
    sym (take-take (at + n) (at + length ys) (put_mid at k xs ys) (omega arith))
    ∙ ap (take (at + n)) (take-put_mid at k xs ys (at + length ys) refl within)
    ∙ ap (λ m. take (m + n) (take at xs ++ ys)) (sym (length-take-le at xs within))
    ∙ take-append-add (take at xs) ys n

pub loop-done-preserved : goal.loop-done-preserved
loop-done-preserved g c =
    let l = c.loop-done in
    let more = taken-more l.done (length l.space - l.done) c.in-Ok.n l.space c.read.new.buf l.invariant.0 c.in-Ok.ensures.bound.0 in
    (search rules, subst (Consumes _ _) (sym more) (Consumes-trans _ _ _ _ _ l.invariant.1 c.in-Ok.ensures.bytes.0))
