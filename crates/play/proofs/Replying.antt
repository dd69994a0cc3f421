-- A read's reply stands in the front of the bytes lent for it, and is as long as the answer says.
use mathlib.Core.Path.{◌≡◌, ap, sym, ◌∙◌}
use mathlib.Core.List.{List, ◌++◌, append_assoc}
use Prim.Native.Nat.{ℕ, ◌≤◌}
use native.Mathlib.Omega.{arith}
use lib.ListN.{length, take, drop, length-append}
use lib.Seq.{sets, length-sets, length-take-le, take-append_seam}
use Rattle.tape.specs.Play.{laid}
use Rattle.mmio_state.specs.State.{State}
use Rattle.mmio_v2.specs.Operation.{Read}
use Rattle.mmio_v2.specs.Step.{operated, step, answer_of, replied}
use Rattle.mmio_v2.specs.declared.Answer.{Answer}
use Rattle.mmio_v2.proofs.Found.{reply-short as short}
use Rattle.mmio_claims.proofs.Bounds.{done-from}
use Rattle.listing.proofs.Back.{front}

-- m bytes of b were lent, and w was laid over their front
module _ (b w l : List ℕ) (m : ℕ) (h : m ≤ length b) (e : l ≡ sets (take m b) 0 w) (f : length w ≤ m) where
  back : take (length w) (l ++ drop m b) ≡ w
  back =
      let g : length w ≤ length (take m b) = omega (arith, length-take-le m b h) in
      rw (e, front (take m b) w g, append_assoc) (take-append_seam w (drop (length w) (take m b) ++ drop m b))

  within : length w ≤ length (l ++ drop m b)
  within = rw (length-append, e, length-sets) (omega (arith, length-take-le m b h))

-- a read into m bytes of b, with words enough
module _ (s : State) (k o m : ℕ) (b w l : List ℕ) (a : Answer) (full : 320 ≤ length w) (h : m ≤ length b)
    (e : l ≡ replied (take m b) (step (length w) s (Read k o (length (take m b)))))
    (q : a ≡ answer_of (step (length w) s (Read k o (length (take m b)))))
  where
    given : l ≡ sets (take m b) 0 (operated s (Read k o m)).reply
    given = e ∙ rw (done-from (length w) s (Read k o (length (take m b))) full, length-take-le m b h)

    counts : a.reply ≡ length (operated s (Read k o m)).reply
    counts = ap (λ (x : Answer). x.reply) q ∙ rw (done-from (length w) s (Read k o (length (take m b))) full, length-take-le m b h)

    pub reply-fits : a.reply ≤ length (l ++ drop m b)
    reply-fits = rw counts (within b (operated s (Read k o m)).reply l m h given (short s k o m).1)

    pub reply-back : take a.reply (l ++ drop m b) ≡ (operated s (Read k o m)).reply
    reply-back = rw counts (back b (operated s (Read k o m)).reply l m h given (short s k o m).1)

    pub reply-sized : a.reply ≡ length (take a.reply (l ++ drop m b))
    reply-sized = sym (length-take-le a.reply (l ++ drop m b) reply-fits)

    pub reply-short : length (take a.reply (l ++ drop m b)) ≤ 8
    reply-short = rw reply-back (omega (arith, (short s k o m).0))

    -- the answer and the words are those of a read of m bytes
    pub as-asked : a ≡ answer_of (step (length w) s (Read k o m))
    as-asked = q ∙ ap (λ (j : ℕ). answer_of (step (length w) s (Read k o j))) (length-take-le m b h)

    pub as-laid : (w' : List ℕ) → w' ≡ laid w (step (length w) s (Read k o (length (take m b)))).actions → w' ≡ laid w (step (length w) s (Read k o m)).actions
    as-laid w' f = f ∙ ap (λ (j : ℕ). laid w (step (length w) s (Read k o j)).actions) (length-take-le m b h)
