-- The polls in the words of the step. Where one is done, it keeps the promise of the full function, whatever the outcome number:
-- nothing is asked of the host, and the lent words stay. Where a write is not done, the device is as it was.
use mathlib.Core.Bool.{true, false}
use mathlib.Core.Path.{◌≡◌, sym, ap, ◌∙◌}
use mathlib.Core.List.{List}
use Prim.Native.Nat.{ℕ}
use lib.ListN.{length}
use Rattle.words.specs.Bytes.{write_le}
use Rattle.tape.specs.Play.{laid}
use Rattle.mmio_state.specs.State.{with_hot}
use Rattle.mmio_access.specs.Changes.{with_interrupts}
use Rattle.mmio_v2.specs.Fresh.{device}
use Rattle.mmio_v2.specs.Step.{Outcome, replied}
use Rattle.mmio_v2.specs.declared.MmioV2Device.{MmioV2Device}
use Rattle.mmio_fast.specs.Tell.{tell, told_of}
use Rattle.mmio_fast.specs.declared.Quick.{Quick}
use Rattle.mmio_fast.proofs.Same.{read_same, write_same, write_kept, given}
use Rattle.dewbracket.specs.Promises.{Reads, Writes, PollsRead, PollsWrite}

module _ (d : MmioV2Device) (o : ℕ) where
  pub poll-write-done : (d' : MmioV2Device) (bs x : List ℕ) → PollsWrite d d' o bs (length x) true
      → (k : ℕ) → Writes d d' k o bs x x (tell 0 0 0)
  poll-write-done d' bs x p k =
      let z = write_same d.state k o bs (length x) (sym p.1) in
      (p.0 ∙ ap (λ (u : Outcome). device u.state) (sym z), ap told_of (sym z), ap (λ (u : Outcome). laid x u.actions) (sym z))

  pub poll-write-not-done : (d' : MmioV2Device) (bs : List ℕ) (w : ℕ) → PollsWrite d d' o bs w false → d' ≡ d
  poll-write-not-done d' bs w p =
      p.0 ∙ ap (λ (b : ℕ). device (with_hot d.state (with_interrupts d.state.hot b))) (write_kept d.state o bs w (sym p.1))

  -- the four bytes of the word, over the lent ones, are the reply
  pub poll-read-done : (y x : List ℕ) (r : Quick) → PollsRead d o (length y) (length x) r → r.done ≡ true
      → (k : ℕ) → Reads d k o y (write_le 4 y r.value) x x (tell 0 4 0) × (length y ≡ 4)
  poll-read-done y x r e f k =
      let z = read_same d.state k o (length y) (length x) (sym (ap (λ (u : Quick). u.done) e) ∙ f) in (
        (
          ap told_of (sym z.0),
          ap (λ (u : Quick). write_le 4 y u.value) e ∙ given y d.state _ z.1 ∙ ap (replied y) (sym z.0),
          ap (λ (u : Outcome). laid x u.actions) (sym z.0),
        ),
        z.1,
      )
