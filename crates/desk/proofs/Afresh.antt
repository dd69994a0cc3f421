-- DEMAND 3 OF THE NIGHT DESK'S REPLAY: the device that the replay of a good trace hands back is that of a run from a fresh one
-- over the trace's records, so each field of each queue is what is read afresh from those records.
use mathlib.Core.Path.{◌≡◌, refl, ap, ◌∙◌}
use mathlib.Core.List.{List}
use Prim.Native.Nat.{ℕ}
use lib.ListN.{length}
use Rattle.virtq.specs.Index.{max_queues}
use Rattle.virtq.specs.declared.Field.{Field}
use Rattle.mmio_state.specs.State.{State}
use Rattle.mmio_state.specs.Fields.{asked}
use Rattle.mmio_v2.specs.declared.MmioV2Device.{MmioV2Device}
use Rattle.history.specs.Log.{field_from}
use Rattle.history.specs.Run.{run}
use Rattle.history.proofs.Afresh as afresh
use Rattle.trace.specs.Block.{block_at, sizes_at}
use Rattle.trace.specs.Verdict.{Good}
use Rattle.trace.proofs.Judging.{good-accepted}
use Rattle.play.specs.Log.{records_of}
use Rattle.play.specs.declared.Show.{Show}
use Rattle.desk.specs.Desk.{enough, Replayed}
use Rattle.desk.specs.declared.Played.{Played}
use mathlib.Core.Bool.{true}

sixteen : (s : List ℕ) → length (block_at s).sizes ≡ max_queues
unfolding block_at sizes_at
sixteen s = refl

module _ (o : Show) (s l l' : List ℕ) (r : Played) (good : Good s) (fits : enough s (length l) ≡ true) (p : Replayed o s l l' r) where
  ends : r.device.state ≡ run (block_at s) (records_of s)
  ends = ap (λ (d : MmioV2Device). d.state) p.state ∙ rw (fits, good-accepted s good)

  pub replay-reads-afresh : (q : ℕ) (f : Field) → (asked r.device.state q f).value ≡ field_from (block_at s) (records_of s) q f
  replay-reads-afresh q f =
      ap (λ (u : State). (asked u q f).value) ends ∙ afresh.reads-afresh (block_at s) good.config (sixteen s) (records_of s) q f
