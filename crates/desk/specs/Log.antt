-- A good trace that is opened to be run; no public promise cites it.
use Rattle.std.specs.Prelude.{◌≡◌, List, ℕ}
use Rattle.play.specs.declared.Show.{Show}
use Rattle.desk.specs.declared.Log.{Log}

-- of these bytes, and with these lines shown
pub record Opens (s : List ℕ) (o : Show) (g : Log) : Type 0 where
  pub bytes : g.trace.now ≡ s
  pub shows : g.show ≡ o
