-- What each promise of this floor says of its result r, word for word: `Determined.antt` is about these.
use mathlib.Core.Path.{◌≡◌, refl}
use mathlib.Core.List.{List}
use Prim.Native.Nat.{ℕ}
use base.Logic.{SProp}
use contract.Monad.{Fun, fact}
use denote.Ref.{Bor}
use types.Logic.{Logic}
use seplogic.Ra.Ura.{Ura}
use prog.Memory.{Memory}
use prog.Routine.{Routine}
use Rattle.trace.specs.Verdict.{next_at}
use Rattle.std.specs.Prelude.{Option, Result}
use Rattle.words.specs.declared.Refusal.{Refusal}
use Rattle.words.specs.Refusals.{numbered}
use Rattle.trace.specs.declared.Record.{Record}
use Rattle.reader.specs.Reader.{Keeps, found_by}
use Rattle.reader.specs.declared.TraceReader.{TraceReader}
use Rattle.reader.specs.contracts.TraceReader.new as new
use Rattle.reader.specs.contracts.TraceReader.moved as moved
use Rattle.reader.specs.contracts.TraceReader.next as next
use Rattle.reader.specs.contracts.read_at as read_at

module _ {M : Type 1} {𝓤 : Ura M} (𝓛 : Logic 𝓤) (mem : Memory → SProp 𝓤) (run : Routine → Fun 𝓤) where
  pub new-says : (κs : _) (s : Bor (List ℕ)) (n : ℕ) (g : _) (r : TraceReader) (e : _) → (new.clauses 𝓛 mem run κs (s, (n, tt))).ensures g r e ≡ fact 𝓤 (Keeps s n r)
  new-says κs s n g r e = refl

  pub moved-says : (κs : _) (d : TraceReader) (n : ℕ) (g : _) (r : TraceReader) (e : _) → (moved.clauses 𝓛 mem run κs (d, (n, tt))).ensures g r e ≡ fact 𝓤 (Keeps d.trace n r)
  moved-says κs d n g r e = refl

  pub next-says : (κs : _) (d : TraceReader) (g : _) (r : Result (Option Record) Refusal) (e : _) → (next.clauses 𝓛 mem run κs (d, tt)).ensures g r e ≡ fact 𝓤 (numbered r ≡ found_by d)
  next-says κs d g r e = refl

  pub read-at-says : (κs : _) (s : Bor (List ℕ)) (n : ℕ) (g : _) (r : Result (Option Record) Refusal) (e : _) → (read_at.clauses 𝓛 mem run κs (s, (n, tt))).ensures g r e ≡ fact 𝓤 (numbered r ≡ next_at s.now n)
  read-at-says κs s n g r e = refl
