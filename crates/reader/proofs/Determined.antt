-- Any two results that a promise of this floor allows are equal. A reader is its trace and its place: one that keeps the same
-- slice at the same place is the same reader.
use mathlib.Core.Path.{◌≡◌, sym, ◌∙◌}
use mathlib.Core.List.{List}
use Prim.Native.Nat.{ℕ}
use denote.Ref.{Bor}
use Rattle.trace.specs.Verdict.{next_at}
use Rattle.std.specs.Prelude.{Option, Result}
use Rattle.words.specs.declared.Refusal.{Refusal}
use Rattle.words.specs.Refusals.{numbered}
use Rattle.words.proofs.Refusals.{numbered-same}
use Rattle.trace.specs.declared.Record.{Record}
use Rattle.reader.specs.Reader.{Keeps, found_by}
use Rattle.reader.specs.declared.TraceReader.{TraceReader}

-- `new` and `moved`
pub reader-determined : (s : Bor (List ℕ)) (n : ℕ) (r r' : TraceReader) → Keeps s n r → Keeps s n r' → r ≡ r'
reader-determined s n r r' p q = let a = p.0 ∙ sym q.0 in let b = p.1 ∙ sym q.1 in rw (a, b)

pub next-determined : (d : TraceReader) (r r' : Result (Option Record) Refusal) → numbered r ≡ found_by d → numbered r' ≡ found_by d → r ≡ r'
next-determined d r r' p q = numbered-same r r' (p ∙ sym q)

pub read-at-determined : (s : Bor (List ℕ)) (n : ℕ) (r r' : Result (Option Record) Refusal) → numbered r ≡ next_at s.now n → numbered r' ≡ next_at s.now n → r ≡ r'
read-at-determined s n r r' p q = numbered-same r r' (p ∙ sym q)
