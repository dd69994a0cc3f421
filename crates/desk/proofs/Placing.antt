-- The record at a place of a good trace may run, a write's bytes are inside the trace, and it is the operation there.
use mathlib.Core.Bool.{Bool, true, false, true≢false}
use mathlib.Core.Path.{◌≡◌, refl, ap, sym, ◌∙◌}
use mathlib.Core.List.{List}
use Prim.Native.Nat.{ℕ, ◌+◌, ◌*◌, ◌-◌, ◌≤◌, ◌<◌}
use native.Mathlib.Omega.{arith}
use borrow.Author.Tests.{eq-eqb, leb-true, le-leb}
use lib.Dec.{eqb, leb}
use lib.ListN.{length, drop}
use lib.Seq.{length-take-le}
use Rattle.std.proofs.lemmas.List.{length-drop}
use Rattle.words.specs.Pick.{pick}
use Rattle.trace.specs.Form.{pool_place}
use Rattle.trace.specs.Records.{kind_good, data_good, judged}
use Rattle.trace.specs.Verdict.{count, pool_length, data_of, record_of, Good, next_at}
use Rattle.trace.specs.declared.Record.{Record}
use Rattle.std.specs.Prelude.{Option, Some, None, Result, Ok, Err}
use Rattle.words.specs.declared.Refusal.{Refusal}
use Rattle.words.specs.Refusals.{numbered}
use Rattle.trace.proofs.Judging.{laid-whole, next_one}
use Rattle.play.specs.Play.{runs}
use Rattle.play.proofs.Running.{runs-yes}
use Rattle.play.specs.Log.{operation_of, may_run, operation_at}

zero_one : {n : ℕ} → n ≡ 0 → 0 < n → ⊥
zero_one e h = omega arith

-- a record that is judged good
module _ (r : Record) (pool : ℕ) (e : judged r pool ≡ 0) where
  both : (kind_good r ≡ true) × (data_good r pool ≡ true)
  both = go (kind_good r) (data_good r pool) e
    where
      go : (t u : Bool) → ◌≡◌ {A = ℕ} (pick t (pick u 0 12) 11) 0 → (t ≡ true) × (u ≡ true)
      go true true q = (refl, refl)
      go true false q = absurd (zero_one q (omega arith))
      go false u q = absurd (zero_one q (omega arith))

  short : (r.len ≤ 4096) × (eqb r.kind 2 ≡ true → leb (r.start + r.len) pool ≡ true)
  short = go (leb r.len 4096) (eqb r.kind 2) (leb (r.start + r.len) pool) _ refl both.1
    where
      go : (t u v w : Bool) → leb r.len 4096 ≡ t → pick t (pick u v w) false ≡ true → (r.len ≤ 4096) × (u ≡ true → v ≡ true)
      go true true v w q p = (leb-true r.len 4096 q, λ z. p)
      go true false v w q p = (leb-true r.len 4096 q, λ z. absurd (true≢false (sym z)))
      go false u v w q p = absurd (true≢false (sym p))

  pub good-may : may_run r ≡ true
  good-may = rw both.0 (le-leb r.len 4096 short.0)

  pub good-within : r.kind ≡ 2 → r.start + r.len ≤ pool
  good-within k = leb-true (r.start + r.len) pool (short.1 (eq-eqb r.kind 2 k))

-- ---- at a place of a good trace

abbrev record_in : Record → Result (Option Record) ℕ → Record
record_in z (Ok None) = z
record_in z (Ok (Some r)) = r
record_in z (Err n) = z

module _ (s : List ℕ) (g : Good s) (i : ℕ) (h : i < count s) where
  there : Ok (Some (record_of s i)) ≡ next_at s i
  there = next_one s i g.layout h (g.records i h)

  pub is-record : (r : Record) (x : Result (Option Record) Refusal) → numbered x ≡ next_at s i → x ≡ Ok (Some r) → r ≡ record_of s i
  is-record r x n e = ap (record_in r) (sym (ap numbered e) ∙ n ∙ sym there)

  -- it is no other answer
  pub no-other : (x : Result (Option Record) Refusal) → numbered x ≡ next_at s i → ((r : Record) → x ≡ Ok (Some r) → ⊥) → ⊥
  no-other (Ok (Some r)) n f = f r refl
  no-other (Ok None) n f = let e : ◌≡◌ {A = Result (Option Record) ℕ} (Ok None) (Ok (Some (record_of s i))) = n ∙ sym there in cc
  no-other (Err e) n f = let e : ◌≡◌ {A = Result (Option Record) ℕ} (numbered (Err e)) (Ok (Some (record_of s i))) = n ∙ sym there in cc

  pub is-good : (r : Record) → r ≡ record_of s i → may_run r ≡ true
  is-good r e = rw e (good-may (record_of s i) (pool_length s) (g.records i h))

  -- a write's bytes: from its start in the pool on, and not past the end
  pub inside : (r : Record) (n a : ℕ) → r ≡ record_of s i → n ≡ count s → r.kind ≡ 2 → a ≡ 264 + 24 * n + r.start → a + r.len ≤ length s
  inside r n a e m k p =
      let w = laid-whole s g.layout in
      let f : (record_of s i).start + (record_of s i).len ≤ pool_length s = good-within (record_of s i) (pool_length s) (g.records i h) (ap (λ (x : Record). x.kind) (sym e) ∙ k) in
      let st : r.start ≡ (record_of s i).start = ap (λ (x : Record). x.start) e in
      let ln : r.len ≡ (record_of s i).len = ap (λ (x : Record). x.len) e in
      omega (arith, w, f, st, ln, p, m)

  -- so they stand whole in the trace: none is cut off
  pub data-whole : (r : Record) → r ≡ record_of s i → r.kind ≡ 2 → length (data_of s r) ≡ r.len
  data-whole r e k =
      let a : ℕ = pool_place (count s) + r.start in
      let f : a + r.len ≤ length s = inside r (count s) a e refl k refl in
      let d : length (drop a s) ≡ length s - a = length-drop a s in
      length-take-le r.len (drop a s) (omega (arith, f, d))

  -- where there is room for it, it runs
  pub runs-here : (r : Record) → r ≡ record_of s i → (len at : ℕ) → at + 10304 ≤ len → runs r len at ≡ true
  runs-here r e len at room = runs-yes r len at (is-good r e) room

-- ---- the operation that it is

pub at-place : (s : List ℕ) (i : ℕ) (r : Record) (bs : List ℕ) → r ≡ record_of s i → bs ≡ data_of s r → operation_at s i ≡ operation_of r bs
unfolding operation_at
at-place s i r bs e b = ap (λ (x : Record). operation_of x (data_of s x)) (sym e) ∙ ap (operation_of r) (sym b)
