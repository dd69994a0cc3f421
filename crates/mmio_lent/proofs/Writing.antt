-- `dewbracket_write`: the short way where `quick_write` says that this is enough, else the whole device through `write`. A
-- walk of its code, once, over any two such functions of which `Law` says that the first is the second where it is done.
use mathlib.Core.Path.{◌≡◌, refl, ap, sym, ◌∙◌}
use Prim.Native.Nat.{ℕ, ◌<◌, ◌^◌}
use mathlib.Core.List.{[], ◌∷◌, List}
use mathlib.Core.Bool.{true}
use lib.ListN.{length}
use lib.Dec.{lit<}
use seplogic.Ra.Ura.{Ura}
use base.Fraction.{full_share}
use mir.Syntax.{Callee, Fn, Ty, Body as Code, ty_bool, cond, skip, int, local, value_local, named, erased, mut, imm, w8, w32, w64, ty_int, ty_ref, place, deref, field, copy, rv_opd, addr_of, aggregate, assign, call, seq, return}
use mir.Val.{Val, Vals, vnil, vcons, vstruct, vint, vptr}
use mir.Raw.{raw as raw_ty}
use base.Logic.{SProp, ent, emp, via, fst∗, snd∗, ex_e, id⊢}
use base.Fml.{GName, Lft, Share, Fml, ftrue, fsep, flft, fobs, fres, fbor, fat}
use prog.Wp.{Calls, Loops, WpFn, Tables, Closed}
use prog.Model.{Model}
use prog.Routine.{Routine, Env}
use types.Logic.{Logic, sem}
use contract.Monad.{fact}
use contract.Running.{Running, tables, tables_of}
use types.Kit.{at_ret, ‵, raw, ◌⊛◌, ⋆, some, later, ◌$◌, ◌∵◌, !, qed, by, move, keep, drop, use1, use2, use3, split, join, pick, rewrite, fsplit, fsplit3, fjoin, fjoin3, feq_i, feq_l, suffices, frame, await, done}
use types.Run.{look, store, init, forget, stop, hop, fld, from, load, addr, of_opd, and_then, no_more, land, lit, assigns, first, skips, branches, exec, returns_within, returns, enter, alloc1, alloc0, params1, pass1, pass0, free1, free0}
use types.Part.{whole, sub, look_in, store_in, agg}
use types.SemTy.{Body, Arr}
use types.Hole.{Holey}
use sound.WpLaws.{FmC, fm_of, WpFn-mono}
use denote.RattleType.{RattleType, owns}
use denote.Laws.{Is, shows}
use denote.Memory.{mem, pointee}
use denote.Plain.{uint_vals, uint_Tells, uint_Makes, uint_row_laws}
use denote.Builtin.{u8, u32, u64, usize, RefMutOf, SliceRefOf, SliceRefMutOf}
use denote.Ref.{Bor, MutBor, MutRef, mut_vals, mut_Tells}
use denote.Slice.{slice_val, slice_ty, MutSlice, ShrSlice, Room, finally, res-finally, coded_holeys, heres, shr_slice_vals, mut_slice_vals, shr_slice_Tells, mut_slice_Tells, shr_slice_Lawful, shr_slice_copy}
use denote.Signature.{plain}
use denote.Steps.{only, opens, closes, owned, peeks, heard, nothing}
use denote.Struct.Steps.{spelt}
use denote.Struct.Laws as LL
use denote.Triple.Entry.{on_entry, Vals as Entries}
use denote.Triple.Spec.{Meets, triple_of}
use denote.Triple.Statement.{Contract, Triple}
use denote.Triple.Call.{calls_at}
use denote.Triple.Table.{entered, cited}
use denote.Triple.Clauses.{Ended, Clauses, closing, ensured, lasts}
use denote.Triple.Walked.{says, Stays, stay_ref, stay_none, stay_none_slice, gave_slice, walk_of, Goes-none, Goes-none_slice, Goes-gave_slice, Goes-ref, ends_at, walked, walk_Meets}
use denote.Exit.{Last, yes}
use Rattle.mmio_hot.specs.declared.Hot.{Hot}
use Rattle.mmio_hot.specs.contracts.Hot as O
use Rattle.mmio_hot.proofs.Hot.TheLaws as O'
use Rattle.mmio_fast.specs.Tell.{tell}
use Rattle.mmio_fast.specs.declared.Told.{Told}
use Rattle.mmio_fast.specs.declared.Quick.{Quick}
use Rattle.mmio_fast.specs.contracts.Told as K
use Rattle.mmio_fast.proofs.Told.TheLaws as K'
use Rattle.mmio_fast.specs.contracts.Quick as Q
use Rattle.mmio_fast.proofs.Quick.TheLaws as Q'
use Rattle.mmio_fast.specs.contracts.quick_write as short
use Rattle.mmio_lent.proofs.Shape as shape
use Rattle.mmio_lent.proofs.Shape.{hots, Lent, Wrote, is_true}

module _ (L : Lent) (L' : shape.Laws L) (R : Wrote L) (R' : shape.Wrote-laws L R) where
  abbrev D : RattleType
  D = shape.row L

  abbrev Dm : Ty
  Dm = shape.lies L

  abbrev vals : L.Denot → List Val
  vals = shape.vals L

  abbrev val : L.Denot → Val
  val = shape.val L

  -- the signatures of the export and of the long function
  abbrev pub lent : Ended
  lent =
      record {
        signature = record { lifetimes = 3; outlives = []; params = RefMutOf (0 ∷ []) tt (plain (λ κs. D)) (λ κs. tt) ∷ plain (λ κs. u32) ∷ plain (λ κs. u64) ∷ SliceRefOf (1 ∷ []) tt (plain (λ κs. u8)) (λ κs. tt) ∷ SliceRefMutOf (2 ∷ []) tt (plain (λ κs. u64)) (λ κs. tt) ∷ []; result = plain (λ κs. K.the_row) };
        kept = (yes, (yes, (yes, (yes, (yes, tt)))));
      }

  abbrev pub long : Ended
  long =
      record {
        signature = record { lifetimes = 2; outlives = []; params = plain (λ κs. D) ∷ plain (λ κs. u32) ∷ plain (λ κs. u64) ∷ SliceRefOf (0 ∷ []) tt (plain (λ κs. u8)) (λ κs. tt) ∷ SliceRefMutOf (1 ∷ []) tt (plain (λ κs. u64)) (λ κs. tt) ∷ []; result = plain (λ κs. shape.wrote-row L R) };
        kept = (yes, (yes, (yes, (yes, (yes, tt)))));
      }

  abbrev stayed : Stays lent.signature.params lent.kept
  stayed = (stay_ref (0 ∷ []) tt (plain (λ _. D)), (stay_none (λ _. u32) yes, (stay_none (λ _. u64) yes, (stay_none_slice (1 ∷ []) tt (plain (λ _. u8)) yes, (gave_slice (2 ∷ []) tt (plain (λ _. u64)), tt)))))

  -- the code, with the keys of the short and of the long function: what follows the branch, and the whole
  abbrev tail : Callee → Code
  tail k =
      seq (assign (place 12 []) (rv_opd (copy (place 1 (deref Dm ∷ []))))) (
      seq (assign (place 13 []) (addr_of (place 5 (field 0 ∷ deref (ty_int w64) ∷ [])))) (
      seq (assign (place 14 []) (aggregate (copy (place 13 []) ∷ copy (place 5 (field 1 ∷ [])) ∷ []))) (
      seq (call k (copy (place 12 []) ∷ copy (place 2 []) ∷ copy (place 3 []) ∷ copy (place 4 []) ∷ copy (place 14 []) ∷ []) (place 7 [])) (
      seq (assign (place 15 []) (rv_opd (copy (place 7 (field 1 ∷ []))))) (
      seq (assign (place 1 (deref Dm ∷ [])) (rv_opd (copy (place 15 [])))) (
      seq (assign (place 0 []) (rv_opd (copy (place 7 (field 0 ∷ []))))) return))))))

  abbrev pub code : Callee → Callee → Fn
  code j k =
      record {
        lifetimes = 3;
        outlives = [];
        ty_params = [];
        givens = 0;
        params = 5;
        locals = local K'.mir value_local ∷ local (ty_ref (named 0) mut (pointee L.written)) value_local ∷ local (ty_int w32) value_local ∷ local (ty_int w64) value_local ∷ local (slice_ty (ty_ref (named 1) imm (ty_int w8))) value_local ∷ local (slice_ty (ty_ref (named 2) mut (ty_int w64))) value_local ∷ local Q'.mir value_local ∷ local (shape.wrote-mir L R) value_local ∷ local O'.mir value_local ∷ local (ty_int w64) value_local ∷ local ty_bool value_local ∷ local (ty_int w32) value_local ∷ local Dm value_local ∷ local (ty_ref erased mut (ty_int w64)) value_local ∷ local (slice_ty (ty_ref erased mut (ty_int w64))) value_local ∷ local Dm value_local ∷ [];
        body =
            seq (assign (place 8 []) (rv_opd (copy (place 1 (deref Dm ∷ field 0 ∷ field 0 ∷ []))))) (
            seq (assign (place 9 []) (rv_opd (copy (place 5 (field 1 ∷ []))))) (
            seq (call j (copy (place 8 []) ∷ copy (place 3 []) ∷ copy (place 4 []) ∷ copy (place 9 []) ∷ []) (place 6 [])) (
            seq (assign (place 10 []) (rv_opd (copy (place 6 (field 1 ∷ []))))) (
            seq (cond (copy (place 10 [])) (seq (assign (place 11 []) (rv_opd (copy (place 6 (field 0 ∷ []))))) (seq (assign (place 1 (deref Dm ∷ field 0 ∷ field 0 ∷ field 1 ∷ [])) (rv_opd (copy (place 11 [])))) (seq (assign (place 0 []) (aggregate (int w32 0 ∷ int w32 0 ∷ int w64 0 ∷ []))) return))) skip) (tail k)))));
      }

  -- the short function is the long one where it is done
  abbrev pub Step : Type 0
  Step = L.Denot → ℕ → ℕ → List ℕ → ℕ → R.Denot

  abbrev pub Words : Type 0
  Words = L.Denot → ℕ → ℕ → List ℕ → List ℕ → List ℕ

  abbrev pub Fast : Type 0
  Fast = Hot → ℕ → List ℕ → ℕ → Quick

  abbrev pub Law : Step → Words → Fast → Type 0
  Law g ws gq = (h : L.Denot) (m n : ℕ) (s x : List ℕ) → (gq (L.hot h) n s (length x)).done ≡ true
      → (L.bits h (gq (L.hot h) n s (length x)).value ≡ R.device (g h m n s (length x))) × (tell 0 0 0 ≡ R.told (g h m n s (length x))) × (x ≡ ws h m n s x)

  module _ (g : Step) (ws : Words) (gq : Fast) {M : Type 1} {𝓤 : Ura M} (𝓛 : Logic 𝓤) where
    open 𝓛 use {H}

    abbrev pub sets : Clauses 𝓤 lent
    sets κs a =
        record {
          ghost = Unit {0};
          requires = λ _. emp 𝓤;
          ensures = λ _ r e. fact 𝓤 ((e.0.now ≡ R.device (g a.0.now a.1.0 a.1.1.0 a.1.1.1.0.now (length a.1.1.1.1.0.now))) × (r ≡ R.told (g a.0.now a.1.0 a.1.1.0 a.1.1.1.0.now (length a.1.1.1.1.0.now)))
              × (e.1.1.1.1.0.now ≡ ws a.0.now a.1.0 a.1.1.0 a.1.1.1.0.now a.1.1.1.1.0.now));
        }

    abbrev pub steps : Clauses 𝓤 long
    steps κs a =
        record {
          ghost = Unit {0};
          requires = λ _. emp 𝓤;
          ensures = λ _ r e. fact 𝓤 ((r ≡ g a.0 a.1.0 a.1.1.0 a.1.1.1.0.now (length a.1.1.1.1.0.now))
              × (e.1.1.1.1.0.now ≡ ws a.0 a.1.0 a.1.1.0 a.1.1.1.0.now a.1.1.1.1.0.now));
        }

    abbrev pub quicks : Clauses 𝓤 short.ended
    quicks κs a = record { ghost = Unit {0}; requires = λ _. emp 𝓤; ensures = λ _ r e. fact 𝓤 (r ≡ gq a.0 a.1.0 a.1.1.0.now a.1.1.1.0) }

    abbrev pub Steps : Contract 𝓤
    Steps = triple_of 𝓛 long.signature (closing 𝓛 long steps)

    abbrev pub Quicks : Contract 𝓤
    Quicks = triple_of 𝓛 short.signature (closing 𝓛 short.ended quicks)

    module _ (κ κ' κ'' : Lft) (q q' q'' : Share) (b o : ℕ) (γ : GName) (h : L.Denot) (m n : ℕ) (s : Bor (List ℕ)) (x : MutBor (List ℕ)) where
      abbrev a : MutBor L.Denot × (ℕ × (ℕ × (Bor (List ℕ) × (MutBor (List ℕ) × Unit {0}))))
      a = (record { ref_ptr = (b, o); ghost_name = γ; now = h }, (m, (n, (s, (x, tt)))))

      abbrev sv : Val
      sv = slice_val s.ref_ptr (length s.now)

      abbrev xv : Val
      xv = slice_val x.ref_ptr (length x.now)

      abbrev at : Entries lent.signature (κ, (κ', (κ'', tt)))
      at = (vptr b o ∷ [], (vint w32 m ∷ [], (vint w64 n ∷ [], (sv ∷ [], (xv ∷ [], tt)))))

      abbrev Post : Val → SProp 𝓤
      Post = (walk_of 𝓛 lent stayed sets).post (((κ, (κ', (κ'', tt))), (q, (q', (q'', tt))), tt, a, at), tt)

      abbrev G : R.Denot
      G = g h m n s.now (length x.now)

      abbrev Bytes : Fml
      Bytes = (ShrSlice (named 0) κ' u8).own_val s (sv ∷ [])

      abbrev Acts : Fml
      Acts = (MutSlice (named 1) κ'' u64).own_val x (xv ∷ [])

      -- the words given up: what says their last values, and the borrow, closed
      abbrev Gave : List ℕ → Fml
      Gave zs = fsep (finally u64 x.ghost_name zs) (fbor κ'' (Body (Arr (Holey (mem u64)) (length x.now)) x.ref_ptr.0 x.ref_ptr.1 x.ghost_name))

      -- what the callees' triples bind outside
      abbrev to : Steps.Ghost
      to = (((κ', (κ'', tt)), (q', (q'', tt)), tt, (h, (m, (n, (s, (x, tt))))), (vals h, (vint w32 m ∷ [], (vint w64 n ∷ [], (sv ∷ [], (xv ∷ [], tt)))))), tt)

      abbrev to-short : Quicks.Ghost
      to-short = (((κ', tt), (q', tt), tt, (L.hot h, (n, (s, (length x.now, tt)))), (hots (L.hot h), (vint w64 n ∷ [], (sv ∷ [], (vint w64 (length x.now) ∷ [], tt))))), tt)

      asks-short : n < 2 ^ 64 → length x.now < 2 ^ 64 → Is O.the_row (L.hot h) (hots (L.hot h)) → ent 𝓤 (⋆ 𝓛 (‵ Bytes ∷ ‵ (flft κ' q') ∷ [])) (Quicks.pre to-short)
      asks-short n-fits l-fits was =
          qed 𝓛 (‵ Bytes ∷ ‵ (flft κ' q') ∷ []) ∵ nothing ! $ owned ! usize (Is usize) (uint_Makes 𝓛 w64) (length x.now) _ (refl, l-fits) $ fjoin ! $ move ! (1 ∷ 0 ∷ []) $ fjoin ! $
          owned ! u64 (Is u64) (uint_Makes 𝓛 w64) n _ (refl, n-fits) $ fjoin ! $ owned ! O.the_row (Is O.the_row) (LL.makes O.the_type O'.the_plain 𝓛) (L.hot h) _ was $ fjoin ! $
          nothing ! $ move ! (2 ∷ 0 ∷ []) $ join ! $ join ! $ frame ! $ done !

      asks : n < 2 ^ 64 → m < 2 ^ 32 → Is D h (vals h) → ent 𝓤 (⋆ 𝓛 ((‵ Bytes ⊛ ‵ Acts) ∷ ‵ (flft κ' q') ∷ ‵ (flft κ'' q'') ∷ [])) (Steps.pre to)
      asks n-fits m-fits was =
          qed 𝓛 ((‵ Bytes ⊛ ‵ Acts) ∷ ‵ (flft κ' q') ∷ ‵ (flft κ'' q'') ∷ []) ∵ split ! $ nothing ! $ move ! (2 ∷ 0 ∷ []) $ fjoin ! $ move ! (1 ∷ 0 ∷ []) $ fjoin ! $
          owned ! u64 (Is u64) (uint_Makes 𝓛 w64) n _ (refl, n-fits) $ fjoin ! $ owned ! u32 (Is u32) (uint_Makes 𝓛 w32) m _ (refl, m-fits) $ fjoin ! $
          owned ! D (Is D) (L'.makes 𝓛) h _ was $ fjoin ! $
          nothing ! $ move ! (3 ∷ 0 ∷ []) $ join ! $ move ! (2 ∷ 0 ∷ []) $ join ! $ join ! $ frame ! $ done !

      -- a slice that is still owned, given up
      gives_up : ent 𝓤 (sem 𝓛 Acts) (sem 𝓛 (Gave x.now))
      gives_up =
          qed 𝓛 (‵ Acts ∷ []) ∵ fsplit ! $ move ! (1 ∷ []) $ fsplit ! $ use1 𝓛 (‵ (fres x.ghost_name ((coded_holeys u64).code (heres u64 x.now)))) (𝓛.names.obs-res x.ghost_name ((coded_holeys u64).code (heres u64 x.now))) $
          use1 𝓛 (‵ (finally u64 x.ghost_name x.now)) (res-finally 𝓛 (named 1) κ'' u64 x.ghost_name x.now) $ keep ! (0 ∷ 1 ∷ []) $ fjoin ! $ done !

      exits : n < 2 ^ 64 → m < 2 ^ 32 → (d : L.Denot) (t : Told) → Is K.the_row t (LL.vals K.the_type K'.the_laws t) → (zs : List ℕ) → length zs ≡ length x.now → (d ≡ R.device G) × (t ≡ R.told G) × (zs ≡ ws h m n s.now x.now)
          → ent 𝓤 (⋆ 𝓛 (‵ (fobs γ (D.coded.code d)) ∷ ‵ (fbor κ (Body (mem D) b o γ)) ∷ ‵ (flft κ q) ∷ (‵ (flft κ' q') ⊛ ‵ (flft κ'' q'') ⊛ ‵ ftrue) ∷ ‵ (Gave zs) ∷ ‵ Bytes ∷ [])) (Post (LL.val K.the_type K'.the_laws t))
      exits n-fits m-fits d t t-is zs l e =
          qed 𝓛 (‵ (fobs γ (D.coded.code d)) ∷ ‵ (fbor κ (Body (mem D) b o γ)) ∷ ‵ (flft κ q) ∷ (‵ (flft κ' q') ⊛ ‵ (flft κ'' q'') ⊛ ‵ ftrue) ∷ ‵ (Gave zs) ∷ ‵ Bytes ∷ []) ∵
          suffices ! _ (ends_at 𝓛 lent stayed sets (((κ, (κ', (κ'', tt))), (q, (q', (q'', tt))), tt, a, at), tt) (LL.val K.the_type K'.the_laws t) t (d, (tt, (tt, (tt, (zs, tt))))) (tt, (tt, (tt, (tt, (l, tt)))))) $
          says ! e $
          move ! (2 ∷ 3 ∷ []) $ join ! $ frame ! $
          -- [obs; the borrow; the last words; bytes]
          move ! (2 ∷ []) $ nothing ! $ move ! (1 ∷ 0 ∷ []) $ fjoin ! $ move ! (3 ∷ 0 ∷ []) $ fjoin ! $ owned ! u64 (Is u64) (uint_Makes 𝓛 w64) n _ (refl, n-fits) $ fjoin ! $ owned ! u32 (Is u32) (uint_Makes 𝓛 w32) m _ (refl, m-fits) $ fjoin ! $
          move ! (1 ∷ 2 ∷ []) $ feq_i ! (List Val) (vptr b o ∷ []) (vptr b o ∷ []) refl $ fjoin3 ! $ fjoin ! $ owned ! K.the_row (Is K.the_row) (LL.makes K.the_type K'.the_plain 𝓛) t _ t-is $ move ! (1 ∷ 0 ∷ []) $ done !

      value-fits : (r : Quick) (vs : List Val) → Is Q.the_row r vs → r.value < 2 ^ 32
      value-fits r vs is = (LL.owed Q.the_type Q'.the_laws r vs is).0.1

      telling : (r n c : ℕ) → r < 2 ^ 32 → n < 2 ^ 32 → c < 2 ^ 64 → Is K.the_row (tell r n c) (LL.vals K.the_type K'.the_laws (tell r n c))
      telling r n c r-fits n-fits c-fits = LL.owes K.the_type K'.the_laws (tell r n c) ((refl, r-fits), ((refl, n-fits), ((refl, c-fits), tt)))

      says-short : Law g ws gq → (r : Quick) → r ≡ gq (L.hot h) n s.now (length x.now) → r.done ≡ true
          → (L.bits h r.value ≡ R.device G) × (tell 0 0 0 ≡ R.told G) × (x.now ≡ ws h m n s.now x.now)
      says-short law r e y =
          let z = law h m n s.now x.now (sym (ap (λ (u : Quick). u.done) e) ∙ y) in (ap (λ (u : Quick). L.bits h u.value) e ∙ z.0, z.1, z.2)

      module _ (j k : Callee) (C : Calls 𝓤 H) (Λ : Loops 𝓤 H) (fm : FmC 𝓤 H 𝓛.laws C) (known-short : Triple 𝓤 (C j) Quicks) (known : Triple 𝓤 (C k) Steps) (law : Law g ws gq) where
        walk : n < 2 ^ 64 → m < 2 ^ 32 → Is (ShrSlice (named 1) κ' u8) s (sv ∷ []) → Room u64 (length x.now)
            → ent 𝓤 (on_entry 𝓛 lent.signature (κ, (κ', (κ'', tt))) (q, (q', (q'', tt))) a at) (WpFn 𝓤 H C Λ (code j k) (vptr b o ∷ vint w32 m ∷ vint w64 n ∷ sv ∷ xv ∷ []) Post)
        walk n-fits m-fits gs room =
            qed 𝓛 ((‵ (flft κ q) ⊛ (‵ (flft κ' q') ⊛ ‵ (flft κ'' q'') ⊛ ‵ ftrue)) ∷ ‵ (owns (MutRef (named 0) κ D ∷ u32 ∷ u64 ∷ ShrSlice (named 1) κ' u8 ∷ MutSlice (named 2) κ'' u64 ∷ []) a at) ∷ []) ∵ enter ! C Λ (code j k) (vptr b o ∷ vint w32 m ∷ vint w64 n ∷ sv ∷ xv ∷ []) _ $
            alloc1 ! (λ l₀. alloc1 ! (λ l₁. alloc1 ! (λ l₂. alloc1 ! (λ l₃. alloc1 ! (λ l₄. alloc1 ! (λ l₅. alloc1 ! (λ l₆. alloc1 ! (λ l₇. alloc1 ! (λ l₈. alloc1 ! (λ l₉. alloc1 ! (λ l₁₀. alloc1 ! (λ l₁₁. alloc1 ! (λ l₁₂. alloc1 ! (λ l₁₃. alloc1 ! (λ l₁₄. alloc1 ! (λ l₁₅. alloc0 ! $ params1 ! $
            pass1 ! (init ! 28 refl (tt, tt)) $ pass1 ! (init ! 26 refl (tt, record { fits = m-fits })) $ pass1 ! (init ! 24 refl (tt, record { fits = n-fits })) $ pass1 ! (init ! 22 refl ((shr_slice_Lawful 𝓛 (named 1) κ' u8).typed s (sv ∷ []) gs).0) $ pass1 ! (init ! 20 refl (tt, (tt, (record { fits = room.0 }, tt)))) $ pass0 ! $
            move ! (32 ∷ 33 ∷ []) $ split ! $ move ! (1 ∷ []) $ split ! $ move ! (1 ∷ []) $ split ! $ move ! (1 ∷ []) $ drop ! $
            move ! (3 ∷ []) $ fsplit ! $ move ! (1 ∷ []) $ fsplit ! $ drop ! $ fsplit ! $ drop ! $ fsplit ! $ move ! (1 ∷ []) $ fsplit ! $ move ! (1 ∷ []) $ drop ! $
            move ! (2 ∷ []) $ fsplit3 ! $ drop ! $ move ! (0 ∷ 1 ∷ 6 ∷ 3 ∷ 2 ∷ 5 ∷ 4 ∷ []) $
            opens ! tt D {h = h} b o (λ vs. spelt ! D (Is D) (shows 𝓛 D) vals L'.tells full_share h vs b o $
            move ! (1 ∷ []) $ peeks ! D (Is D) (shows 𝓛 D) h (vals h) (λ was. drop ! $ use1 𝓛 (‵ (fat full_share Dm b o (val h))) (𝓛.laws.raw_at full_share Dm b o _) $
            -- [cell; open; obs; auth; bytes; actions; κ'; κ'']
            assigns ! (of_opd ! (load ! (from ! (hop ! (look ! 36 refl) (fld ! refl (fld ! refl (stop !))))) (look_in ! 0 (sub ! 0 refl (sub ! 0 refl (whole !)))))) (from ! (stop !)) (init ! 22 refl ((LL.lawful O.the_type O'.the_laws 𝓛).typed (L.hot h) _ (L'.hot-is h was)).0) $
            assigns ! (of_opd ! (load ! (from ! (fld ! refl (stop !))) (look_in ! 28 (sub ! 1 refl (whole !))))) (from ! (stop !)) (init ! 20 refl (tt, record { fits = room.0 })) $
            move ! (4 ∷ []) $ use1 𝓛 (‵ Bytes ⊛ ‵ Bytes) ((shr_slice_copy 𝓛 (named 0) κ' u8 (uint_row_laws w8)).twice s (sv ∷ [])) $ split ! $ move ! (0 ∷ 7 ∷ []) $ use2 𝓛 (raw (Quicks.pre to-short)) (asks-short n-fits room.0 (L'.hot-is h was)) $
            -- [pre; bytes; cell; open; obs; auth; actions; κ'']
            calls_at ! fm Quicks known-short to-short (and_then ! (load ! (from ! (stop !)) (look ! 22 refl)) (and_then ! (load ! (from ! (stop !)) (look ! 32 refl)) (and_then ! (load ! (from ! (stop !)) (look ! 30 refl)) (and_then ! (load ! (from ! (stop !)) (look ! 20 refl)) (no_more !))))) (λ w.
            use1 𝓛 (later (some (λ (r : Quick). ((‵ (flft κ' q') ⊛ ‵ ftrue) ⊛ ‵ ((Q.the_row).own_val r (w ∷ []))) ⊛ raw (ensured 𝓛 short.ended quicks (κ', tt) (L.hot h, (n, (s, (length x.now, tt)))) tt r)))) (id⊢ 𝓤 _) $ await ! tt $ pick ! (λ r.
            split ! $ move ! (1 ∷ []) $ use1 𝓛 (raw (fact 𝓤 (r ≡ gq (L.hot h) n s.now (length x.now)))) (ex_e 𝓤 _ (λ zs. snd∗ 𝓤 (sem 𝓛 (lasts short.ended (κ', tt) (L.hot h, (n, (s, (length x.now, tt)))) zs)) (fact 𝓤 (r ≡ gq (L.hot h) n s.now (length x.now))))) $ heard ! (r ≡ gq (L.hot h) n s.now (length x.now)) (λ e.
            split ! $ split ! $ move ! (1 ∷ []) $ drop ! $ move ! (1 ∷ []) $ peeks ! Q.the_row (Is Q.the_row) (shows 𝓛 Q.the_row) r (w ∷ []) (λ is. drop ! $
            -- [κ'; bytes; cell; open; obs; auth; actions; κ'']
            land ! (from ! (stop !)) (init ! 26 refl ((LL.lawful Q.the_type Q'.the_laws 𝓛).typed r _ is).0) $ rewrite ! 26 (λ (u : Val). ‵ (fat full_share Q'.mir l₆ 0 u)) (ap only (LL.tells Q.the_type Q'.the_laws r _ is)) refl $
            assigns ! (of_opd ! (load ! (from ! (fld ! refl (stop !))) (look_in ! 26 (sub ! 1 refl (whole !))))) (from ! (stop !)) (init ! 18 refl (tt, tt)) $
            first ! $ branches ! (load ! (from ! (stop !)) (look ! 18 refl))
            (λ done-so. assigns ! (of_opd ! (load ! (from ! (fld ! refl (stop !))) (look_in ! 26 (sub ! 0 refl (whole !))))) (from ! (stop !)) (init ! 16 refl (tt, record { fits = value-fits r _ is })) $
            assigns ! (of_opd ! (load ! (from ! (stop !)) (look ! 16 refl))) (from ! (hop ! (look ! 36 refl) (fld ! refl (fld ! refl (fld ! refl (stop !)))))) (store_in ! 2 (sub ! 1 refl (sub ! 0 refl (sub ! 0 refl (whole !)))) (tt, record { fits = value-fits r _ is })) $
            assigns ! (agg ! (and_then ! (lit ! tt) (and_then ! (lit ! tt) (and_then ! (lit ! tt) (no_more !))))) (from ! (stop !)) (init ! 38 refl ((LL.lawful K.the_type K'.the_laws 𝓛).typed (tell 0 0 0) _ (telling 0 0 0 (lit< tt) (lit< tt) (lit< tt))).0) $
            rewrite ! 2 (λ (u : Hot). ‵ (fat full_share Dm b o (vstruct (vcons (vstruct (vcons (LL.val O.the_type O'.the_laws u) (shape.others L h))) vnil)))) (sym (L'.bits-hot h r.value)) refl $ rewrite ! 2 (λ (u : Vals). ‵ (fat full_share Dm b o (vstruct (vcons (vstruct (vcons (LL.val O.the_type O'.the_laws (L.hot (L.bits h r.value))) u)) vnil)))) (sym (L'.bits-others h r.value)) refl $
            owned ! D (Is D) (L'.makes 𝓛) (L.bits h r.value) _ (L'.bits_is h r.value (value-fits r _ is) was) $ move ! (3 ∷ 0 ∷ 4 ∷ 5 ∷ 6 ∷ []) $ use1 𝓛 (‵ (fat full_share (raw_ty Dm) b o (val (L.bits h r.value)))) (𝓛.laws.at_raw full_share Dm b o _) $ closes ! tt D (L.bits h r.value) (vals (L.bits h r.value)) b o $
            -- [obs; bor; κ; κ'; bytes; actions; κ'']
            returns_within ! Post refl (look ! 37 refl) $ forget ! 15 refl $ forget ! 17 refl $ forget ! 19 refl $ forget ! 21 refl $ forget ! 25 refl $ forget ! 27 refl $ forget ! 29 refl $ forget ! 31 refl $ forget ! 33 refl $ forget ! 35 refl $ forget ! 37 refl $
            move ! (37 ∷ 38 ∷ []) $ free1 ! $ move ! (35 ∷ 36 ∷ []) $ free1 ! $ move ! (33 ∷ 34 ∷ []) $ free1 ! $ move ! (31 ∷ 32 ∷ []) $ free1 ! $ move ! (29 ∷ 30 ∷ []) $ free1 ! $ move ! (27 ∷ 28 ∷ []) $ free1 ! $ move ! (25 ∷ 26 ∷ []) $ free1 ! $ move ! (23 ∷ 24 ∷ []) $ free1 ! $ move ! (21 ∷ 22 ∷ []) $ free1 ! $ move ! (19 ∷ 20 ∷ []) $ free1 ! $ move ! (17 ∷ 18 ∷ []) $ free1 ! $ move ! (15 ∷ 16 ∷ []) $ free1 ! $ move ! (13 ∷ 14 ∷ []) $ free1 ! $ move ! (11 ∷ 12 ∷ []) $ free1 ! $ move ! (9 ∷ 10 ∷ []) $ free1 ! $ move ! (7 ∷ 8 ∷ []) $ free1 ! $ free0 ! $
            move ! (5 ∷ []) $ use1 𝓛 (‵ (Gave x.now)) gives_up $ nothing ! $ move ! (7 ∷ 0 ∷ []) $ join ! $ move ! (5 ∷ 0 ∷ []) $ join ! $
            move ! (2 ∷ 3 ∷ 4 ∷ 0 ∷ 1 ∷ 5 ∷ []) $ keep ! (0 ∷ 1 ∷ 2 ∷ 3 ∷ 4 ∷ 5 ∷ []) $ by ! (exits n-fits m-fits (L.bits h r.value) (tell 0 0 0) (telling 0 0 0 (lit< tt) (lit< tt) (lit< tt)) x.now refl (says-short law r e (is_true r.done done-so))))
            (λ not_so. skips ! $ exec ! C Λ ((K'.mir, l₀) ∷ (ty_ref (named 0) mut (pointee L.written), l₁) ∷ (ty_int w32, l₂) ∷ (ty_int w64, l₃) ∷ (slice_ty (ty_ref (named 1) imm (ty_int w8)), l₄) ∷ (slice_ty (ty_ref (named 2) mut (ty_int w64)), l₅) ∷ (Q'.mir, l₆) ∷ (shape.wrote-mir L R, l₇) ∷ (O'.mir, l₈) ∷ (ty_int w64, l₉) ∷ (ty_bool, l₁₀) ∷ (ty_int w32, l₁₁) ∷ (Dm, l₁₂) ∷ (ty_ref erased mut (ty_int w64), l₁₃) ∷ (slice_ty (ty_ref erased mut (ty_int w64)), l₁₄) ∷ (Dm, l₁₅) ∷ []) (tail k) (at_ret ((K'.mir, l₀) ∷ (ty_ref (named 0) mut (pointee L.written), l₁) ∷ (ty_int w32, l₂) ∷ (ty_int w64, l₃) ∷ (slice_ty (ty_ref (named 1) imm (ty_int w8)), l₄) ∷ (slice_ty (ty_ref (named 2) mut (ty_int w64)), l₅) ∷ (Q'.mir, l₆) ∷ (shape.wrote-mir L R, l₇) ∷ (O'.mir, l₈) ∷ (ty_int w64, l₉) ∷ (ty_bool, l₁₀) ∷ (ty_int w32, l₁₁) ∷ (Dm, l₁₂) ∷ (ty_ref erased mut (ty_int w64), l₁₃) ∷ (slice_ty (ty_ref erased mut (ty_int w64)), l₁₄) ∷ (Dm, l₁₅) ∷ []) Post) $
            assigns ! (of_opd ! (load ! (from ! (hop ! (look ! 36 refl) (stop !))) (look ! 2 refl))) (from ! (stop !)) (init ! 14 refl ((L'.lawful 𝓛).typed h _ was).0) $
            assigns ! (addr ! (from ! (fld ! refl (hop ! (look_in ! 28 (sub ! 0 refl (whole !))) (stop !))))) (from ! (stop !)) (init ! 12 refl (tt, tt)) $
            assigns ! (agg ! (and_then ! (load ! (from ! (stop !)) (look ! 12 refl)) (and_then ! (load ! (from ! (fld ! refl (stop !))) (look_in ! 28 (sub ! 1 refl (whole !)))) (no_more !)))) (from ! (stop !)) (init ! 10 refl (tt, (tt, (record { fits = room.0 }, tt)))) $
            move ! (1 ∷ []) $ use1 𝓛 (‵ Bytes ⊛ ‵ Bytes) ((shr_slice_copy 𝓛 (named 0) κ' u8 (uint_row_laws w8)).twice s (sv ∷ [])) $ split ! $ move ! (0 ∷ 7 ∷ []) $ join ! $ move ! (0 ∷ 2 ∷ 7 ∷ []) $ use3 𝓛 (raw (Steps.pre to)) (asks n-fits m-fits was) $
            -- [pre; bytes; cell; open; obs; auth]
            calls_at ! fm Steps known to (and_then ! (load ! (from ! (stop !)) (look ! 12 refl)) (and_then ! (load ! (from ! (stop !)) (look ! 32 refl)) (and_then ! (load ! (from ! (stop !)) (look ! 30 refl)) (and_then ! (load ! (from ! (stop !)) (look ! 28 refl)) (and_then ! (load ! (from ! (stop !)) (look ! 8 refl)) (no_more !)))))) (λ v.
            use1 𝓛 (later (some (λ (r : R.Denot). ((‵ (flft κ' q') ⊛ ‵ (flft κ'' q'') ⊛ ‵ ftrue) ⊛ ‵ ((shape.wrote-row L R).own_val r (v ∷ []))) ⊛ raw (ensured 𝓛 long steps (κ', (κ'', tt)) (h, (m, (n, (s, (x, tt))))) tt r)))) (id⊢ 𝓤 _) $ await ! tt $ pick ! (λ r.
            split ! $ move ! (1 ∷ []) $ use1 𝓛 (some (λ (zs : Last (L.exit yes) h × (Unit {0} × (Unit {0} × (Unit {0} × (List ℕ × Unit {0}))))). ‵ (lasts long (κ', (κ'', tt)) (h, (m, (n, (s, (x, tt))))) zs) ⊛ raw (fact 𝓤 ((r ≡ G) × (zs.1.1.1.1.0 ≡ ws h m n s.now x.now))))) (id⊢ 𝓤 _) $ pick ! (λ zs.
            split ! $ move ! (1 ∷ []) $ heard ! ((r ≡ G) × (zs.1.1.1.1.0 ≡ ws h m n s.now x.now)) (λ e.
            fsplit ! $ drop ! $ fsplit ! $ drop ! $ fsplit ! $ drop ! $ fsplit ! $ drop ! $ fsplit ! $ fsplit ! $ fsplit ! $ move ! (1 ∷ []) $ feq_l ! (λ l. fjoin ! $
            move ! (2 ∷ []) $ split ! $ move ! (1 ∷ []) $ peeks ! (shape.wrote-row L R) (Is (shape.wrote-row L R)) (shows 𝓛 (shape.wrote-row L R)) r (v ∷ []) (λ is.
            -- [own; kts; fin; t; bytes; cell; open; obs; auth]
            land ! (from ! (stop !)) (init ! 25 refl ((R'.lawful 𝓛).typed r _ is).0) $ rewrite ! 25 (λ (u : Val). ‵ (fat full_share (shape.wrote-mir L R) l₇ 0 u)) (ap only (R'.tells r _ is)) refl $
            assigns ! (of_opd ! (load ! (from ! (fld ! refl (stop !))) (look_in ! 25 (sub ! 1 refl (whole !))))) (from ! (stop !)) (init ! 9 refl ((L'.lawful 𝓛).typed (R.device r) _ (R'.device-is r _ is)).0) $
            assigns ! (of_opd ! (load ! (from ! (stop !)) (look ! 9 refl))) (from ! (hop ! (look ! 37 refl) (stop !))) (store ! 5 refl ((L'.lawful 𝓛).typed (R.device r) _ (R'.device-is r _ is)).0) $
            assigns ! (of_opd ! (load ! (from ! (fld ! refl (stop !))) (look_in ! 25 (sub ! 0 refl (whole !))))) (from ! (stop !)) (init ! 39 refl ((LL.lawful K.the_type K'.the_laws 𝓛).typed (R.told r) _ (R'.told_is r _ is)).0) $
            owned ! D (Is D) (L'.makes 𝓛) (R.device r) _ (R'.device-is r _ is) $ move ! (6 ∷ 0 ∷ 7 ∷ 8 ∷ 9 ∷ []) $ use1 𝓛 (‵ (fat full_share (raw_ty Dm) b o (val (R.device r)))) (𝓛.laws.at_raw full_share Dm b o _) $ closes ! tt D (R.device r) (vals (R.device r)) b o $
            returns ! (look ! 38 refl) $ forget ! 8 refl $ forget ! 10 refl $ forget ! 12 refl $ forget ! 14 refl $ forget ! 18 refl $ forget ! 20 refl $ forget ! 22 refl $ forget ! 24 refl $ forget ! 26 refl $ forget ! 28 refl $ forget ! 30 refl $ forget ! 32 refl $ forget ! 34 refl $ forget ! 36 refl $ forget ! 38 refl $
            move ! (38 ∷ 39 ∷ []) $ free1 ! $ move ! (36 ∷ 37 ∷ []) $ free1 ! $ move ! (34 ∷ 35 ∷ []) $ free1 ! $ move ! (32 ∷ 33 ∷ []) $ free1 ! $ move ! (30 ∷ 31 ∷ []) $ free1 ! $ move ! (28 ∷ 29 ∷ []) $ free1 ! $ move ! (26 ∷ 27 ∷ []) $ free1 ! $ move ! (24 ∷ 25 ∷ []) $ free1 ! $ move ! (22 ∷ 23 ∷ []) $ free1 ! $ move ! (20 ∷ 21 ∷ []) $ free1 ! $ move ! (18 ∷ 19 ∷ []) $ free1 ! $ move ! (16 ∷ 17 ∷ []) $ free1 ! $ move ! (14 ∷ 15 ∷ []) $ free1 ! $ move ! (12 ∷ 13 ∷ []) $ free1 ! $ move ! (10 ∷ 11 ∷ []) $ free1 ! $ move ! (8 ∷ 9 ∷ []) $ free1 ! $ free0 ! $
            keep ! (0 ∷ 1 ∷ 2 ∷ 4 ∷ 5 ∷ 7 ∷ []) $ by ! (exits n-fits m-fits (R.device r) (R.told r) (R'.told_is r _ is) zs.1.1.1.1.0 l (ap R.device e.0, ap R.told e.0, e.1)))))))))))))))))))))))))))))))

    pub meets : (j k : Callee) (𝓣 : Tables 𝓤 H) → Triple 𝓤 (𝓣.C j) Quicks → Triple 𝓤 (𝓣.C k) Steps → Law g ws gq → Meets 𝓛 lent.signature (WpFn 𝓤 H 𝓣.C 𝓣.Λ (code j k)) (closing 𝓛 lent sets)
    meets j k 𝓣 known-short known law = walk_Meets 𝓛 lent stayed
        (Goes-ref 𝓛 3 0 tt (plain (λ _. D)), (Goes-none 𝓛 3 (λ _. u32) yes (λ κs x f. refl), (Goes-none 𝓛 3 (λ _. u64) yes (λ κs x f. refl), (Goes-none_slice 𝓛 3 (1 ∷ []) tt (plain (λ _. u8)) yes, (Goes-gave_slice 𝓛 3 2 tt (plain (λ _. u64)), tt))))) sets
        (WpFn 𝓤 H 𝓣.C 𝓣.Λ (code j k)) (WpFn-mono 𝓤 H 𝓛.laws 𝓣 (code j k))
        (walked 𝓛 lent stayed sets (WpFn 𝓤 H 𝓣.C 𝓣.Λ (code j k)) (λ κs. (mut_vals, (uint_vals w32, (uint_vals w64, (shr_slice_vals, (mut_slice_vals, tt))))))
        (λ κs. (mut_Tells (named 0) κs.0 D, (uint_Tells w32, (uint_Tells w64, (shr_slice_Tells (named 1) κs.1.0 u8, (mut_slice_Tells (named 2) κs.1.1.0 u64, tt))))))
        (λ κs qs bounds a _ are. via 𝓤 _ (fst∗ 𝓤 _ (emp 𝓤)) (walk κs.0 κs.1.0 κs.1.1.0 qs.0 qs.1.0 qs.1.1.0 a.0.ref_ptr.0 a.0.ref_ptr.1 a.0.ghost_name a.0.now a.1.0 a.1.1.0 a.1.1.1.0 a.1.1.1.1.0 j k 𝓣.C 𝓣.Λ (fm_of 𝓤 H 𝓛.laws 𝓣) known-short known law
        are.1.1.0.1 are.1.0.1 are.1.1.1.0 are.1.1.1.1.0.0.1)))

  -- the export's theorem, from those of the two functions
  pub spec : (g : Step) (ws : Words) (gq : Fast) → Law g ws gq → (key j k : Callee) (env : Env) (rj rk : Routine) → env j ≡ rj → env k ≡ rk
      → {M : Type 1} {𝓤 : Ura M} (𝓛 : Logic 𝓤) (𝓜 : Model 𝓤 𝓛.H) (𝓡 : Running 𝓤 𝓛.H 𝓜)
      → Closed 𝓤 𝓛.H (tables 𝓤 𝓛.H 𝓜 𝓡 env).C (tables 𝓤 𝓛.H 𝓜 𝓡 env).Λ key (code j k) → Triple 𝓤 (𝓡.run rj) (Quicks g ws gq 𝓛) → Triple 𝓤 (𝓡.run rk) (Steps g ws gq 𝓛)
      → Meets 𝓛 lent.signature (𝓡.run (env key)) (closing 𝓛 lent (sets g ws gq 𝓛))
  unfolding tables_of
  spec g ws gq law key j k env rj rk calls-j calls-k {𝓤 = 𝓤} 𝓛 𝓜 𝓡 opened met-j met-k =
      entered 𝓤 𝓛.H (triple_of 𝓛 lent.signature (closing 𝓛 lent (sets g ws gq 𝓛))) (tables 𝓤 𝓛.H 𝓜 𝓡 env).C (tables 𝓤 𝓛.H 𝓜 𝓡 env).Λ key (code j k) opened
      (meets g ws gq 𝓛 j k (tables_of 𝓤 𝓛.H 𝓜 (tables 𝓤 𝓛.H 𝓜 𝓡 env)) (cited 𝓤 𝓛.H (Quicks g ws gq 𝓛) 𝓜 𝓡 env j rj calls-j met-j) (cited 𝓤 𝓛.H (Steps g ws gq 𝓛) 𝓜 𝓡 env k rk calls-k met-k) law)
