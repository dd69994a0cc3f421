-- `dewbracket_read`: a polled register, then the selected queue's word, then the whole device through `full_read`. A walk of its
-- code, once, over any device that begins as `Shape.antt` says. The device is looked at through a share of it, and stays.
use mathlib.Core.Path.{◌≡◌, refl, ap, sym, subst, ◌∙◌}
use Prim.Native.Nat.{ℕ, ◌<◌, ◌^◌}
use mathlib.Core.List.{[], ◌∷◌, List}
use mathlib.Core.Bool.{true}
use lib.ListN.{length}
use seplogic.Ra.Ura.{Ura}
use base.Fraction.{full_share}
use mir.Syntax.{Callee, Fn, Ty, Body as Code, ty_bool, cond, skip, local, value_local, named, erased, mut, imm, w8, w32, w64, ty_int, ty_ref, ty_array, place, deref, field, copy, rv_opd, addr_of, aggregate, assign, call, seq, return}
use mir.Val.{Val, vint, vptr}
use mir.Raw.{raw as raw_ty}
use base.Logic.{SProp, ent, emp, via, fst∗, snd∗, ex_e, id⊢}
use base.Fml.{Lft, Share, Fml, ftrue, fsep, flft, fres, fbor, fat}
use prog.Wp.{Calls, Loops, WpFn, Tables, Closed}
use prog.Model.{Model}
use prog.Routine.{Routine, Env}
use types.Logic.{Logic, sem}
use contract.Monad.{fact}
use contract.Running.{Running, tables, tables_of}
use types.Kit.{at_ret, ‵, raw, ◌⊛◌, ⋆, some, later, ◌$◌, ◌∵◌, !, qed, by, move, keep, drop, use0, use1, use2, use3, split, join, pick, rewrite, fsplit, fjoin, feq_i, feq_l, suffices, frame, await, done}
use types.Run.{look, store, init, forget, stop, hop, fld, from, load, addr, of_opd, and_then, no_more, land, assigns, first, skips, branches, exec, returns_within, returns, enter, alloc1, alloc0, params1, pass1, pass0, free1, free0}
use types.Part.{whole, sub, look_in, agg}
use types.SemTy.{Body, Arr}
use types.Hole.{Holey}
use sound.WpLaws.{FmC, fm_of, WpFn-mono}
use denote.RattleType.{RattleType, owns}
use denote.Laws.{Is, shows}
use denote.Memory.{hidden_shr, mem, pointee}
use denote.Array.{Array, Array-Makes}
use denote.Plain.{uint_vals, uint_Tells, uint_Makes}
use denote.Builtin.{u8, u32, u64, usize, RefOf, SliceRefMutOf}
use denote.Ref.{Bor, MutBor, shr_vals, ShrRef, shr_Tells}
use denote.Slice.{slice_val, slice_ty, MutSlice, Room, finally, res-finally, coded_holeys, heres, mut_slice_vals, mut_slice_Tells}
use denote.Signature.{plain}
use denote.Steps.{only, looks, shuts, owned, peeks, heard, nothing}
use denote.Struct.Steps.{spelt}
use denote.Struct.Laws as LL
use denote.Triple.Entry.{on_entry, Vals as Entries}
use denote.Triple.Spec.{Meets, triple_of}
use denote.Triple.Statement.{Contract, Triple}
use denote.Triple.Call.{calls_at}
use denote.Triple.Table.{entered, cited}
use denote.Triple.Clauses.{Ended, Clauses, closing, ensured, lasts}
use denote.Triple.Walked.{says, Stays, stay_none_ref, stay_none, gave_slice, walk_of, Goes-none_ref, Goes-none, Goes-gave_slice, ends_at, walked, walk_Meets}
use denote.Exit.{Last, yes}
use Rattle.mmio_hot.specs.declared.Hot.{Hot}
use Rattle.mmio_hot.specs.contracts.Hot as O
use Rattle.mmio_hot.proofs.Hot.TheLaws as O'
use Rattle.mmio_fast.specs.Tell.{tell}
use Rattle.mmio_fast.specs.declared.Told.{Told}
use Rattle.mmio_fast.specs.declared.Quick.{Quick}
use Rattle.mmio_fast.specs.contracts.Told as K
use Rattle.mmio_fast.proofs.Told.TheLaws as K'
use Rattle.mmio_fast.specs.contracts.Quick as Q
use Rattle.mmio_fast.proofs.Quick.TheLaws as Q'
use Rattle.words.specs.Bytes.{write_le}
use Rattle.virtq.specs.declared.Queue.{Queue}
use Rattle.virtq.specs.contracts.Queue as U
use Rattle.virtq.proofs.Queue.TheLaws as U'
use Rattle.mmio_fast.specs.contracts.quick_read as short
use Rattle.mmio_fast.specs.contracts.quick_ready as table
use Rattle.mmio_fast.specs.contracts.give as give
use Rattle.mmio_lent.proofs.Shape as shape
use Rattle.mmio_lent.proofs.Shape.{hots, Lent, is_true}

module _ (L : Lent) (L' : shape.Laws L) where
  abbrev D : RattleType
  D = shape.row L

  abbrev Dm : Ty
  Dm = shape.lies L

  abbrev vals : L.Denot → List Val
  vals = shape.vals L

  abbrev val : L.Denot → Val
  val = shape.val L

  -- the signatures of the export and of the long function
  abbrev pub lent : Ended
  lent =
      record {
        signature = record { lifetimes = 3; outlives = []; params = RefOf (0 ∷ []) tt (plain (λ κs. D)) (λ κs. tt) ∷ plain (λ κs. u32) ∷ plain (λ κs. u64) ∷ SliceRefMutOf (1 ∷ []) tt (plain (λ κs. u8)) (λ κs. tt) ∷ SliceRefMutOf (2 ∷ []) tt (plain (λ κs. u64)) (λ κs. tt) ∷ []; result = plain (λ κs. K.the_row) };
        kept = (yes, (yes, (yes, (yes, (yes, tt)))));
      }

  abbrev pub long : Ended
  long =
      record {
        signature = record { lifetimes = 2; outlives = []; params = plain (λ κs. D) ∷ plain (λ κs. u32) ∷ plain (λ κs. u64) ∷ SliceRefMutOf (0 ∷ []) tt (plain (λ κs. u8)) (λ κs. tt) ∷ SliceRefMutOf (1 ∷ []) tt (plain (λ κs. u64)) (λ κs. tt) ∷ []; result = plain (λ κs. K.the_row) };
        kept = (yes, (yes, (yes, (yes, (yes, tt)))));
      }

  abbrev stayed : Stays lent.signature.params lent.kept
  stayed = (stay_none_ref (0 ∷ []) tt (plain (λ _. D)) yes, (stay_none (λ _. u32) yes, (stay_none (λ _. u64) yes, (gave_slice (1 ∷ []) tt (plain (λ _. u8)), (gave_slice (2 ∷ []) tt (plain (λ _. u64)), tt)))))

  -- the code, with the keys of what it calls: the end, what follows the first branch, and the whole
  abbrev ending : Callee → Code
  ending k =
      seq (assign (place 18 []) (rv_opd (copy (place 1 (deref Dm ∷ []))))) (
      seq (assign (place 19 []) (addr_of (place 4 (field 0 ∷ deref (ty_int w8) ∷ [])))) (
      seq (assign (place 20 []) (aggregate (copy (place 19 []) ∷ copy (place 4 (field 1 ∷ [])) ∷ []))) (
      seq (assign (place 21 []) (addr_of (place 5 (field 0 ∷ deref (ty_int w64) ∷ [])))) (
      seq (assign (place 22 []) (aggregate (copy (place 21 []) ∷ copy (place 5 (field 1 ∷ [])) ∷ []))) (
      seq (call k (copy (place 18 []) ∷ copy (place 2 []) ∷ copy (place 3 []) ∷ copy (place 20 []) ∷ copy (place 22 []) ∷ []) (place 0 [])) return)))))

  abbrev middle : Callee → Callee → Callee → Code
  middle t v k =
      seq (assign (place 10 []) (rv_opd (copy (place 1 (deref Dm ∷ field 0 ∷ field 1 ∷ field 8 ∷ []))))) (
      seq (assign (place 11 []) (rv_opd (copy (place 1 (deref Dm ∷ field 0 ∷ field 4 ∷ []))))) (
      seq (call t (copy (place 6 []) ∷ copy (place 10 []) ∷ copy (place 11 []) ∷ copy (place 3 []) ∷ copy (place 7 []) ∷ copy (place 8 []) ∷ []) (place 12 [])) (
      seq (assign (place 13 []) (rv_opd (copy (place 12 (field 1 ∷ []))))) (
      seq (cond (copy (place 13 [])) (
      seq (assign (place 16 []) (addr_of (place 4 (field 0 ∷ deref (ty_int w8) ∷ [])))) (
      seq (assign (place 17 []) (aggregate (copy (place 16 []) ∷ copy (place 4 (field 1 ∷ [])) ∷ []))) (
      seq (call v (copy (place 17 []) ∷ copy (place 12 (field 0 ∷ [])) ∷ []) (place 0 [])) return))) skip) (ending k)))))

  abbrev pub code : Callee → Callee → Callee → Callee → Fn
  code j t v k =
      record {
        lifetimes = 3;
        outlives = [];
        ty_params = [];
        givens = 0;
        params = 5;
        locals = local K'.mir value_local ∷ local (ty_ref (named 0) imm (pointee L.written)) value_local ∷ local (ty_int w32) value_local ∷ local (ty_int w64) value_local ∷ local (slice_ty (ty_ref (named 1) mut (ty_int w8))) value_local ∷ local (slice_ty (ty_ref (named 2) mut (ty_int w64))) value_local ∷ local O'.mir value_local ∷ local (ty_int w64) value_local ∷ local (ty_int w64) value_local ∷ local Q'.mir value_local ∷ local (ty_int w32) value_local ∷ local (ty_array U'.mir 16) value_local ∷ local Q'.mir value_local ∷ local ty_bool value_local ∷ local (ty_ref erased mut (ty_int w8)) value_local ∷ local (slice_ty (ty_ref erased mut (ty_int w8))) value_local ∷ local (ty_ref erased mut (ty_int w8)) value_local ∷ local (slice_ty (ty_ref erased mut (ty_int w8))) value_local ∷ local Dm value_local ∷ local (ty_ref erased mut (ty_int w8)) value_local ∷ local (slice_ty (ty_ref erased mut (ty_int w8))) value_local ∷ local (ty_ref erased mut (ty_int w64)) value_local ∷ local (slice_ty (ty_ref erased mut (ty_int w64))) value_local ∷ [];
        body =
            seq (assign (place 6 []) (rv_opd (copy (place 1 (deref Dm ∷ field 0 ∷ field 0 ∷ []))))) (
            seq (assign (place 7 []) (rv_opd (copy (place 4 (field 1 ∷ []))))) (
            seq (assign (place 8 []) (rv_opd (copy (place 5 (field 1 ∷ []))))) (
            seq (call j (copy (place 6 []) ∷ copy (place 3 []) ∷ copy (place 7 []) ∷ copy (place 8 []) ∷ []) (place 9 [])) (
            seq (assign (place 13 []) (rv_opd (copy (place 9 (field 1 ∷ []))))) (
            seq (cond (copy (place 13 [])) (
            seq (assign (place 14 []) (addr_of (place 4 (field 0 ∷ deref (ty_int w8) ∷ [])))) (
            seq (assign (place 15 []) (aggregate (copy (place 14 []) ∷ copy (place 4 (field 1 ∷ [])) ∷ []))) (
            seq (call v (copy (place 15 []) ∷ copy (place 9 (field 0 ∷ [])) ∷ []) (place 0 [])) return))) skip) (middle t v k))))));
      }

  -- what is told, the lent bytes at the end and the lent words at the end, by outcome number, offset, bytes and words
  abbrev pub Tells : Type 0
  Tells = L.Denot → ℕ → ℕ → ℕ → ℕ → Told

  abbrev pub Replies : Type 0
  Replies = L.Denot → ℕ → ℕ → List ℕ → ℕ → List ℕ

  abbrev pub Words : Type 0
  Words = L.Denot → ℕ → ℕ → ℕ → List ℕ → List ℕ

  abbrev pub Polls : Type 0
  Polls = Hot → ℕ → ℕ → ℕ → Quick

  abbrev pub Readies : Type 0
  Readies = Hot → ℕ → List Queue → ℕ → ℕ → ℕ → Quick

  -- where a short function is done, what it shows is the long one's
  abbrev pub Law : Tells → Replies → Words → (L.Denot → ℕ → ℕ → ℕ → Quick) → Type 0
  Law gt gr ws gq = (h : L.Denot) (m n : ℕ) (y x : List ℕ) → (gq h n (length y) (length x)).done ≡ true
      → (tell 0 4 0 ≡ gt h m n (length y) (length x)) × (write_le 4 y (gq h n (length y) (length x)).value ≡ gr h m n y (length x)) × (x ≡ ws h m n (length y) x)

  abbrev pub by-hot : Polls → L.Denot → ℕ → ℕ → ℕ → Quick
  by-hot gq h = gq (L.hot h)

  abbrev pub by-table : Readies → L.Denot → ℕ → ℕ → ℕ → Quick
  by-table gy h = gy (L.hot h) (L.config h).count (L.queues h)

  module _ (gt : Tells) (gr : Replies) (ws : Words) (gq : Polls) (gy : Readies) {M : Type 1} {𝓤 : Ura M} (𝓛 : Logic 𝓤) where
    open 𝓛 use {H}

    abbrev pub sets : Clauses 𝓤 lent
    sets κs a =
        record {
          ghost = Unit {0};
          requires = λ _. emp 𝓤;
          ensures = λ _ r e. fact 𝓤 ((r ≡ gt a.0.now a.1.0 a.1.1.0 (length a.1.1.1.0.now) (length a.1.1.1.1.0.now)) × (e.1.1.1.0.now ≡ gr a.0.now a.1.0 a.1.1.0 a.1.1.1.0.now (length a.1.1.1.1.0.now))
              × (e.1.1.1.1.0.now ≡ ws a.0.now a.1.0 a.1.1.0 (length a.1.1.1.0.now) a.1.1.1.1.0.now));
        }

    abbrev pub steps : Clauses 𝓤 long
    steps κs a =
        record {
          ghost = Unit {0};
          requires = λ _. emp 𝓤;
          ensures = λ _ r e. fact 𝓤 ((r ≡ gt a.0 a.1.0 a.1.1.0 (length a.1.1.1.0.now) (length a.1.1.1.1.0.now)) × (e.1.1.1.0.now ≡ gr a.0 a.1.0 a.1.1.0 a.1.1.1.0.now (length a.1.1.1.1.0.now))
              × (e.1.1.1.1.0.now ≡ ws a.0 a.1.0 a.1.1.0 (length a.1.1.1.0.now) a.1.1.1.1.0.now));
        }

    abbrev pub polls : Clauses 𝓤 short.ended
    polls κs a = record { ghost = Unit {0}; requires = λ _. emp 𝓤; ensures = λ _ r e. fact 𝓤 (r ≡ gq a.0 a.1.0 a.1.1.0 a.1.1.1.0) }

    abbrev pub readies : Clauses 𝓤 table.ended
    readies κs a = record { ghost = Unit {0}; requires = λ _. emp 𝓤; ensures = λ _ r e. fact 𝓤 (r ≡ gy a.0 a.1.0 a.1.1.0 a.1.1.1.0 a.1.1.1.1.0 a.1.1.1.1.1.0) }

    abbrev pub given : Clauses 𝓤 give.ended
    given κs a = record { ghost = Unit {0}; requires = λ _. emp 𝓤; ensures = λ _ r e. fact 𝓤 ((r ≡ tell 0 4 0) × (e.0.now ≡ write_le 4 a.0.now a.1.0)) }

    abbrev pub Steps : Contract 𝓤
    Steps = triple_of 𝓛 long.signature (closing 𝓛 long steps)

    abbrev pub Asked : Contract 𝓤
    Asked = triple_of 𝓛 short.signature (closing 𝓛 short.ended polls)

    abbrev pub Looked : Contract 𝓤
    Looked = triple_of 𝓛 table.signature (closing 𝓛 table.ended readies)

    abbrev pub Gives : Contract 𝓤
    Gives = triple_of 𝓛 give.signature (closing 𝓛 give.ended given)

    module _ (κ κ' κ'' : Lft) (q q' q'' : Share) (b o : ℕ) (h : L.Denot) (m n : ℕ) (y x : MutBor (List ℕ)) where
      abbrev a : Bor L.Denot × (ℕ × (ℕ × (MutBor (List ℕ) × (MutBor (List ℕ) × Unit {0}))))
      a = (record { ref_ptr = (b, o); now = h }, (m, (n, (y, (x, tt)))))

      abbrev yv : Val
      yv = slice_val y.ref_ptr (length y.now)

      abbrev xv : Val
      xv = slice_val x.ref_ptr (length x.now)

      abbrev at : Entries lent.signature (κ, (κ', (κ'', tt)))
      at = (vptr b o ∷ [], (vint w32 m ∷ [], (vint w64 n ∷ [], (yv ∷ [], (xv ∷ [], tt)))))

      abbrev Post : Val → SProp 𝓤
      Post = (walk_of 𝓛 lent stayed sets).post (((κ, (κ', (κ'', tt))), (q, (q', (q'', tt))), tt, a, at), tt)

      abbrev Reply : Fml
      Reply = (MutSlice (named 0) κ' u8).own_val y (yv ∷ [])

      abbrev Acts : Fml
      Acts = (MutSlice (named 1) κ'' u64).own_val x (xv ∷ [])

      abbrev told : Told
      told = gt h m n (length y.now) (length x.now)

      abbrev ys : List ℕ
      ys = gr h m n y.now (length x.now)

      abbrev xs : List ℕ
      xs = ws h m n (length y.now) x.now

      -- the bytes and the words given up: what says their last values, and the borrow, closed
      abbrev GaveReply : List ℕ → Fml
      GaveReply zs = fsep (finally u8 y.ghost_name zs) (fbor κ' (Body (Arr (Holey (mem u8)) (length y.now)) y.ref_ptr.0 y.ref_ptr.1 y.ghost_name))

      abbrev Gave : List ℕ → Fml
      Gave zs = fsep (finally u64 x.ghost_name zs) (fbor κ'' (Body (Arr (Holey (mem u64)) (length x.now)) x.ref_ptr.0 x.ref_ptr.1 x.ghost_name))

      -- what the callees' triples bind outside
      abbrev to-short : Asked.Ghost
      to-short = ((tt, tt, tt, (L.hot h, (n, (length y.now, (length x.now, tt)))), (hots (L.hot h), (vint w64 n ∷ [], (vint w64 (length y.now) ∷ [], (vint w64 (length x.now) ∷ [], tt))))), tt)

      abbrev to-table : Looked.Ghost
      to-table = ((tt, tt, tt, (L.hot h, ((L.config h).count, (L.queues h, (n, (length y.now, (length x.now, tt)))))), (hots (L.hot h), (vint w32 (L.config h).count ∷ [], (L.queuev h ∷ [], (vint w64 n ∷ [], (vint w64 (length y.now) ∷ [], (vint w64 (length x.now) ∷ [], tt))))))), tt)

      abbrev to-give : ℕ → Gives.Ghost
      to-give v = (((κ', tt), (q', tt), tt, (y, (v, tt)), (yv ∷ [], (vint w32 v ∷ [], tt))), tt)

      abbrev to : Steps.Ghost
      to = (((κ', (κ'', tt)), (q', (q'', tt)), tt, (h, (m, (n, (y, (x, tt))))), (vals h, (vint w32 m ∷ [], (vint w64 n ∷ [], (yv ∷ [], (xv ∷ [], tt)))))), tt)

      module _ (n-fits : n < 2 ^ 64) (m-fits : m < 2 ^ 32) (y-fits : length y.now < 2 ^ 64) (x_Fits : length x.now < 2 ^ 64) where
        asks-short : Is O.the_row (L.hot h) (hots (L.hot h)) → ent 𝓤 (emp 𝓤) (Asked.pre to-short)
        asks-short was =
            qed 𝓛 [] ∵ nothing ! $ owned ! usize (Is usize) (uint_Makes 𝓛 w64) (length x.now) _ (refl, x_Fits) $ fjoin ! $ owned ! usize (Is usize) (uint_Makes 𝓛 w64) (length y.now) _ (refl, y-fits) $ fjoin ! $
            owned ! u64 (Is u64) (uint_Makes 𝓛 w64) n _ (refl, n-fits) $ fjoin ! $ owned ! O.the_row (Is O.the_row) (LL.makes O.the_type O'.the_plain 𝓛) (L.hot h) _ was $ fjoin ! $ nothing ! $ join ! $ frame ! $ done !

        asks-table : Is D h (vals h) → ent 𝓤 (emp 𝓤) (Looked.pre to-table)
        asks-table was =
            qed 𝓛 [] ∵ nothing ! $ owned ! usize (Is usize) (uint_Makes 𝓛 w64) (length x.now) _ (refl, x_Fits) $ fjoin ! $ owned ! usize (Is usize) (uint_Makes 𝓛 w64) (length y.now) _ (refl, y-fits) $ fjoin ! $
            owned ! u64 (Is u64) (uint_Makes 𝓛 w64) n _ (refl, n-fits) $ fjoin ! $
            owned ! (Array U.the_row 16) (Is (Array U.the_row 16)) (Array-Makes 𝓛 U.the_row (LL.makes U.the_type U'.the_plain 𝓛) 16) (L.queues h) _ (L'.queues-is h was) $ fjoin ! $
            owned ! u32 (Is u32) (uint_Makes 𝓛 w32) (L.config h).count _ (refl, L'.count_fits h was) $ fjoin ! $
            owned ! O.the_row (Is O.the_row) (LL.makes O.the_type O'.the_plain 𝓛) (L.hot h) _ (L'.hot-is h was) $ fjoin ! $ nothing ! $ join ! $ frame ! $ done !

        asks_give : (v : ℕ) → v < 2 ^ 32 → ent 𝓤 (⋆ 𝓛 (‵ Reply ∷ ‵ (flft κ' q') ∷ [])) (Gives.pre (to-give v))
        asks_give v v-fits =
            qed 𝓛 (‵ Reply ∷ ‵ (flft κ' q') ∷ []) ∵ nothing ! $ owned ! u32 (Is u32) (uint_Makes 𝓛 w32) v _ (refl, v-fits) $ fjoin ! $ move ! (1 ∷ 0 ∷ []) $ fjoin ! $ nothing ! $ move ! (2 ∷ 0 ∷ []) $ join ! $ join ! $ frame ! $ done !

        asks : Is D h (vals h) → ent 𝓤 (⋆ 𝓛 ((‵ Reply ⊛ ‵ Acts) ∷ ‵ (flft κ' q') ∷ ‵ (flft κ'' q'') ∷ [])) (Steps.pre to)
        asks was =
            qed 𝓛 ((‵ Reply ⊛ ‵ Acts) ∷ ‵ (flft κ' q') ∷ ‵ (flft κ'' q'') ∷ []) ∵ split ! $ nothing ! $ move ! (2 ∷ 0 ∷ []) $ fjoin ! $ move ! (1 ∷ 0 ∷ []) $ fjoin ! $
            owned ! u64 (Is u64) (uint_Makes 𝓛 w64) n _ (refl, n-fits) $ fjoin ! $ owned ! u32 (Is u32) (uint_Makes 𝓛 w32) m _ (refl, m-fits) $ fjoin ! $
            owned ! D (Is D) (L'.makes 𝓛) h _ was $ fjoin ! $
            nothing ! $ move ! (3 ∷ 0 ∷ []) $ join ! $ move ! (2 ∷ 0 ∷ []) $ join ! $ join ! $ frame ! $ done !

        -- the words, still owned, given up
        gives_up : ent 𝓤 (sem 𝓛 Acts) (sem 𝓛 (Gave x.now))
        gives_up =
            qed 𝓛 (‵ Acts ∷ []) ∵ fsplit ! $ move ! (1 ∷ []) $ fsplit ! $ use1 𝓛 (‵ (fres x.ghost_name ((coded_holeys u64).code (heres u64 x.now)))) (𝓛.names.obs-res x.ghost_name ((coded_holeys u64).code (heres u64 x.now))) $
            use1 𝓛 (‵ (finally u64 x.ghost_name x.now)) (res-finally 𝓛 (named 1) κ'' u64 x.ghost_name x.now) $ keep ! (0 ∷ 1 ∷ []) $ fjoin ! $ done !

        exits : (t : Told) → Is K.the_row t (LL.vals K.the_type K'.the_laws t) → (zs us : List ℕ) → length zs ≡ length y.now → length us ≡ length x.now → (t ≡ told) × (zs ≡ ys) × (us ≡ xs)
            → ent 𝓤 (⋆ 𝓛 (‵ (flft κ q) ∷ (‵ (flft κ' q') ⊛ ‵ (flft κ'' q'') ⊛ ‵ ftrue) ∷ ‵ (hidden_shr D κ h b o) ∷ ‵ (GaveReply zs) ∷ ‵ (Gave us) ∷ [])) (Post (LL.val K.the_type K'.the_laws t))
        exits t t-is zs us ly lx e =
            qed 𝓛 (‵ (flft κ q) ∷ (‵ (flft κ' q') ⊛ ‵ (flft κ'' q'') ⊛ ‵ ftrue) ∷ ‵ (hidden_shr D κ h b o) ∷ ‵ (GaveReply zs) ∷ ‵ (Gave us) ∷ []) ∵
            suffices ! _ (ends_at 𝓛 lent stayed sets (((κ, (κ', (κ'', tt))), (q, (q', (q'', tt))), tt, a, at), tt) (LL.val K.the_type K'.the_laws t) t (tt, (tt, (tt, (zs, (us, tt))))) (tt, (tt, (tt, (ly, (lx, tt)))))) $ says ! e $
            join ! $ frame ! $ feq_i ! (List Val) (vptr b o ∷ []) (vptr b o ∷ []) refl $ fjoin ! $
            -- [the device's reference; the last bytes; the last words]
            nothing ! $ move ! (3 ∷ 0 ∷ []) $ fjoin ! $ move ! (2 ∷ 0 ∷ []) $ fjoin ! $ owned ! u64 (Is u64) (uint_Makes 𝓛 w64) n _ (refl, n-fits) $ fjoin ! $ owned ! u32 (Is u32) (uint_Makes 𝓛 w32) m _ (refl, m-fits) $ fjoin ! $
            move ! (1 ∷ 0 ∷ []) $ fjoin ! $ frame ! $ owned ! K.the_row (Is K.the_row) (LL.makes K.the_type K'.the_plain 𝓛) t _ t-is $ done !

        value-fits : (r : Quick) (vs : List Val) → Is Q.the_row r vs → r.value < 2 ^ 32
        value-fits r vs is = (LL.owed Q.the_type Q'.the_laws r vs is).0.1

        -- what a short function showed
        says-short : (f : L.Denot → ℕ → ℕ → ℕ → Quick) → Law gt gr ws f → (r : Quick) → r ≡ f h n (length y.now) (length x.now) → r.done ≡ true
            → (t : Told) (zs : List ℕ) → (t ≡ tell 0 4 0) × (zs ≡ write_le 4 y.now r.value) → (t ≡ told) × (zs ≡ ys) × (x.now ≡ xs)
        says-short f law r e d t zs g =
            let z = law h m n y.now x.now (sym (ap (λ (u : Quick). u.done) e) ∙ d) in (g.0 ∙ z.0, g.1 ∙ ap (λ (u : Quick). write_le 4 y.now u.value) e ∙ z.1, z.2)

        module _ (j t v k : Callee) (C : Calls 𝓤 H) (Λ : Loops 𝓤 H) (fm : FmC 𝓤 H 𝓛.laws C) (known-short : Triple 𝓤 (C j) Asked) (known-table : Triple 𝓤 (C t) Looked) (known-give : Triple 𝓤 (C v) Gives) (known : Triple 𝓤 (C k) Steps)
            (law : Law gt gr ws (by-hot gq)) (law' : Law gt gr ws (by-table gy)) where
          walk : Room u8 (length y.now) → Room u64 (length x.now) → ent 𝓤 (on_entry 𝓛 lent.signature (κ, (κ', (κ'', tt))) (q, (q', (q'', tt))) a at) (WpFn 𝓤 H C Λ (code j t v k) (vptr b o ∷ vint w32 m ∷ vint w64 n ∷ yv ∷ xv ∷ []) Post)
          walk y-room x-room =
              qed 𝓛 ((‵ (flft κ q) ⊛ (‵ (flft κ' q') ⊛ ‵ (flft κ'' q'') ⊛ ‵ ftrue)) ∷ ‵ (owns (ShrRef (named 0) κ D ∷ u32 ∷ u64 ∷ MutSlice (named 1) κ' u8 ∷ MutSlice (named 2) κ'' u64 ∷ []) a at) ∷ []) ∵ enter ! C Λ (code j t v k) (vptr b o ∷ vint w32 m ∷ vint w64 n ∷ yv ∷ xv ∷ []) _ $
              alloc1 ! (λ l₀. alloc1 ! (λ l₁. alloc1 ! (λ l₂. alloc1 ! (λ l₃. alloc1 ! (λ l₄. alloc1 ! (λ l₅. alloc1 ! (λ l₆. alloc1 ! (λ l₇. alloc1 ! (λ l₈. alloc1 ! (λ l₉. alloc1 ! (λ l₁₀. alloc1 ! (λ l₁₁. alloc1 ! (λ l₁₂. alloc1 ! (λ l₁₃. alloc1 ! (λ l₁₄. alloc1 ! (λ l₁₅. alloc1 ! (λ l₁₆. alloc1 ! (λ l₁₇. alloc1 ! (λ l₁₈. alloc1 ! (λ l₁₉. alloc1 ! (λ l₂₀. alloc1 ! (λ l₂₁. alloc1 ! (λ l₂₂. alloc0 ! $ params1 ! $
              pass1 ! (init ! 42 refl (tt, tt)) $ pass1 ! (init ! 40 refl (tt, record { fits = m-fits })) $ pass1 ! (init ! 38 refl (tt, record { fits = n-fits })) $ pass1 ! (init ! 36 refl (tt, (tt, (record { fits = y-room.0 }, tt)))) $ pass1 ! (init ! 34 refl (tt, (tt, (record { fits = x-room.0 }, tt)))) $ pass0 ! $
              move ! (46 ∷ 47 ∷ []) $ split ! $ move ! (1 ∷ []) $ split ! $ move ! (1 ∷ []) $ split ! $ move ! (1 ∷ []) $ drop ! $
              move ! (3 ∷ []) $ fsplit ! $ move ! (1 ∷ []) $ fsplit ! $ drop ! $ fsplit ! $ drop ! $ fsplit ! $ move ! (1 ∷ []) $ fsplit ! $ move ! (1 ∷ []) $ drop ! $
              move ! (2 ∷ []) $ fsplit ! $ drop ! $ move ! (0 ∷ 5 ∷ []) $ looks ! tt D (L'.opens 𝓛) h b o (λ s' vs.
              spelt ! D (Is D) (shows 𝓛 D) vals L'.tells s' h vs b o $ move ! (1 ∷ []) $ peeks ! D (Is D) (shows 𝓛 D) h (vals h) (λ was. move ! (1 ∷ 0 ∷ []) $ use1 𝓛 (‵ (fat s' Dm b o (val h))) (𝓛.laws.raw_at s' Dm b o _) $
              -- [cell; own; open; what the reference holds; actions; reply; κ''; κ']
              assigns ! (of_opd ! (load ! (from ! (hop ! (look ! 50 refl) (fld ! refl (fld ! refl (stop !))))) (look_in ! 0 (sub ! 0 refl (sub ! 0 refl (whole !)))))) (from ! (stop !)) (init ! 40 refl ((LL.lawful O.the_type O'.the_laws 𝓛).typed (L.hot h) _ (L'.hot-is h was)).0) $
              assigns ! (of_opd ! (load ! (from ! (fld ! refl (stop !))) (look_in ! 44 (sub ! 1 refl (whole !))))) (from ! (stop !)) (init ! 38 refl (tt, record { fits = y-room.0 })) $
              assigns ! (of_opd ! (load ! (from ! (fld ! refl (stop !))) (look_in ! 42 (sub ! 1 refl (whole !))))) (from ! (stop !)) (init ! 36 refl (tt, record { fits = x-room.0 })) $
              use0 𝓛 (raw (Asked.pre to-short)) (asks-short (L'.hot-is h was)) $ calls_at ! fm Asked known-short to-short (and_then ! (load ! (from ! (stop !)) (look ! 41 refl)) (and_then ! (load ! (from ! (stop !)) (look ! 47 refl)) (and_then ! (load ! (from ! (stop !)) (look ! 39 refl)) (and_then ! (load ! (from ! (stop !)) (look ! 37 refl)) (no_more !))))) (λ w.
              use1 𝓛 (later (some (λ (z : Quick). (‵ ftrue ⊛ ‵ ((Q.the_row).own_val z (w ∷ []))) ⊛ raw (ensured 𝓛 short.ended polls tt (L.hot h, (n, (length y.now, (length x.now, tt)))) tt z)))) (id⊢ 𝓤 _) $ await ! tt $ pick ! (λ r.
              split ! $ move ! (1 ∷ []) $ use1 𝓛 (raw (fact 𝓤 (r ≡ gq (L.hot h) n (length y.now) (length x.now)))) (ex_e 𝓤 _ (λ zs. snd∗ 𝓤 (sem 𝓛 (lasts short.ended tt (L.hot h, (n, (length y.now, (length x.now, tt)))) zs)) (fact 𝓤 (r ≡ gq (L.hot h) n (length y.now) (length x.now))))) $ heard ! (r ≡ gq (L.hot h) n (length y.now) (length x.now)) (λ e.
              split ! $ drop ! $ peeks ! Q.the_row (Is Q.the_row) (shows 𝓛 Q.the_row) r (w ∷ []) (λ is. drop ! $
              land ! (from ! (stop !)) (init ! 34 refl ((LL.lawful Q.the_type Q'.the_laws 𝓛).typed r _ is).0) $ rewrite ! 34 (λ (u : Val). ‵ (fat full_share Q'.mir l₉ 0 u)) (ap only (LL.tells Q.the_type Q'.the_laws r _ is)) refl $
              assigns ! (of_opd ! (load ! (from ! (fld ! refl (stop !))) (look_in ! 34 (sub ! 1 refl (whole !))))) (from ! (stop !)) (init ! 26 refl (tt, tt)) $
              first ! $ branches ! (load ! (from ! (stop !)) (look ! 26 refl))
              (λ done-so. assigns ! (addr ! (from ! (fld ! refl (hop ! (look_in ! 44 (sub ! 0 refl (whole !))) (stop !))))) (from ! (stop !)) (init ! 24 refl (tt, tt)) $
              assigns ! (agg ! (and_then ! (load ! (from ! (stop !)) (look ! 24 refl)) (and_then ! (load ! (from ! (fld ! refl (stop !))) (look_in ! 44 (sub ! 1 refl (whole !)))) (no_more !)))) (from ! (stop !)) (init ! 22 refl (tt, (tt, (record { fits = y-room.0 }, tt)))) $
              move ! (5 ∷ 7 ∷ []) $ use2 𝓛 (raw (Gives.pre (to-give r.value))) (asks_give r.value (value-fits r _ is)) $ calls_at ! fm Gives known-give (to-give r.value) (and_then ! (load ! (from ! (stop !)) (look ! 21 refl)) (and_then ! (load ! (from ! (fld ! refl (stop !))) (look_in ! 33 (sub ! 0 refl (whole !)))) (no_more !))) (λ u.
              use1 𝓛 (later (some (λ (t : Told). ((‵ (flft κ' q') ⊛ ‵ ftrue) ⊛ ‵ ((K.the_row).own_val t (u ∷ []))) ⊛ raw (ensured 𝓛 give.ended given (κ', tt) (y, (r.value, tt)) tt t)))) (id⊢ 𝓤 _) $ await ! tt $ pick ! (λ t.
              split ! $ move ! (1 ∷ []) $ use1 𝓛 (some (λ (zs : List ℕ × (Unit {0} × Unit {0})). ‵ (lasts give.ended (κ', tt) (y, (r.value, tt)) zs) ⊛ raw (fact 𝓤 ((t ≡ tell 0 4 0) × (zs.0 ≡ write_le 4 y.now r.value))))) (id⊢ 𝓤 _) $ pick ! (λ zs.
              split ! $ move ! (1 ∷ []) $ heard ! ((t ≡ tell 0 4 0) × (zs.0 ≡ write_le 4 y.now r.value)) (λ g. fsplit ! $ fsplit ! $ fsplit ! $ move ! (1 ∷ []) $ feq_l ! (λ l. fjoin ! $
              move ! (2 ∷ []) $ split ! $ move ! (1 ∷ []) $ peeks ! K.the_row (Is K.the_row) (shows 𝓛 K.the_row) t (u ∷ []) (λ so. drop ! $
              land ! (from ! (stop !)) (init ! 53 refl ((LL.lawful K.the_type K'.the_laws 𝓛).typed t _ so).0) $ rewrite ! 53 (λ (z : Val). ‵ (fat full_share K'.mir l₀ 0 z)) (ap only (LL.tells K.the_type K'.the_laws t _ so)) refl $
              move ! (3 ∷ 4 ∷ 5 ∷ []) $ use1 𝓛 (‵ (fat s' (raw_ty Dm) b o (val h))) (𝓛.laws.at_raw s' Dm b o _) $ shuts ! tt D s' h (vals h) b o $
              returns_within ! Post refl (look ! 51 refl) $ forget ! 21 refl $ forget ! 23 refl $ forget ! 25 refl $ forget ! 33 refl $ forget ! 35 refl $ forget ! 37 refl $ forget ! 39 refl $ forget ! 41 refl $ forget ! 43 refl $ forget ! 45 refl $ forget ! 47 refl $ forget ! 49 refl $ forget ! 51 refl $
              move ! (51 ∷ 52 ∷ []) $ free1 ! $ move ! (49 ∷ 50 ∷ []) $ free1 ! $ move ! (47 ∷ 48 ∷ []) $ free1 ! $ move ! (45 ∷ 46 ∷ []) $ free1 ! $ move ! (43 ∷ 44 ∷ []) $ free1 ! $ move ! (41 ∷ 42 ∷ []) $ free1 ! $ move ! (39 ∷ 40 ∷ []) $ free1 ! $ move ! (37 ∷ 38 ∷ []) $ free1 ! $ move ! (35 ∷ 36 ∷ []) $ free1 ! $ move ! (33 ∷ 34 ∷ []) $ free1 ! $ move ! (31 ∷ 32 ∷ []) $ free1 ! $ move ! (29 ∷ 30 ∷ []) $ free1 ! $ move ! (27 ∷ 28 ∷ []) $ free1 ! $ move ! (25 ∷ 26 ∷ []) $ free1 ! $ move ! (23 ∷ 24 ∷ []) $ free1 ! $ move ! (21 ∷ 22 ∷ []) $ free1 ! $ move ! (19 ∷ 20 ∷ []) $ free1 ! $ move ! (17 ∷ 18 ∷ []) $ free1 ! $ move ! (15 ∷ 16 ∷ []) $ free1 ! $ move ! (13 ∷ 14 ∷ []) $ free1 ! $ move ! (11 ∷ 12 ∷ []) $ free1 ! $ move ! (9 ∷ 10 ∷ []) $ free1 ! $ move ! (7 ∷ 8 ∷ []) $ free1 ! $ free0 ! $
              move ! (5 ∷ []) $ use1 𝓛 (‵ (Gave x.now)) gives_up $ move ! (2 ∷ []) $ split ! $ move ! (7 ∷ 1 ∷ []) $ join ! $ move ! (1 ∷ 0 ∷ []) $ join ! $
              keep ! (2 ∷ 0 ∷ 5 ∷ 3 ∷ 1 ∷ []) $ by ! (exits t (subst (λ (vs : List Val). Is K.the_row t vs) (LL.tells K.the_type K'.the_laws t _ so) so) zs.0 x.now l refl (says-short (by-hot gq) law r e (is_true r.done done-so) t zs.0 g)))))))))
              (λ not_so. skips ! $ exec ! C Λ ((K'.mir, l₀) ∷ (ty_ref (named 0) imm (pointee L.written), l₁) ∷ (ty_int w32, l₂) ∷ (ty_int w64, l₃) ∷ (slice_ty (ty_ref (named 1) mut (ty_int w8)), l₄) ∷ (slice_ty (ty_ref (named 2) mut (ty_int w64)), l₅) ∷ (O'.mir, l₆) ∷ (ty_int w64, l₇) ∷ (ty_int w64, l₈) ∷ (Q'.mir, l₉) ∷ (ty_int w32, l₁₀) ∷ (ty_array U'.mir 16, l₁₁) ∷ (Q'.mir, l₁₂) ∷ (ty_bool, l₁₃) ∷ (ty_ref erased mut (ty_int w8), l₁₄) ∷ (slice_ty (ty_ref erased mut (ty_int w8)), l₁₅) ∷ (ty_ref erased mut (ty_int w8), l₁₆) ∷ (slice_ty (ty_ref erased mut (ty_int w8)), l₁₇) ∷ (Dm, l₁₈) ∷ (ty_ref erased mut (ty_int w8), l₁₉) ∷ (slice_ty (ty_ref erased mut (ty_int w8)), l₂₀) ∷ (ty_ref erased mut (ty_int w64), l₂₁) ∷ (slice_ty (ty_ref erased mut (ty_int w64)), l₂₂) ∷ []) (middle t v k) (at_ret ((K'.mir, l₀) ∷ (ty_ref (named 0) imm (pointee L.written), l₁) ∷ (ty_int w32, l₂) ∷ (ty_int w64, l₃) ∷ (slice_ty (ty_ref (named 1) mut (ty_int w8)), l₄) ∷ (slice_ty (ty_ref (named 2) mut (ty_int w64)), l₅) ∷ (O'.mir, l₆) ∷ (ty_int w64, l₇) ∷ (ty_int w64, l₈) ∷ (Q'.mir, l₉) ∷ (ty_int w32, l₁₀) ∷ (ty_array U'.mir 16, l₁₁) ∷ (Q'.mir, l₁₂) ∷ (ty_bool, l₁₃) ∷ (ty_ref erased mut (ty_int w8), l₁₄) ∷ (slice_ty (ty_ref erased mut (ty_int w8)), l₁₅) ∷ (ty_ref erased mut (ty_int w8), l₁₆) ∷ (slice_ty (ty_ref erased mut (ty_int w8)), l₁₇) ∷ (Dm, l₁₈) ∷ (ty_ref erased mut (ty_int w8), l₁₉) ∷ (slice_ty (ty_ref erased mut (ty_int w8)), l₂₀) ∷ (ty_ref erased mut (ty_int w64), l₂₁) ∷ (slice_ty (ty_ref erased mut (ty_int w64)), l₂₂) ∷ []) Post) $
              assigns ! (of_opd ! (load ! (from ! (hop ! (look ! 50 refl) (fld ! refl (fld ! refl (fld ! refl (stop !)))))) (look_in ! 0 (sub ! 8 refl (sub ! 1 refl (sub ! 0 refl (whole !))))))) (from ! (stop !)) (init ! 32 refl (tt, record { fits = L'.count_fits h was })) $
              assigns ! (of_opd ! (load ! (from ! (hop ! (look ! 50 refl) (fld ! refl (fld ! refl (stop !))))) (look_in ! 0 (sub ! 4 refl (sub ! 0 refl (whole !)))))) (from ! (stop !)) (init ! 30 refl (L'.queues-typed 𝓛 h was)) $
              use0 𝓛 (raw (Looked.pre to-table)) (asks-table was) $ calls_at ! fm Looked known-table to-table (and_then ! (load ! (from ! (stop !)) (look ! 41 refl)) (and_then ! (load ! (from ! (stop !)) (look ! 33 refl)) (and_then ! (load ! (from ! (stop !)) (look ! 31 refl)) (and_then ! (load ! (from ! (stop !)) (look ! 47 refl)) (and_then ! (load ! (from ! (stop !)) (look ! 39 refl)) (and_then ! (load ! (from ! (stop !)) (look ! 37 refl)) (no_more !))))))) (λ w'.
              use1 𝓛 (later (some (λ (z : Quick). (‵ ftrue ⊛ ‵ ((Q.the_row).own_val z (w' ∷ []))) ⊛ raw (ensured 𝓛 table.ended readies tt (L.hot h, ((L.config h).count, (L.queues h, (n, (length y.now, (length x.now, tt)))))) tt z)))) (id⊢ 𝓤 _) $ await ! tt $ pick ! (λ r'.
              split ! $ move ! (1 ∷ []) $ use1 𝓛 (raw (fact 𝓤 (r' ≡ gy (L.hot h) (L.config h).count (L.queues h) n (length y.now) (length x.now)))) (ex_e 𝓤 _ (λ zs. snd∗ 𝓤 (sem 𝓛 (lasts table.ended tt (L.hot h, ((L.config h).count, (L.queues h, (n, (length y.now, (length x.now, tt)))))) zs)) (fact 𝓤 (r' ≡ gy (L.hot h) (L.config h).count (L.queues h) n (length y.now) (length x.now))))) $ heard ! (r' ≡ gy (L.hot h) (L.config h).count (L.queues h) n (length y.now) (length x.now)) (λ e'.
              split ! $ drop ! $ peeks ! Q.the_row (Is Q.the_row) (shows 𝓛 Q.the_row) r' (w' ∷ []) (λ is'. drop ! $
              land ! (from ! (stop !)) (init ! 28 refl ((LL.lawful Q.the_type Q'.the_laws 𝓛).typed r' _ is').0) $ rewrite ! 28 (λ (u : Val). ‵ (fat full_share Q'.mir l₁₂ 0 u)) (ap only (LL.tells Q.the_type Q'.the_laws r' _ is')) refl $
              assigns ! (of_opd ! (load ! (from ! (fld ! refl (stop !))) (look_in ! 28 (sub ! 1 refl (whole !))))) (from ! (stop !)) (store ! 26 refl (tt, tt)) $
              first ! $ branches ! (load ! (from ! (stop !)) (look ! 26 refl))
              (λ done-so. assigns ! (addr ! (from ! (fld ! refl (hop ! (look_in ! 44 (sub ! 0 refl (whole !))) (stop !))))) (from ! (stop !)) (init ! 20 refl (tt, tt)) $
              assigns ! (agg ! (and_then ! (load ! (from ! (stop !)) (look ! 20 refl)) (and_then ! (load ! (from ! (fld ! refl (stop !))) (look_in ! 44 (sub ! 1 refl (whole !)))) (no_more !)))) (from ! (stop !)) (init ! 18 refl (tt, (tt, (record { fits = y-room.0 }, tt)))) $
              move ! (5 ∷ 7 ∷ []) $ use2 𝓛 (raw (Gives.pre (to-give r'.value))) (asks_give r'.value (value-fits r' _ is')) $ calls_at ! fm Gives known-give (to-give r'.value) (and_then ! (load ! (from ! (stop !)) (look ! 17 refl)) (and_then ! (load ! (from ! (fld ! refl (stop !))) (look_in ! 27 (sub ! 0 refl (whole !)))) (no_more !))) (λ u.
              use1 𝓛 (later (some (λ (t : Told). ((‵ (flft κ' q') ⊛ ‵ ftrue) ⊛ ‵ ((K.the_row).own_val t (u ∷ []))) ⊛ raw (ensured 𝓛 give.ended given (κ', tt) (y, (r'.value, tt)) tt t)))) (id⊢ 𝓤 _) $ await ! tt $ pick ! (λ t.
              split ! $ move ! (1 ∷ []) $ use1 𝓛 (some (λ (zs : List ℕ × (Unit {0} × Unit {0})). ‵ (lasts give.ended (κ', tt) (y, (r'.value, tt)) zs) ⊛ raw (fact 𝓤 ((t ≡ tell 0 4 0) × (zs.0 ≡ write_le 4 y.now r'.value))))) (id⊢ 𝓤 _) $ pick ! (λ zs.
              split ! $ move ! (1 ∷ []) $ heard ! ((t ≡ tell 0 4 0) × (zs.0 ≡ write_le 4 y.now r'.value)) (λ g. fsplit ! $ fsplit ! $ fsplit ! $ move ! (1 ∷ []) $ feq_l ! (λ l. fjoin ! $
              move ! (2 ∷ []) $ split ! $ move ! (1 ∷ []) $ peeks ! K.the_row (Is K.the_row) (shows 𝓛 K.the_row) t (u ∷ []) (λ so. drop ! $
              land ! (from ! (stop !)) (init ! 53 refl ((LL.lawful K.the_type K'.the_laws 𝓛).typed t _ so).0) $ rewrite ! 53 (λ (z : Val). ‵ (fat full_share K'.mir l₀ 0 z)) (ap only (LL.tells K.the_type K'.the_laws t _ so)) refl $
              move ! (3 ∷ 4 ∷ 5 ∷ []) $ use1 𝓛 (‵ (fat s' (raw_ty Dm) b o (val h))) (𝓛.laws.at_raw s' Dm b o _) $ shuts ! tt D s' h (vals h) b o $
              returns_within ! Post refl (look ! 51 refl) $ forget ! 17 refl $ forget ! 19 refl $ forget ! 25 refl $ forget ! 27 refl $ forget ! 29 refl $ forget ! 31 refl $ forget ! 33 refl $ forget ! 35 refl $ forget ! 37 refl $ forget ! 39 refl $ forget ! 41 refl $ forget ! 43 refl $ forget ! 45 refl $ forget ! 47 refl $ forget ! 49 refl $ forget ! 51 refl $
              move ! (51 ∷ 52 ∷ []) $ free1 ! $ move ! (49 ∷ 50 ∷ []) $ free1 ! $ move ! (47 ∷ 48 ∷ []) $ free1 ! $ move ! (45 ∷ 46 ∷ []) $ free1 ! $ move ! (43 ∷ 44 ∷ []) $ free1 ! $ move ! (41 ∷ 42 ∷ []) $ free1 ! $ move ! (39 ∷ 40 ∷ []) $ free1 ! $ move ! (37 ∷ 38 ∷ []) $ free1 ! $ move ! (35 ∷ 36 ∷ []) $ free1 ! $ move ! (33 ∷ 34 ∷ []) $ free1 ! $ move ! (31 ∷ 32 ∷ []) $ free1 ! $ move ! (29 ∷ 30 ∷ []) $ free1 ! $ move ! (27 ∷ 28 ∷ []) $ free1 ! $ move ! (25 ∷ 26 ∷ []) $ free1 ! $ move ! (23 ∷ 24 ∷ []) $ free1 ! $ move ! (21 ∷ 22 ∷ []) $ free1 ! $ move ! (19 ∷ 20 ∷ []) $ free1 ! $ move ! (17 ∷ 18 ∷ []) $ free1 ! $ move ! (15 ∷ 16 ∷ []) $ free1 ! $ move ! (13 ∷ 14 ∷ []) $ free1 ! $ move ! (11 ∷ 12 ∷ []) $ free1 ! $ move ! (9 ∷ 10 ∷ []) $ free1 ! $ move ! (7 ∷ 8 ∷ []) $ free1 ! $ free0 ! $
              move ! (5 ∷ []) $ use1 𝓛 (‵ (Gave x.now)) gives_up $ move ! (2 ∷ []) $ split ! $ move ! (7 ∷ 1 ∷ []) $ join ! $ move ! (1 ∷ 0 ∷ []) $ join ! $
              keep ! (2 ∷ 0 ∷ 5 ∷ 3 ∷ 1 ∷ []) $ by ! (exits t (subst (λ (vs : List Val). Is K.the_row t vs) (LL.tells K.the_type K'.the_laws t _ so) so) zs.0 x.now l refl (says-short (by-table gy) law' r' e' (is_true r'.done done-so) t zs.0 g)))))))))
              (λ not_so. skips ! $ exec ! C Λ ((K'.mir, l₀) ∷ (ty_ref (named 0) imm (pointee L.written), l₁) ∷ (ty_int w32, l₂) ∷ (ty_int w64, l₃) ∷ (slice_ty (ty_ref (named 1) mut (ty_int w8)), l₄) ∷ (slice_ty (ty_ref (named 2) mut (ty_int w64)), l₅) ∷ (O'.mir, l₆) ∷ (ty_int w64, l₇) ∷ (ty_int w64, l₈) ∷ (Q'.mir, l₉) ∷ (ty_int w32, l₁₀) ∷ (ty_array U'.mir 16, l₁₁) ∷ (Q'.mir, l₁₂) ∷ (ty_bool, l₁₃) ∷ (ty_ref erased mut (ty_int w8), l₁₄) ∷ (slice_ty (ty_ref erased mut (ty_int w8)), l₁₅) ∷ (ty_ref erased mut (ty_int w8), l₁₆) ∷ (slice_ty (ty_ref erased mut (ty_int w8)), l₁₇) ∷ (Dm, l₁₈) ∷ (ty_ref erased mut (ty_int w8), l₁₉) ∷ (slice_ty (ty_ref erased mut (ty_int w8)), l₂₀) ∷ (ty_ref erased mut (ty_int w64), l₂₁) ∷ (slice_ty (ty_ref erased mut (ty_int w64)), l₂₂) ∷ []) (ending k) (at_ret ((K'.mir, l₀) ∷ (ty_ref (named 0) imm (pointee L.written), l₁) ∷ (ty_int w32, l₂) ∷ (ty_int w64, l₃) ∷ (slice_ty (ty_ref (named 1) mut (ty_int w8)), l₄) ∷ (slice_ty (ty_ref (named 2) mut (ty_int w64)), l₅) ∷ (O'.mir, l₆) ∷ (ty_int w64, l₇) ∷ (ty_int w64, l₈) ∷ (Q'.mir, l₉) ∷ (ty_int w32, l₁₀) ∷ (ty_array U'.mir 16, l₁₁) ∷ (Q'.mir, l₁₂) ∷ (ty_bool, l₁₃) ∷ (ty_ref erased mut (ty_int w8), l₁₄) ∷ (slice_ty (ty_ref erased mut (ty_int w8)), l₁₅) ∷ (ty_ref erased mut (ty_int w8), l₁₆) ∷ (slice_ty (ty_ref erased mut (ty_int w8)), l₁₇) ∷ (Dm, l₁₈) ∷ (ty_ref erased mut (ty_int w8), l₁₉) ∷ (slice_ty (ty_ref erased mut (ty_int w8)), l₂₀) ∷ (ty_ref erased mut (ty_int w64), l₂₁) ∷ (slice_ty (ty_ref erased mut (ty_int w64)), l₂₂) ∷ []) Post) $
              assigns ! (of_opd ! (load ! (from ! (hop ! (look ! 50 refl) (stop !))) (look ! 0 refl))) (from ! (stop !)) (init ! 16 refl ((L'.lawful 𝓛).typed h _ was).0) $
              assigns ! (addr ! (from ! (fld ! refl (hop ! (look_in ! 44 (sub ! 0 refl (whole !))) (stop !))))) (from ! (stop !)) (init ! 14 refl (tt, tt)) $
              assigns ! (agg ! (and_then ! (load ! (from ! (stop !)) (look ! 14 refl)) (and_then ! (load ! (from ! (fld ! refl (stop !))) (look_in ! 44 (sub ! 1 refl (whole !)))) (no_more !)))) (from ! (stop !)) (init ! 12 refl (tt, (tt, (record { fits = y-room.0 }, tt)))) $
              assigns ! (addr ! (from ! (fld ! refl (hop ! (look_in ! 42 (sub ! 0 refl (whole !))) (stop !))))) (from ! (stop !)) (init ! 10 refl (tt, tt)) $
              assigns ! (agg ! (and_then ! (load ! (from ! (stop !)) (look ! 10 refl)) (and_then ! (load ! (from ! (fld ! refl (stop !))) (look_in ! 42 (sub ! 1 refl (whole !)))) (no_more !)))) (from ! (stop !)) (init ! 8 refl (tt, (tt, (record { fits = x-room.0 }, tt)))) $
              move ! (5 ∷ 4 ∷ []) $ join ! $ move ! (0 ∷ 6 ∷ 5 ∷ []) $ use3 𝓛 (raw (Steps.pre to)) (asks was) $ calls_at ! fm Steps known to (and_then ! (load ! (from ! (stop !)) (look ! 13 refl)) (and_then ! (load ! (from ! (stop !)) (look ! 45 refl)) (and_then ! (load ! (from ! (stop !)) (look ! 43 refl)) (and_then ! (load ! (from ! (stop !)) (look ! 9 refl)) (and_then ! (load ! (from ! (stop !)) (look ! 5 refl)) (no_more !)))))) (λ u.
              use1 𝓛 (later (some (λ (z : Told). ((‵ (flft κ' q') ⊛ ‵ (flft κ'' q'') ⊛ ‵ ftrue) ⊛ ‵ ((K.the_row).own_val z (u ∷ []))) ⊛ raw (ensured 𝓛 long steps (κ', (κ'', tt)) (h, (m, (n, (y, (x, tt))))) tt z)))) (id⊢ 𝓤 _) $ await ! tt $ pick ! (λ t'.
              split ! $ move ! (1 ∷ []) $ use1 𝓛 (some (λ (zs : Last (L.exit yes) h × (Unit {0} × (Unit {0} × (List ℕ × (List ℕ × Unit {0}))))). ‵ (lasts long (κ', (κ'', tt)) (h, (m, (n, (y, (x, tt))))) zs) ⊛ raw (fact 𝓤 ((t' ≡ told) × (zs.1.1.1.0 ≡ ys) × (zs.1.1.1.1.0 ≡ xs))))) (id⊢ 𝓤 _) $ pick ! (λ zs.
              split ! $ move ! (1 ∷ []) $ heard ! ((t' ≡ told) × (zs.1.1.1.0 ≡ ys) × (zs.1.1.1.1.0 ≡ xs)) (λ g. fsplit ! $ drop ! $ fsplit ! $ drop ! $ fsplit ! $ drop ! $ fsplit ! $ fsplit ! $ fsplit ! $ move ! (1 ∷ []) $ feq_l ! (λ ly. fjoin ! $ move ! (1 ∷ []) $ fsplit ! $ fsplit ! $ fsplit ! $ move ! (1 ∷ []) $ feq_l ! (λ lx. fjoin ! $
              move ! (3 ∷ []) $ split ! $ move ! (1 ∷ []) $ peeks ! K.the_row (Is K.the_row) (shows 𝓛 K.the_row) t' (u ∷ []) (λ so. drop ! $
              land ! (from ! (stop !)) (init ! 52 refl ((LL.lawful K.the_type K'.the_laws 𝓛).typed t' _ so).0) $ rewrite ! 52 (λ (z : Val). ‵ (fat full_share K'.mir l₀ 0 z)) (ap only (LL.tells K.the_type K'.the_laws t' _ so)) refl $
              move ! (4 ∷ 5 ∷ 6 ∷ []) $ use1 𝓛 (‵ (fat s' (raw_ty Dm) b o (val h))) (𝓛.laws.at_raw s' Dm b o _) $ shuts ! tt D s' h (vals h) b o $
              returns ! (look ! 50 refl) $ forget ! 6 refl $ forget ! 8 refl $ forget ! 10 refl $ forget ! 12 refl $ forget ! 14 refl $ forget ! 24 refl $ forget ! 26 refl $ forget ! 28 refl $ forget ! 30 refl $ forget ! 32 refl $ forget ! 34 refl $ forget ! 36 refl $ forget ! 38 refl $ forget ! 40 refl $ forget ! 42 refl $ forget ! 44 refl $ forget ! 46 refl $ forget ! 48 refl $ forget ! 50 refl $
              move ! (50 ∷ 51 ∷ []) $ free1 ! $ move ! (48 ∷ 49 ∷ []) $ free1 ! $ move ! (46 ∷ 47 ∷ []) $ free1 ! $ move ! (44 ∷ 45 ∷ []) $ free1 ! $ move ! (42 ∷ 43 ∷ []) $ free1 ! $ move ! (40 ∷ 41 ∷ []) $ free1 ! $ move ! (38 ∷ 39 ∷ []) $ free1 ! $ move ! (36 ∷ 37 ∷ []) $ free1 ! $ move ! (34 ∷ 35 ∷ []) $ free1 ! $ move ! (32 ∷ 33 ∷ []) $ free1 ! $ move ! (30 ∷ 31 ∷ []) $ free1 ! $ move ! (28 ∷ 29 ∷ []) $ free1 ! $ move ! (26 ∷ 27 ∷ []) $ free1 ! $ move ! (24 ∷ 25 ∷ []) $ free1 ! $ move ! (22 ∷ 23 ∷ []) $ free1 ! $ move ! (20 ∷ 21 ∷ []) $ free1 ! $ move ! (18 ∷ 19 ∷ []) $ free1 ! $ move ! (16 ∷ 17 ∷ []) $ free1 ! $ move ! (14 ∷ 15 ∷ []) $ free1 ! $ move ! (12 ∷ 13 ∷ []) $ free1 ! $ move ! (10 ∷ 11 ∷ []) $ free1 ! $ move ! (8 ∷ 9 ∷ []) $ free1 ! $ move ! (6 ∷ 7 ∷ []) $ free1 ! $ free0 ! $
              keep ! (0 ∷ 1 ∷ 5 ∷ 4 ∷ 2 ∷ []) $ by ! (exits t' (subst (λ (vs : List Val). Is K.the_row t' vs) (LL.tells K.the_type K'.the_laws t' _ so) so) zs.1.1.1.0 zs.1.1.1.1.0 ly lx g)))))))))))))))))))))))))))))))))))))))))))

    pub meets : (j t v k : Callee) (𝓣 : Tables 𝓤 H) → Triple 𝓤 (𝓣.C j) Asked → Triple 𝓤 (𝓣.C t) Looked → Triple 𝓤 (𝓣.C v) Gives → Triple 𝓤 (𝓣.C k) Steps → Law gt gr ws (by-hot gq) → Law gt gr ws (by-table gy)
        → Meets 𝓛 lent.signature (WpFn 𝓤 H 𝓣.C 𝓣.Λ (code j t v k)) (closing 𝓛 lent sets)
    meets j t v k 𝓣 known-short known-table known-give known law law' = walk_Meets 𝓛 lent stayed
        (Goes-none_ref 𝓛 3 (0 ∷ []) tt (plain (λ _. D)) yes, (Goes-none 𝓛 3 (λ _. u32) yes (λ κs x f. refl), (Goes-none 𝓛 3 (λ _. u64) yes (λ κs x f. refl), (Goes-gave_slice 𝓛 3 1 tt (plain (λ _. u8)), (Goes-gave_slice 𝓛 3 2 tt (plain (λ _. u64)), tt))))) sets
        (WpFn 𝓤 H 𝓣.C 𝓣.Λ (code j t v k)) (WpFn-mono 𝓤 H 𝓛.laws 𝓣 (code j t v k))
        (walked 𝓛 lent stayed sets (WpFn 𝓤 H 𝓣.C 𝓣.Λ (code j t v k)) (λ κs. (shr_vals, (uint_vals w32, (uint_vals w64, (mut_slice_vals, (mut_slice_vals, tt))))))
        (λ κs. (shr_Tells (named 0) κs.0 D, (uint_Tells w32, (uint_Tells w64, (mut_slice_Tells (named 1) κs.1.0 u8, (mut_slice_Tells (named 2) κs.1.1.0 u64, tt))))))
        (λ κs qs bounds a _ are. via 𝓤 _ (fst∗ 𝓤 _ (emp 𝓤)) (walk κs.0 κs.1.0 κs.1.1.0 qs.0 qs.1.0 qs.1.1.0 a.0.ref_ptr.0 a.0.ref_ptr.1 a.0.now a.1.0 a.1.1.0 a.1.1.1.0 a.1.1.1.1.0
        are.1.1.0.1 are.1.0.1 are.1.1.1.0.0.1.0 are.1.1.1.1.0.0.1.0 j t v k 𝓣.C 𝓣.Λ (fm_of 𝓤 H 𝓛.laws 𝓣) known-short known-table known-give known law law' are.1.1.1.0.0.1 are.1.1.1.1.0.0.1)))

  -- the export's theorem, from those of what it calls
  pub spec : (gt : Tells) (gr : Replies) (ws : Words) (gq : Polls) (gy : Readies) → Law gt gr ws (by-hot gq) → Law gt gr ws (by-table gy) → (key j t v k : Callee) (env : Env) (rj rt rv rk : Routine) → env j ≡ rj → env t ≡ rt → env v ≡ rv → env k ≡ rk
      → {M : Type 1} {𝓤 : Ura M} (𝓛 : Logic 𝓤) (𝓜 : Model 𝓤 𝓛.H) (𝓡 : Running 𝓤 𝓛.H 𝓜)
      → Closed 𝓤 𝓛.H (tables 𝓤 𝓛.H 𝓜 𝓡 env).C (tables 𝓤 𝓛.H 𝓜 𝓡 env).Λ key (code j t v k) → Triple 𝓤 (𝓡.run rj) (Asked gt gr ws gq gy 𝓛) → Triple 𝓤 (𝓡.run rt) (Looked gt gr ws gq gy 𝓛)
      → Triple 𝓤 (𝓡.run rv) (Gives gt gr ws gq gy 𝓛) → Triple 𝓤 (𝓡.run rk) (Steps gt gr ws gq gy 𝓛)
      → Meets 𝓛 lent.signature (𝓡.run (env key)) (closing 𝓛 lent (sets gt gr ws gq gy 𝓛))
  unfolding tables_of
  spec gt gr ws gq gy law law' key j t v k env rj rt rv rk calls-j calls-t calls-v calls-k {𝓤 = 𝓤} 𝓛 𝓜 𝓡 opened met-j met-t met-v met-k =
      entered 𝓤 𝓛.H (triple_of 𝓛 lent.signature (closing 𝓛 lent (sets gt gr ws gq gy 𝓛))) (tables 𝓤 𝓛.H 𝓜 𝓡 env).C (tables 𝓤 𝓛.H 𝓜 𝓡 env).Λ key (code j t v k) opened
      (meets gt gr ws gq gy 𝓛 j t v k (tables_of 𝓤 𝓛.H 𝓜 (tables 𝓤 𝓛.H 𝓜 𝓡 env)) (cited 𝓤 𝓛.H (Asked gt gr ws gq gy 𝓛) 𝓜 𝓡 env j rj calls-j met-j) (cited 𝓤 𝓛.H (Looked gt gr ws gq gy 𝓛) 𝓜 𝓡 env t rt calls-t met-t)
      (cited 𝓤 𝓛.H (Gives gt gr ws gq gy 𝓛) 𝓜 𝓡 env v rv calls-v met-v) (cited 𝓤 𝓛.H (Steps gt gr ws gq gy 𝓛) 𝓜 𝓡 env k rk calls-k met-k) law law')
