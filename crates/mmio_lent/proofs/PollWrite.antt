-- `dewbracket_poll_write`: the polled part goes to `quick_write`, and the bits that come back are stored, done or not. A walk of
-- its code, once, over any such function, and any device that begins with its polled part.
use mathlib.Core.Path.{◌≡◌, refl, ap, sym}
use mathlib.Core.Bool.{Bool}
use Prim.Native.Nat.{ℕ, ◌<◌, ◌^◌}
use mathlib.Core.List.{[], ◌∷◌, List}
use lib.ListN.{length}
use seplogic.Ra.Ura.{Ura}
use base.Fraction.{full_share}
use mir.Syntax.{Callee, Fn, Ty, ty_bool, local, value_local, named, mut, imm, w8, w32, w64, ty_int, ty_ref, place, deref, field, copy, rv_opd, assign, call, seq, return}
use mir.Val.{Val, Vals, vnil, vcons, vstruct, vint, vptr, vbool}
use mir.Raw.{raw as raw_ty}
use base.Logic.{SProp, ent, emp, via, fst∗, snd∗, ex_e, id⊢}
use base.Fml.{GName, Lft, Share, Fml, ftrue, flft, fobs, fbor, fat}
use prog.Wp.{Calls, Loops, WpFn, Tables, Closed}
use prog.Model.{Model}
use prog.Routine.{Routine, Env}
use types.Logic.{Logic, sem}
use contract.Monad.{fact}
use contract.Running.{Running, tables, tables_of}
use types.Kit.{‵, raw, ◌⊛◌, ⋆, some, later, ◌$◌, ◌∵◌, !, qed, by, move, keep, drop, use1, use2, split, join, pick, rewrite, fsplit, fsplit3, fjoin, fjoin3, feq_i, suffices, frame, await, done}
use types.Run.{look, init, forget, stop, hop, fld, from, load, of_opd, and_then, no_more, land, assigns, returns, enter, alloc1, alloc0, params1, pass1, pass0, free1, free0}
use types.Part.{whole, sub, look_in, store_in}
use types.SemTy.{Body}
use sound.WpLaws.{FmC, fm_of, WpFn-mono}
use denote.RattleType.{RattleType, owns}
use denote.Laws.{Is, shows}
use denote.Memory.{mem, pointee}
use denote.Plain.{Boolean, bool_Makes, uint_vals, uint_Tells, uint_Makes, uint_row_laws}
use denote.Builtin.{u8, u64, usize, RefMutOf, SliceRefOf}
use denote.Ref.{Bor, MutBor, MutRef, mut_vals, mut_Tells}
use denote.Slice.{slice_val, slice_ty, ShrSlice, shr_slice_vals, shr_slice_Tells, shr_slice_Lawful, shr_slice_copy}
use denote.Signature.{plain}
use denote.Steps.{only, opens, closes, owned, peeks, heard, nothing}
use denote.Struct.Steps.{spelt}
use denote.Struct.Laws as LL
use denote.Triple.Entry.{on_entry, Vals as Entries}
use denote.Triple.Spec.{Meets, triple_of}
use denote.Triple.Statement.{Contract, Triple}
use denote.Triple.Call.{calls_at}
use denote.Triple.Table.{entered, cited}
use denote.Triple.Clauses.{Ended, Clauses, closing, ensured, lasts}
use denote.Triple.Walked.{says, Stays, stay_ref, stay_none, stay_none_slice, walk_of, Goes-none, Goes-none_slice, Goes-ref, ends_at, walked, walk_Meets}
use denote.Exit.{yes}
use Rattle.mmio_hot.specs.declared.Hot.{Hot}
use Rattle.mmio_hot.specs.contracts.Hot as O
use Rattle.mmio_hot.proofs.Hot.TheLaws as O'
use Rattle.mmio_fast.specs.declared.Quick.{Quick}
use Rattle.mmio_fast.specs.contracts.Quick as Q
use Rattle.mmio_fast.proofs.Quick.TheLaws as Q'
use Rattle.mmio_fast.specs.contracts.quick_write as short
use Rattle.mmio_lent.proofs.Shape as shape
use Rattle.mmio_lent.proofs.Shape.{hots, Lent}

module _ (L : Lent) (L' : shape.Laws L) where
  abbrev D : RattleType
  D = shape.row L

  abbrev Dm : Ty
  Dm = shape.lies L

  abbrev vals : L.Denot → List Val
  vals = shape.vals L

  abbrev val : L.Denot → Val
  val = shape.val L

  -- the export's signature
  abbrev pub lent : Ended
  lent =
      record {
        signature = record { lifetimes = 2; outlives = []; params = RefMutOf (0 ∷ []) tt (plain (λ κs. D)) (λ κs. tt) ∷ plain (λ κs. u64) ∷ SliceRefOf (1 ∷ []) tt (plain (λ κs. u8)) (λ κs. tt) ∷ plain (λ κs. usize) ∷ []; result = plain (λ κs. Boolean) };
        kept = (yes, (yes, (yes, (yes, tt))));
      }

  abbrev stayed : Stays lent.signature.params lent.kept
  stayed = (stay_ref (0 ∷ []) tt (plain (λ _. D)), (stay_none (λ _. u64) yes, (stay_none_slice (1 ∷ []) tt (plain (λ _. u8)) yes, (stay_none (λ _. usize) yes, tt))))

  -- the code, with the key of what it calls
  abbrev pub code : Callee → Fn
  code j =
      record {
        lifetimes = 2;
        outlives = [];
        ty_params = [];
        givens = 0;
        params = 4;
        locals = local ty_bool value_local ∷ local (ty_ref (named 0) mut (pointee L.written)) value_local ∷ local (ty_int w64) value_local ∷ local (slice_ty (ty_ref (named 1) imm (ty_int w8))) value_local ∷ local (ty_int w64) value_local ∷ local Q'.mir value_local ∷ local O'.mir value_local ∷ local (ty_int w32) value_local ∷ [];
        body =
            seq (assign (place 6 []) (rv_opd (copy (place 1 (deref Dm ∷ field 0 ∷ field 0 ∷ []))))) (
            seq (call j (copy (place 6 []) ∷ copy (place 2 []) ∷ copy (place 3 []) ∷ copy (place 4 []) ∷ []) (place 5 [])) (
            seq (assign (place 7 []) (rv_opd (copy (place 5 (field 0 ∷ []))))) (
            seq (assign (place 1 (deref Dm ∷ field 0 ∷ field 0 ∷ field 1 ∷ [])) (rv_opd (copy (place 7 [])))) (
            seq (assign (place 0 []) (rv_opd (copy (place 5 (field 1 ∷ []))))) return))));
      }

  abbrev pub Fast : Type 0
  Fast = Hot → ℕ → List ℕ → ℕ → Quick

  module _ (gq : Fast) {M : Type 1} {𝓤 : Ura M} (𝓛 : Logic 𝓤) where
    open 𝓛 use {H}

    abbrev pub sets : Clauses 𝓤 lent
    sets κs a =
        record {
          ghost = Unit {0};
          requires = λ _. emp 𝓤;
          ensures = λ _ r e. fact 𝓤 ((e.0.now ≡ L.bits a.0.now (gq (L.hot a.0.now) a.1.0 a.1.1.0.now a.1.1.1.0).value) × (r ≡ (gq (L.hot a.0.now) a.1.0 a.1.1.0.now a.1.1.1.0).done));
        }

    abbrev pub quicks : Clauses 𝓤 short.ended
    quicks κs a = record { ghost = Unit {0}; requires = λ _. emp 𝓤; ensures = λ _ r e. fact 𝓤 (r ≡ gq a.0 a.1.0 a.1.1.0.now a.1.1.1.0) }

    abbrev pub Quicks : Contract 𝓤
    Quicks = triple_of 𝓛 short.signature (closing 𝓛 short.ended quicks)

    module _ (κ κ' : Lft) (q q' : Share) (b o : ℕ) (γ : GName) (h : L.Denot) (n : ℕ) (s : Bor (List ℕ)) (m : ℕ) where
      abbrev a : MutBor L.Denot × (ℕ × (Bor (List ℕ) × (ℕ × Unit {0})))
      a = (record { ref_ptr = (b, o); ghost_name = γ; now = h }, (n, (s, (m, tt))))

      abbrev sv : Val
      sv = slice_val s.ref_ptr (length s.now)

      abbrev at : Entries lent.signature (κ, (κ', tt))
      at = (vptr b o ∷ [], (vint w64 n ∷ [], (sv ∷ [], (vint w64 m ∷ [], tt))))

      abbrev Post : Val → SProp 𝓤
      Post = (walk_of 𝓛 lent stayed sets).post (((κ, (κ', tt)), (q, (q', tt)), tt, a, at), tt)

      abbrev G : Quick
      G = gq (L.hot h) n s.now m

      abbrev Bytes : Fml
      Bytes = (ShrSlice (named 0) κ' u8).own_val s (sv ∷ [])

      -- what the callee's triple binds outside
      abbrev to : Quicks.Ghost
      to = (((κ', tt), (q', tt), tt, (L.hot h, (n, (s, (m, tt)))), (hots (L.hot h), (vint w64 n ∷ [], (sv ∷ [], (vint w64 m ∷ [], tt))))), tt)

      asks : n < 2 ^ 64 → m < 2 ^ 64 → Is O.the_row (L.hot h) (hots (L.hot h)) → ent 𝓤 (⋆ 𝓛 (‵ Bytes ∷ ‵ (flft κ' q') ∷ [])) (Quicks.pre to)
      asks n-fits m-fits was =
          qed 𝓛 (‵ Bytes ∷ ‵ (flft κ' q') ∷ []) ∵ nothing ! $ owned ! usize (Is usize) (uint_Makes 𝓛 w64) m _ (refl, m-fits) $ fjoin ! $ move ! (1 ∷ 0 ∷ []) $ fjoin ! $
          owned ! u64 (Is u64) (uint_Makes 𝓛 w64) n _ (refl, n-fits) $ fjoin ! $ owned ! O.the_row (Is O.the_row) (LL.makes O.the_type O'.the_plain 𝓛) (L.hot h) _ was $ fjoin ! $
          nothing ! $ move ! (2 ∷ 0 ∷ []) $ join ! $ join ! $ frame ! $ done !

      exits : n < 2 ^ 64 → m < 2 ^ 64 → (d : L.Denot) (t : Bool) → (d ≡ L.bits h G.value) × (t ≡ G.done)
          → ent 𝓤 (⋆ 𝓛 (‵ (fobs γ (D.coded.code d)) ∷ ‵ (fbor κ (Body (mem D) b o γ)) ∷ ‵ (flft κ q) ∷ (‵ (flft κ' q') ⊛ ‵ ftrue) ∷ ‵ Bytes ∷ [])) (Post (vbool t))
      exits n-fits m-fits d t e =
          qed 𝓛 (‵ (fobs γ (D.coded.code d)) ∷ ‵ (fbor κ (Body (mem D) b o γ)) ∷ ‵ (flft κ q) ∷ (‵ (flft κ' q') ⊛ ‵ ftrue) ∷ ‵ Bytes ∷ []) ∵
          suffices ! _ (ends_at 𝓛 lent stayed sets (((κ, (κ', tt)), (q, (q', tt)), tt, a, at), tt) (vbool t) t (d, (tt, (tt, (tt, tt)))) (tt, (tt, (tt, (tt, tt))))) $
          says ! e $ move ! (2 ∷ 3 ∷ []) $ join ! $ frame ! $
          -- [obs; the borrow; bytes]
          nothing ! $ owned ! usize (Is usize) (uint_Makes 𝓛 w64) m _ (refl, m-fits) $ fjoin ! $ move ! (3 ∷ 0 ∷ []) $ fjoin ! $ owned ! u64 (Is u64) (uint_Makes 𝓛 w64) n _ (refl, n-fits) $ fjoin ! $
          move ! (1 ∷ 2 ∷ []) $ feq_i ! (List Val) (vptr b o ∷ []) (vptr b o ∷ []) refl $ fjoin3 ! $ fjoin ! $ owned ! Boolean (Is Boolean) (bool_Makes 𝓛) t (vbool t ∷ []) refl $ move ! (1 ∷ 0 ∷ []) $ done !

      value-fits : (r : Quick) (vs : List Val) → Is Q.the_row r vs → r.value < 2 ^ 32
      value-fits r vs is = (LL.owed Q.the_type Q'.the_laws r vs is).0.1

      module _ (j : Callee) (C : Calls 𝓤 H) (Λ : Loops 𝓤 H) (fm : FmC 𝓤 H 𝓛.laws C) (known : Triple 𝓤 (C j) Quicks) where
        walk : n < 2 ^ 64 → m < 2 ^ 64 → Is (ShrSlice (named 1) κ' u8) s (sv ∷ []) → ent 𝓤 (on_entry 𝓛 lent.signature (κ, (κ', tt)) (q, (q', tt)) a at) (WpFn 𝓤 H C Λ (code j) (vptr b o ∷ vint w64 n ∷ sv ∷ vint w64 m ∷ []) Post)
        walk n-fits m-fits gs =
            qed 𝓛 ((‵ (flft κ q) ⊛ (‵ (flft κ' q') ⊛ ‵ ftrue)) ∷ ‵ (owns (MutRef (named 0) κ D ∷ u64 ∷ ShrSlice (named 1) κ' u8 ∷ usize ∷ []) a at) ∷ []) ∵ enter ! C Λ (code j) (vptr b o ∷ vint w64 n ∷ sv ∷ vint w64 m ∷ []) _ $
            alloc1 ! (λ l₀. alloc1 ! (λ l₁. alloc1 ! (λ l₂. alloc1 ! (λ l₃. alloc1 ! (λ l₄. alloc1 ! (λ l₅. alloc1 ! (λ l₆. alloc1 ! (λ l₇. alloc0 ! $ params1 ! $
            pass1 ! (init ! 12 refl (tt, tt)) $ pass1 ! (init ! 10 refl (tt, record { fits = n-fits })) $ pass1 ! (init ! 8 refl ((shr_slice_Lawful 𝓛 (named 1) κ' u8).typed s (sv ∷ []) gs).0) $ pass1 ! (init ! 6 refl (tt, record { fits = m-fits })) $ pass0 ! $
            move ! (16 ∷ 17 ∷ []) $ split ! $ move ! (1 ∷ []) $ split ! $ move ! (1 ∷ []) $ drop ! $ move ! (2 ∷ []) $ fsplit ! $ move ! (1 ∷ []) $ fsplit ! $ drop ! $ fsplit ! $ move ! (1 ∷ []) $ fsplit ! $ drop ! $ drop ! $
            move ! (1 ∷ []) $ fsplit3 ! $ drop ! $ move ! (0 ∷ 1 ∷ 4 ∷ 2 ∷ 3 ∷ []) $ opens ! tt D {h = h} b o (λ vs. spelt ! D (Is D) (shows 𝓛 D) vals L'.tells full_share h vs b o $
            move ! (1 ∷ []) $ peeks ! D (Is D) (shows 𝓛 D) h (vals h) (λ was. drop ! $ use1 𝓛 (‵ (fat full_share Dm b o (val h))) (𝓛.laws.raw_at full_share Dm b o _) $
            -- [cell; open; obs; auth; bytes; κ']
            assigns ! (of_opd ! (load ! (from ! (hop ! (look ! 18 refl) (fld ! refl (fld ! refl (stop !))))) (look_in ! 0 (sub ! 0 refl (sub ! 0 refl (whole !)))))) (from ! (stop !)) (init ! 8 refl ((LL.lawful O.the_type O'.the_laws 𝓛).typed (L.hot h) _ (L'.hot-is h was)).0) $
            move ! (4 ∷ []) $ use1 𝓛 (‵ Bytes ⊛ ‵ Bytes) ((shr_slice_copy 𝓛 (named 0) κ' u8 (uint_row_laws w8)).twice s (sv ∷ [])) $ split ! $ move ! (0 ∷ 6 ∷ []) $ use2 𝓛 (raw (Quicks.pre to)) (asks n-fits m-fits (L'.hot-is h was)) $
            -- [pre; bytes; cell; open; obs; auth]
            calls_at ! fm Quicks known to (and_then ! (load ! (from ! (stop !)) (look ! 8 refl)) (and_then ! (load ! (from ! (stop !)) (look ! 16 refl)) (and_then ! (load ! (from ! (stop !)) (look ! 14 refl)) (and_then ! (load ! (from ! (stop !)) (look ! 12 refl)) (no_more !))))) (λ w.
            use1 𝓛 (later (some (λ (r : Quick). ((‵ (flft κ' q') ⊛ ‵ ftrue) ⊛ ‵ ((Q.the_row).own_val r (w ∷ []))) ⊛ raw (ensured 𝓛 short.ended quicks (κ', tt) (L.hot h, (n, (s, (m, tt)))) tt r)))) (id⊢ 𝓤 _) $ await ! tt $ pick ! (λ r.
            split ! $ move ! (1 ∷ []) $ use1 𝓛 (raw (fact 𝓤 (r ≡ G))) (ex_e 𝓤 _ (λ zs. snd∗ 𝓤 (sem 𝓛 (lasts short.ended (κ', tt) (L.hot h, (n, (s, (m, tt)))) zs)) (fact 𝓤 (r ≡ G)))) $ heard ! (r ≡ G) (λ e.
            split ! $ split ! $ move ! (1 ∷ []) $ drop ! $ move ! (1 ∷ []) $ peeks ! Q.the_row (Is Q.the_row) (shows 𝓛 Q.the_row) r (w ∷ []) (λ is. drop ! $
            -- [κ'; bytes; cell; open; obs; auth]
            land ! (from ! (stop !)) (init ! 10 refl ((LL.lawful Q.the_type Q'.the_laws 𝓛).typed r _ is).0) $ rewrite ! 10 (λ (u : Val). ‵ (fat full_share Q'.mir l₅ 0 u)) (ap only (LL.tells Q.the_type Q'.the_laws r _ is)) refl $
            assigns ! (of_opd ! (load ! (from ! (fld ! refl (stop !))) (look_in ! 10 (sub ! 0 refl (whole !))))) (from ! (stop !)) (init ! 6 refl (tt, record { fits = value-fits r _ is })) $
            assigns ! (of_opd ! (load ! (from ! (stop !)) (look ! 6 refl))) (from ! (hop ! (look ! 18 refl) (fld ! refl (fld ! refl (fld ! refl (stop !)))))) (store_in ! 2 (sub ! 1 refl (sub ! 0 refl (sub ! 0 refl (whole !)))) (tt, record { fits = value-fits r _ is })) $
            assigns ! (of_opd ! (load ! (from ! (fld ! refl (stop !))) (look_in ! 10 (sub ! 1 refl (whole !))))) (from ! (stop !)) (init ! 20 refl (tt, tt)) $
            rewrite ! 2 (λ (u : Hot). ‵ (fat full_share Dm b o (vstruct (vcons (vstruct (vcons (LL.val O.the_type O'.the_laws u) (shape.others L h))) vnil)))) (sym (L'.bits-hot h r.value)) refl $ rewrite ! 2 (λ (u : Vals). ‵ (fat full_share Dm b o (vstruct (vcons (vstruct (vcons (LL.val O.the_type O'.the_laws (L.hot (L.bits h r.value))) u)) vnil)))) (sym (L'.bits-others h r.value)) refl $
            owned ! D (Is D) (L'.makes 𝓛) (L.bits h r.value) _ (L'.bits_is h r.value (value-fits r _ is) was) $ move ! (3 ∷ 0 ∷ 4 ∷ 5 ∷ 6 ∷ []) $ use1 𝓛 (‵ (fat full_share (raw_ty Dm) b o (val (L.bits h r.value)))) (𝓛.laws.at_raw full_share Dm b o _) $ closes ! tt D (L.bits h r.value) (vals (L.bits h r.value)) b o $
            -- [obs; the borrow; κ; κ'; bytes]
            returns ! (look ! 19 refl) $ forget ! 5 refl $ forget ! 7 refl $ forget ! 9 refl $ forget ! 11 refl $ forget ! 13 refl $ forget ! 15 refl $ forget ! 17 refl $ forget ! 19 refl $
            move ! (19 ∷ 20 ∷ []) $ free1 ! $ move ! (17 ∷ 18 ∷ []) $ free1 ! $ move ! (15 ∷ 16 ∷ []) $ free1 ! $ move ! (13 ∷ 14 ∷ []) $ free1 ! $ move ! (11 ∷ 12 ∷ []) $ free1 ! $ move ! (9 ∷ 10 ∷ []) $ free1 ! $ move ! (7 ∷ 8 ∷ []) $ free1 ! $ move ! (5 ∷ 6 ∷ []) $ free1 ! $ free0 ! $
            nothing ! $ move ! (4 ∷ 0 ∷ []) $ join ! $ keep ! (1 ∷ 2 ∷ 3 ∷ 0 ∷ 4 ∷ []) $ by ! (exits n-fits m-fits (L.bits h r.value) r.done (ap (λ (u : Quick). L.bits h u.value) e, ap (λ (u : Quick). u.done) e))))))))))))))))

    pub meets : (j : Callee) (𝓣 : Tables 𝓤 H) → Triple 𝓤 (𝓣.C j) Quicks → Meets 𝓛 lent.signature (WpFn 𝓤 H 𝓣.C 𝓣.Λ (code j)) (closing 𝓛 lent sets)
    meets j 𝓣 known = walk_Meets 𝓛 lent stayed
        (Goes-ref 𝓛 2 0 tt (plain (λ _. D)), (Goes-none 𝓛 2 (λ _. u64) yes (λ κs x f. refl), (Goes-none_slice 𝓛 2 (1 ∷ []) tt (plain (λ _. u8)) yes, (Goes-none 𝓛 2 (λ _. usize) yes (λ κs x f. refl), tt)))) sets
        (WpFn 𝓤 H 𝓣.C 𝓣.Λ (code j)) (WpFn-mono 𝓤 H 𝓛.laws 𝓣 (code j))
        (walked 𝓛 lent stayed sets (WpFn 𝓤 H 𝓣.C 𝓣.Λ (code j)) (λ κs. (mut_vals, (uint_vals w64, (shr_slice_vals, (uint_vals w64, tt)))))
        (λ κs. (mut_Tells (named 0) κs.0 D, (uint_Tells w64, (shr_slice_Tells (named 1) κs.1.0 u8, (uint_Tells w64, tt)))))
        (λ κs qs bounds a _ are. via 𝓤 _ (fst∗ 𝓤 _ (emp 𝓤)) (walk κs.0 κs.1.0 qs.0 qs.1.0 a.0.ref_ptr.0 a.0.ref_ptr.1 a.0.ghost_name a.0.now a.1.0 a.1.1.0 a.1.1.1.0 j 𝓣.C 𝓣.Λ (fm_of 𝓤 H 𝓛.laws 𝓣) known are.1.0.1 are.1.1.1.0.1 are.1.1.0)))

  -- the export's theorem, from that of the function it calls
  pub spec : (gq : Fast) → (key j : Callee) (env : Env) (rj : Routine) → env j ≡ rj
      → {M : Type 1} {𝓤 : Ura M} (𝓛 : Logic 𝓤) (𝓜 : Model 𝓤 𝓛.H) (𝓡 : Running 𝓤 𝓛.H 𝓜)
      → Closed 𝓤 𝓛.H (tables 𝓤 𝓛.H 𝓜 𝓡 env).C (tables 𝓤 𝓛.H 𝓜 𝓡 env).Λ key (code j) → Triple 𝓤 (𝓡.run rj) (Quicks gq 𝓛)
      → Meets 𝓛 lent.signature (𝓡.run (env key)) (closing 𝓛 lent (sets gq 𝓛))
  unfolding tables_of
  spec gq key j env rj calls-j {𝓤 = 𝓤} 𝓛 𝓜 𝓡 opened met-j =
      entered 𝓤 𝓛.H (triple_of 𝓛 lent.signature (closing 𝓛 lent (sets gq 𝓛))) (tables 𝓤 𝓛.H 𝓜 𝓡 env).C (tables 𝓤 𝓛.H 𝓜 𝓡 env).Λ key (code j) opened
      (meets gq 𝓛 j (tables_of 𝓤 𝓛.H 𝓜 (tables 𝓤 𝓛.H 𝓜 𝓡 env)) (cited 𝓤 𝓛.H (Quicks gq 𝓛) 𝓜 𝓡 env j rj calls-j met-j))
