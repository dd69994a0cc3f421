-- `dewbracket_raise`: the polled part goes to `quick_raise`, and the bits that come back are stored. A walk of its code, once,
-- over any such function, and any device that begins with its polled part.
use mathlib.Core.Path.{◌≡◌, refl, ap, sym, ◌∙◌}
use Prim.Native.Nat.{ℕ, ◌<◌, ◌^◌}
use mathlib.Core.List.{[], ◌∷◌, List}
use lib.ListN.{length}
use seplogic.Ra.Ura.{Ura}
use base.Fraction.{full_share}
use mir.Syntax.{Callee, Fn, Ty, local, value_local, named, mut, w32, w64, ty_int, ty_ref, place, deref, field, copy, rv_opd, assign, call, seq, return}
use mir.Val.{Val, Vals, vnil, vcons, vstruct, vint, vptr}
use mir.Raw.{raw as raw_ty}
use base.Logic.{SProp, ent, emp, via, fst∗, snd∗, ex_e, id⊢}
use base.Fml.{GName, Lft, Share, Fml, ftrue, fsep, flft, fobs, fres, fbor, fat}
use prog.Wp.{Calls, Loops, WpFn, Tables, Closed}
use prog.Model.{Model}
use prog.Routine.{Routine, Env}
use types.Logic.{Logic, sem}
use contract.Monad.{fact}
use contract.Running.{Running, tables, tables_of}
use types.Kit.{‵, raw, ◌⊛◌, ⋆, some, later, ◌$◌, ◌∵◌, !, qed, by, move, keep, drop, use0, use1, split, join, pick, rewrite, fsplit, fsplit3, fjoin, fjoin3, feq_i, suffices, frame, await, done}
use types.Run.{look, init, forget, stop, hop, fld, from, load, of_opd, and_then, no_more, land, assigns, returns, enter, alloc1, alloc0, params1, pass1, pass0, free1, free0}
use types.Part.{whole, sub, look_in, store_in}
use types.SemTy.{Body, Arr}
use types.Hole.{Holey}
use sound.WpLaws.{FmC, fm_of, WpFn-mono}
use denote.RattleType.{RattleType, owns}
use denote.Laws.{Is, shows}
use denote.Memory.{mem, pointee}
use denote.Plain.{uint_vals, uint_Tells, uint_Makes}
use denote.Builtin.{u32, u64, usize, RefMutOf, SliceRefMutOf}
use denote.Ref.{MutBor, MutRef, mut_vals, mut_Tells}
use denote.Slice.{slice_val, slice_ty, MutSlice, Room, finally, res-finally, coded_holeys, heres, mut_slice_vals, mut_slice_Tells}
use denote.Signature.{plain}
use denote.Steps.{only, opens, closes, owned, peeks, heard, nothing}
use denote.Struct.Steps.{spelt}
use denote.Struct.Laws as LL
use denote.Triple.Entry.{on_entry, Vals as Entries}
use denote.Triple.Spec.{Meets, triple_of}
use denote.Triple.Statement.{Contract, Triple}
use denote.Triple.Call.{calls_at}
use denote.Triple.Table.{entered, cited}
use denote.Triple.Clauses.{Ended, Clauses, closing, ensured, lasts}
use denote.Triple.Walked.{says, Stays, stay_ref, stay_none, gave_slice, walk_of, Goes-none, Goes-gave_slice, Goes-ref, ends_at, walked, walk_Meets}
use denote.Exit.{yes}
use Rattle.mmio_hot.specs.declared.Hot.{Hot}
use Rattle.mmio_hot.specs.contracts.Hot as O
use Rattle.mmio_hot.proofs.Hot.TheLaws as O'
use Rattle.mmio_fast.specs.declared.Told.{Told}
use Rattle.mmio_fast.specs.contracts.Told as K
use Rattle.mmio_fast.proofs.Told.TheLaws as K'
use Rattle.mmio_fast.specs.declared.Raised.{Raised}
use Rattle.mmio_fast.specs.contracts.Raised as Z
use Rattle.mmio_fast.proofs.Raised.TheLaws as Z'
use Rattle.mmio_fast.specs.contracts.quick_raise as short
use Rattle.mmio_lent.proofs.Shape as shape
use Rattle.mmio_lent.proofs.Shape.{hots, Lent}

module _ (L : Lent) (L' : shape.Laws L) where
  abbrev D : RattleType
  D = shape.row L

  abbrev Dm : Ty
  Dm = shape.lies L

  abbrev vals : L.Denot → List Val
  vals = shape.vals L

  abbrev val : L.Denot → Val
  val = shape.val L

  -- the export's signature
  abbrev pub lent : Ended
  lent =
      record {
        signature = record { lifetimes = 2; outlives = []; params = RefMutOf (0 ∷ []) tt (plain (λ κs. D)) (λ κs. tt) ∷ plain (λ κs. u32) ∷ SliceRefMutOf (1 ∷ []) tt (plain (λ κs. u64)) (λ κs. tt) ∷ []; result = plain (λ κs. K.the_row) };
        kept = (yes, (yes, (yes, tt)));
      }

  abbrev stayed : Stays lent.signature.params lent.kept
  stayed = (stay_ref (0 ∷ []) tt (plain (λ _. D)), (stay_none (λ _. u32) yes, (gave_slice (1 ∷ []) tt (plain (λ _. u64)), tt)))

  -- the code, with the key of what it calls
  abbrev pub code : Callee → Fn
  code j =
      record {
        lifetimes = 2;
        outlives = [];
        ty_params = [];
        givens = 0;
        params = 3;
        locals = local K'.mir value_local ∷ local (ty_ref (named 0) mut (pointee L.written)) value_local ∷ local (ty_int w32) value_local ∷ local (slice_ty (ty_ref (named 1) mut (ty_int w64))) value_local ∷ local Z'.mir value_local ∷ local O'.mir value_local ∷ local (ty_int w64) value_local ∷ local (ty_int w32) value_local ∷ [];
        body =
            seq (assign (place 5 []) (rv_opd (copy (place 1 (deref Dm ∷ field 0 ∷ field 0 ∷ []))))) (
            seq (assign (place 6 []) (rv_opd (copy (place 3 (field 1 ∷ []))))) (
            seq (call j (copy (place 5 []) ∷ copy (place 2 []) ∷ copy (place 6 []) ∷ []) (place 4 [])) (
            seq (assign (place 7 []) (rv_opd (copy (place 4 (field 0 ∷ []))))) (
            seq (assign (place 1 (deref Dm ∷ field 0 ∷ field 0 ∷ field 1 ∷ [])) (rv_opd (copy (place 7 [])))) (
            seq (assign (place 0 []) (rv_opd (copy (place 4 (field 1 ∷ []))))) return)))));
      }

  abbrev pub Quick-raise : Type 0
  Quick-raise = Hot → ℕ → ℕ → Raised

  -- what the device and what is told come to, and the lent words at the end
  abbrev pub After : Type 0
  After = L.Denot → ℕ → ℕ → L.Denot

  abbrev pub Tells : Type 0
  Tells = L.Denot → ℕ → ℕ → Told

  abbrev pub Words : Type 0
  Words = L.Denot → ℕ → List ℕ → List ℕ

  abbrev pub Law : After → Tells → Words → Quick-raise → Type 0
  Law gd gt ws gq = (h : L.Denot) (m : ℕ) (x : List ℕ)
      → (L.bits h (gq (L.hot h) m (length x)).bits ≡ gd h m (length x)) × ((gq (L.hot h) m (length x)).told ≡ gt h m (length x)) × (x ≡ ws h m x)

  module _ (gd : After) (gt : Tells) (ws : Words) (gq : Quick-raise) {M : Type 1} {𝓤 : Ura M} (𝓛 : Logic 𝓤) where
    open 𝓛 use {H}

    abbrev pub sets : Clauses 𝓤 lent
    sets κs a =
        record {
          ghost = Unit {0};
          requires = λ _. emp 𝓤;
          ensures = λ _ r e. fact 𝓤 ((e.0.now ≡ gd a.0.now a.1.0 (length a.1.1.0.now)) × (r ≡ gt a.0.now a.1.0 (length a.1.1.0.now)) × (e.1.1.0.now ≡ ws a.0.now a.1.0 a.1.1.0.now));
        }

    abbrev pub quicks : Clauses 𝓤 short.ended
    quicks κs a = record { ghost = Unit {0}; requires = λ _. emp 𝓤; ensures = λ _ r e. fact 𝓤 (r ≡ gq a.0 a.1.0 a.1.1.0) }

    abbrev pub Quicks : Contract 𝓤
    Quicks = triple_of 𝓛 short.signature (closing 𝓛 short.ended quicks)

    module _ (κ κ'' : Lft) (q q'' : Share) (b o : ℕ) (γ : GName) (h : L.Denot) (m : ℕ) (x : MutBor (List ℕ)) where
      abbrev a : MutBor L.Denot × (ℕ × (MutBor (List ℕ) × Unit {0}))
      a = (record { ref_ptr = (b, o); ghost_name = γ; now = h }, (m, (x, tt)))

      abbrev xv : Val
      xv = slice_val x.ref_ptr (length x.now)

      abbrev at : Entries lent.signature (κ, (κ'', tt))
      at = (vptr b o ∷ [], (vint w32 m ∷ [], (xv ∷ [], tt)))

      abbrev Post : Val → SProp 𝓤
      Post = (walk_of 𝓛 lent stayed sets).post (((κ, (κ'', tt)), (q, (q'', tt)), tt, a, at), tt)

      abbrev Acts : Fml
      Acts = (MutSlice (named 1) κ'' u64).own_val x (xv ∷ [])

      -- the words given up: what says their last values, and the borrow, closed
      abbrev Gave : Fml
      Gave = fsep (finally u64 x.ghost_name x.now) (fbor κ'' (Body (Arr (Holey (mem u64)) (length x.now)) x.ref_ptr.0 x.ref_ptr.1 x.ghost_name))

      abbrev to : Quicks.Ghost
      to = ((tt, tt, tt, (L.hot h, (m, (length x.now, tt))), (hots (L.hot h), (vint w32 m ∷ [], (vint w64 (length x.now) ∷ [], tt)))), tt)

      asks : m < 2 ^ 32 → length x.now < 2 ^ 64 → Is O.the_row (L.hot h) (hots (L.hot h)) → ent 𝓤 (emp 𝓤) (Quicks.pre to)
      asks m-fits l-fits was =
          qed 𝓛 [] ∵ nothing ! $ owned ! usize (Is usize) (uint_Makes 𝓛 w64) (length x.now) _ (refl, l-fits) $ fjoin ! $ owned ! u32 (Is u32) (uint_Makes 𝓛 w32) m _ (refl, m-fits) $ fjoin ! $
          owned ! O.the_row (Is O.the_row) (LL.makes O.the_type O'.the_plain 𝓛) (L.hot h) _ was $ fjoin ! $ nothing ! $ join ! $ frame ! $ done !

      -- a slice that is still owned, given up
      gives_up : ent 𝓤 (sem 𝓛 Acts) (sem 𝓛 Gave)
      gives_up =
          qed 𝓛 (‵ Acts ∷ []) ∵ fsplit ! $ move ! (1 ∷ []) $ fsplit ! $ use1 𝓛 (‵ (fres x.ghost_name ((coded_holeys u64).code (heres u64 x.now)))) (𝓛.names.obs-res x.ghost_name ((coded_holeys u64).code (heres u64 x.now))) $
          use1 𝓛 (‵ (finally u64 x.ghost_name x.now)) (res-finally 𝓛 (named 1) κ'' u64 x.ghost_name x.now) $ keep ! (0 ∷ 1 ∷ []) $ fjoin ! $ done !

      exits : m < 2 ^ 32 → (d : L.Denot) (t : Told) → Is K.the_row t (LL.vals K.the_type K'.the_laws t) → (d ≡ gd h m (length x.now)) × (t ≡ gt h m (length x.now)) × (x.now ≡ ws h m x.now)
          → ent 𝓤 (⋆ 𝓛 (‵ (fobs γ (D.coded.code d)) ∷ ‵ (fbor κ (Body (mem D) b o γ)) ∷ ‵ (flft κ q) ∷ (‵ (flft κ'' q'') ⊛ ‵ ftrue) ∷ ‵ Gave ∷ [])) (Post (LL.val K.the_type K'.the_laws t))
      exits m-fits d t t-is e =
          qed 𝓛 (‵ (fobs γ (D.coded.code d)) ∷ ‵ (fbor κ (Body (mem D) b o γ)) ∷ ‵ (flft κ q) ∷ (‵ (flft κ'' q'') ⊛ ‵ ftrue) ∷ ‵ Gave ∷ []) ∵
          suffices ! _ (ends_at 𝓛 lent stayed sets (((κ, (κ'', tt)), (q, (q'', tt)), tt, a, at), tt) (LL.val K.the_type K'.the_laws t) t (d, (tt, (x.now, tt))) (tt, (tt, (refl, tt)))) $
          says ! e $ move ! (2 ∷ 3 ∷ []) $ join ! $ frame ! $
          -- [obs; the borrow; the last words]
          move ! (2 ∷ []) $ nothing ! $ move ! (1 ∷ 0 ∷ []) $ fjoin ! $ owned ! u32 (Is u32) (uint_Makes 𝓛 w32) m _ (refl, m-fits) $ fjoin ! $
          move ! (1 ∷ 2 ∷ []) $ feq_i ! (List Val) (vptr b o ∷ []) (vptr b o ∷ []) refl $ fjoin3 ! $ fjoin ! $ owned ! K.the_row (Is K.the_row) (LL.makes K.the_type K'.the_plain 𝓛) t _ t-is $ move ! (1 ∷ 0 ∷ []) $ done !

      bits_fit : (r : Raised) (vs : List Val) → Is Z.the_row r vs → r.bits < 2 ^ 32
      bits_fit r vs is = (LL.owed Z.the_type Z'.the_laws r vs is).0.1

      told_is : (r : Raised) (vs : List Val) → Is Z.the_row r vs → Is K.the_row r.told (LL.vals K.the_type K'.the_laws r.told)
      told_is r vs is = (LL.owed Z.the_type Z'.the_laws r vs is).1.0

      says_so : Law gd gt ws gq → (r : Raised) → r ≡ gq (L.hot h) m (length x.now)
          → (L.bits h r.bits ≡ gd h m (length x.now)) × (r.told ≡ gt h m (length x.now)) × (x.now ≡ ws h m x.now)
      says_so law r e =
          let z = law h m x.now in (ap (λ (u : Raised). L.bits h u.bits) e ∙ z.0, ap (λ (u : Raised). u.told) e ∙ z.1, z.2)

      module _ (j : Callee) (C : Calls 𝓤 H) (Λ : Loops 𝓤 H) (fm : FmC 𝓤 H 𝓛.laws C) (known : Triple 𝓤 (C j) Quicks) (law : Law gd gt ws gq) where
        walk : m < 2 ^ 32 → Room u64 (length x.now) → ent 𝓤 (on_entry 𝓛 lent.signature (κ, (κ'', tt)) (q, (q'', tt)) a at) (WpFn 𝓤 H C Λ (code j) (vptr b o ∷ vint w32 m ∷ xv ∷ []) Post)
        walk m-fits room =
            qed 𝓛 ((‵ (flft κ q) ⊛ (‵ (flft κ'' q'') ⊛ ‵ ftrue)) ∷ ‵ (owns (MutRef (named 0) κ D ∷ u32 ∷ MutSlice (named 1) κ'' u64 ∷ []) a at) ∷ []) ∵ enter ! C Λ (code j) (vptr b o ∷ vint w32 m ∷ xv ∷ []) _ $
            alloc1 ! (λ l₀. alloc1 ! (λ l₁. alloc1 ! (λ l₂. alloc1 ! (λ l₃. alloc1 ! (λ l₄. alloc1 ! (λ l₅. alloc1 ! (λ l₆. alloc1 ! (λ l₇. alloc0 ! $ params1 ! $
            pass1 ! (init ! 12 refl (tt, tt)) $ pass1 ! (init ! 10 refl (tt, record { fits = m-fits })) $ pass1 ! (init ! 8 refl (tt, (tt, (record { fits = room.0 }, tt)))) $ pass0 ! $
            move ! (16 ∷ 17 ∷ []) $ split ! $ move ! (1 ∷ []) $ split ! $ move ! (1 ∷ []) $ drop ! $ move ! (2 ∷ []) $ fsplit ! $ move ! (1 ∷ []) $ fsplit ! $ drop ! $ fsplit ! $ move ! (1 ∷ []) $ drop ! $
            move ! (1 ∷ []) $ fsplit3 ! $ drop ! $ move ! (0 ∷ 1 ∷ 4 ∷ 2 ∷ 3 ∷ []) $ opens ! tt D {h = h} b o (λ vs. spelt ! D (Is D) (shows 𝓛 D) vals L'.tells full_share h vs b o $
            move ! (1 ∷ []) $ peeks ! D (Is D) (shows 𝓛 D) h (vals h) (λ was. drop ! $ use1 𝓛 (‵ (fat full_share Dm b o (val h))) (𝓛.laws.raw_at full_share Dm b o _) $
            -- [cell; open; obs; auth; actions; κ'']
            assigns ! (of_opd ! (load ! (from ! (hop ! (look ! 18 refl) (fld ! refl (fld ! refl (stop !))))) (look_in ! 0 (sub ! 0 refl (sub ! 0 refl (whole !)))))) (from ! (stop !)) (init ! 10 refl ((LL.lawful O.the_type O'.the_laws 𝓛).typed (L.hot h) _ (L'.hot-is h was)).0) $
            assigns ! (of_opd ! (load ! (from ! (fld ! refl (stop !))) (look_in ! 14 (sub ! 1 refl (whole !))))) (from ! (stop !)) (init ! 8 refl (tt, record { fits = room.0 })) $
            use0 𝓛 (raw (Quicks.pre to)) (asks m-fits room.0 (L'.hot-is h was)) $ calls_at ! fm Quicks known to (and_then ! (load ! (from ! (stop !)) (look ! 11 refl)) (and_then ! (load ! (from ! (stop !)) (look ! 17 refl)) (and_then ! (load ! (from ! (stop !)) (look ! 9 refl)) (no_more !)))) (λ w.
            use1 𝓛 (later (some (λ (r : Raised). (‵ ftrue ⊛ ‵ ((Z.the_row).own_val r (w ∷ []))) ⊛ raw (ensured 𝓛 short.ended quicks tt (L.hot h, (m, (length x.now, tt))) tt r)))) (id⊢ 𝓤 _) $ await ! tt $ pick ! (λ r.
            split ! $ move ! (1 ∷ []) $ use1 𝓛 (raw (fact 𝓤 (r ≡ gq (L.hot h) m (length x.now)))) (ex_e 𝓤 _ (λ zs. snd∗ 𝓤 (sem 𝓛 (lasts short.ended tt (L.hot h, (m, (length x.now, tt))) zs)) (fact 𝓤 (r ≡ gq (L.hot h) m (length x.now))))) $ heard ! (r ≡ gq (L.hot h) m (length x.now)) (λ e.
            split ! $ drop ! $ peeks ! Z.the_row (Is Z.the_row) (shows 𝓛 Z.the_row) r (w ∷ []) (λ is. drop ! $
            -- [cell; open; obs; auth; actions; κ'']
            land ! (from ! (stop !)) (init ! 12 refl ((LL.lawful Z.the_type Z'.the_laws 𝓛).typed r _ is).0) $ rewrite ! 12 (λ (u : Val). ‵ (fat full_share Z'.mir l₄ 0 u)) (ap only (LL.tells Z.the_type Z'.the_laws r _ is)) refl $
            assigns ! (of_opd ! (load ! (from ! (fld ! refl (stop !))) (look_in ! 12 (sub ! 0 refl (whole !))))) (from ! (stop !)) (init ! 6 refl (tt, record { fits = bits_fit r _ is })) $
            assigns ! (of_opd ! (load ! (from ! (stop !)) (look ! 6 refl))) (from ! (hop ! (look ! 18 refl) (fld ! refl (fld ! refl (fld ! refl (stop !)))))) (store_in ! 0 (sub ! 1 refl (sub ! 0 refl (sub ! 0 refl (whole !)))) (tt, record { fits = bits_fit r _ is })) $
            assigns ! (of_opd ! (load ! (from ! (fld ! refl (stop !))) (look_in ! 12 (sub ! 1 refl (whole !))))) (from ! (stop !)) (init ! 20 refl ((LL.lawful K.the_type K'.the_laws 𝓛).typed r.told _ (told_is r _ is)).0) $
            rewrite ! 0 (λ (u : Hot). ‵ (fat full_share Dm b o (vstruct (vcons (vstruct (vcons (LL.val O.the_type O'.the_laws u) (shape.others L h))) vnil)))) (sym (L'.bits-hot h r.bits)) refl $ rewrite ! 0 (λ (u : Vals). ‵ (fat full_share Dm b o (vstruct (vcons (vstruct (vcons (LL.val O.the_type O'.the_laws (L.hot (L.bits h r.bits))) u)) vnil)))) (sym (L'.bits-others h r.bits)) refl $
            owned ! D (Is D) (L'.makes 𝓛) (L.bits h r.bits) _ (L'.bits_is h r.bits (bits_fit r _ is) was) $ move ! (1 ∷ 0 ∷ 2 ∷ 3 ∷ 4 ∷ []) $ use1 𝓛 (‵ (fat full_share (raw_ty Dm) b o (val (L.bits h r.bits)))) (𝓛.laws.at_raw full_share Dm b o _) $ closes ! tt D (L.bits h r.bits) (vals (L.bits h r.bits)) b o $
            returns ! (look ! 19 refl) $ forget ! 5 refl $ forget ! 7 refl $ forget ! 9 refl $ forget ! 11 refl $ forget ! 13 refl $ forget ! 15 refl $ forget ! 17 refl $ forget ! 19 refl $
            move ! (19 ∷ 20 ∷ []) $ free1 ! $ move ! (17 ∷ 18 ∷ []) $ free1 ! $ move ! (15 ∷ 16 ∷ []) $ free1 ! $ move ! (13 ∷ 14 ∷ []) $ free1 ! $ move ! (11 ∷ 12 ∷ []) $ free1 ! $ move ! (9 ∷ 10 ∷ []) $ free1 ! $ move ! (7 ∷ 8 ∷ []) $ free1 ! $ move ! (5 ∷ 6 ∷ []) $ free1 ! $ free0 ! $
            move ! (3 ∷ []) $ use1 𝓛 (‵ Gave) gives_up $ nothing ! $ move ! (5 ∷ 0 ∷ []) $ join ! $ move ! (2 ∷ 3 ∷ 4 ∷ 0 ∷ 1 ∷ []) $ keep ! (0 ∷ 1 ∷ 2 ∷ 3 ∷ 4 ∷ []) $ by ! (exits m-fits (L.bits h r.bits) r.told (told_is r _ is) (says_so law r e))))))))))))))))

    pub meets : (j : Callee) (𝓣 : Tables 𝓤 H) → Triple 𝓤 (𝓣.C j) Quicks → Law gd gt ws gq → Meets 𝓛 lent.signature (WpFn 𝓤 H 𝓣.C 𝓣.Λ (code j)) (closing 𝓛 lent sets)
    meets j 𝓣 known law = walk_Meets 𝓛 lent stayed
        (Goes-ref 𝓛 2 0 tt (plain (λ _. D)), (Goes-none 𝓛 2 (λ _. u32) yes (λ κs x f. refl), (Goes-gave_slice 𝓛 2 1 tt (plain (λ _. u64)), tt))) sets
        (WpFn 𝓤 H 𝓣.C 𝓣.Λ (code j)) (WpFn-mono 𝓤 H 𝓛.laws 𝓣 (code j))
        (walked 𝓛 lent stayed sets (WpFn 𝓤 H 𝓣.C 𝓣.Λ (code j)) (λ κs. (mut_vals, (uint_vals w32, (mut_slice_vals, tt))))
        (λ κs. (mut_Tells (named 0) κs.0 D, (uint_Tells w32, (mut_slice_Tells (named 1) κs.1.0 u64, tt))))
        (λ κs qs bounds a _ are. via 𝓤 _ (fst∗ 𝓤 _ (emp 𝓤)) (walk κs.0 κs.1.0 qs.0 qs.1.0 a.0.ref_ptr.0 a.0.ref_ptr.1 a.0.ghost_name a.0.now a.1.0 a.1.1.0 j 𝓣.C 𝓣.Λ (fm_of 𝓤 H 𝓛.laws 𝓣) known law are.1.0.1 are.1.1.0.0.1)))

  -- the export's theorem, from that of the function it calls
  pub spec : (gd : After) (gt : Tells) (ws : Words) (gq : Quick-raise) → Law gd gt ws gq → (key j : Callee) (env : Env) (rj : Routine) → env j ≡ rj
      → {M : Type 1} {𝓤 : Ura M} (𝓛 : Logic 𝓤) (𝓜 : Model 𝓤 𝓛.H) (𝓡 : Running 𝓤 𝓛.H 𝓜)
      → Closed 𝓤 𝓛.H (tables 𝓤 𝓛.H 𝓜 𝓡 env).C (tables 𝓤 𝓛.H 𝓜 𝓡 env).Λ key (code j) → Triple 𝓤 (𝓡.run rj) (Quicks gd gt ws gq 𝓛)
      → Meets 𝓛 lent.signature (𝓡.run (env key)) (closing 𝓛 lent (sets gd gt ws gq 𝓛))
  unfolding tables_of
  spec gd gt ws gq law key j env rj calls-j {𝓤 = 𝓤} 𝓛 𝓜 𝓡 opened met-j =
      entered 𝓤 𝓛.H (triple_of 𝓛 lent.signature (closing 𝓛 lent (sets gd gt ws gq 𝓛))) (tables 𝓤 𝓛.H 𝓜 𝓡 env).C (tables 𝓤 𝓛.H 𝓜 𝓡 env).Λ key (code j) opened
      (meets gd gt ws gq 𝓛 j (tables_of 𝓤 𝓛.H 𝓜 (tables 𝓤 𝓛.H 𝓜 𝓡 env)) (cited 𝓤 𝓛.H (Quicks gd gt ws gq 𝓛) 𝓜 𝓡 env j rj calls-j met-j) law)
