-- `dewbracket_poll_read`: the polled part goes to `quick_read`, and its answer comes back. A walk of its code, once, over any such
-- function, and any device that begins with its polled part. The device is looked at through a share of it, and stays.
use mathlib.Core.Path.{◌≡◌, refl, ap, subst}
use Prim.Native.Nat.{ℕ, ◌<◌, ◌^◌}
use mathlib.Core.List.{[], ◌∷◌, List}
use seplogic.Ra.Ura.{Ura}
use base.Fraction.{full_share}
use mir.Syntax.{Callee, Fn, Ty, local, value_local, named, imm, w64, ty_int, ty_ref, place, deref, field, copy, rv_opd, assign, call, seq, return}
use mir.Val.{Val, vint, vptr}
use mir.Raw.{raw as raw_ty}
use base.Logic.{SProp, ent, emp, via, fst∗, snd∗, ex_e, id⊢}
use base.Fml.{Lft, Share, ftrue, flft, fat}
use prog.Wp.{Calls, Loops, WpFn, Tables, Closed}
use prog.Model.{Model}
use prog.Routine.{Routine, Env}
use types.Logic.{Logic, sem}
use contract.Monad.{fact}
use contract.Running.{Running, tables, tables_of}
use types.Kit.{‵, raw, ◌⊛◌, ⋆, some, later, ◌$◌, ◌∵◌, !, qed, by, move, keep, drop, use0, use1, split, join, pick, rewrite, fsplit, fjoin, feq_i, suffices, frame, await, done}
use types.Run.{look, init, forget, stop, hop, fld, from, load, of_opd, and_then, no_more, land, assigns, returns, enter, alloc1, alloc0, params1, pass1, pass0, free1, free0}
use types.Part.{whole, sub, look_in}
use sound.WpLaws.{FmC, fm_of, WpFn-mono}
use denote.RattleType.{RattleType, owns}
use denote.Laws.{Is, shows}
use denote.Memory.{hidden_shr, pointee}
use denote.Plain.{uint_vals, uint_Tells, uint_Makes}
use denote.Builtin.{u64, usize, RefOf}
use denote.Ref.{Bor, shr_vals, ShrRef, shr_Tells}
use denote.Signature.{plain}
use denote.Steps.{only, looks, shuts, owned, peeks, heard, nothing}
use denote.Struct.Steps.{spelt}
use denote.Struct.Laws as LL
use denote.Triple.Entry.{on_entry, Vals as Entries}
use denote.Triple.Spec.{Meets, triple_of}
use denote.Triple.Statement.{Contract, Triple}
use denote.Triple.Call.{calls_at}
use denote.Triple.Table.{entered, cited}
use denote.Triple.Clauses.{Ended, Clauses, closing, ensured, lasts}
use denote.Triple.Walked.{says, Stays, stay_none_ref, stay_none, walk_of, Goes-none_ref, Goes-none, ends_at, walked, walk_Meets}
use denote.Exit.{yes}
use Rattle.mmio_hot.specs.declared.Hot.{Hot}
use Rattle.mmio_hot.specs.contracts.Hot as O
use Rattle.mmio_hot.proofs.Hot.TheLaws as O'
use Rattle.mmio_fast.specs.declared.Quick.{Quick}
use Rattle.mmio_fast.specs.contracts.Quick as Q
use Rattle.mmio_fast.proofs.Quick.TheLaws as Q'
use Rattle.mmio_fast.specs.contracts.quick_read as short
use Rattle.mmio_lent.proofs.Shape as shape
use Rattle.mmio_lent.proofs.Shape.{hots, Lent}

module _ (L : Lent) (L' : shape.Laws L) where
  abbrev D : RattleType
  D = shape.row L

  abbrev Dm : Ty
  Dm = shape.lies L

  abbrev vals : L.Denot → List Val
  vals = shape.vals L

  abbrev val : L.Denot → Val
  val = shape.val L

  -- the export's signature
  abbrev pub lent : Ended
  lent =
      record {
        signature = record { lifetimes = 1; outlives = []; params = RefOf (0 ∷ []) tt (plain (λ κs. D)) (λ κs. tt) ∷ plain (λ κs. u64) ∷ plain (λ κs. usize) ∷ plain (λ κs. usize) ∷ []; result = plain (λ κs. Q.the_row) };
        kept = (yes, (yes, (yes, (yes, tt))));
      }

  abbrev stayed : Stays lent.signature.params lent.kept
  stayed = (stay_none_ref (0 ∷ []) tt (plain (λ _. D)) yes, (stay_none (λ _. u64) yes, (stay_none (λ _. usize) yes, (stay_none (λ _. usize) yes, tt))))

  -- the code, with the key of what it calls
  abbrev pub code : Callee → Fn
  code j =
      record {
        lifetimes = 1;
        outlives = [];
        ty_params = [];
        givens = 0;
        params = 4;
        locals = local Q'.mir value_local ∷ local (ty_ref (named 0) imm (pointee L.written)) value_local ∷ local (ty_int w64) value_local ∷ local (ty_int w64) value_local ∷ local (ty_int w64) value_local ∷ local O'.mir value_local ∷ [];
        body =
            seq (assign (place 5 []) (rv_opd (copy (place 1 (deref Dm ∷ field 0 ∷ field 0 ∷ []))))) (
            seq (call j (copy (place 5 []) ∷ copy (place 2 []) ∷ copy (place 3 []) ∷ copy (place 4 []) ∷ []) (place 0 [])) return);
      }

  abbrev pub Polls : Type 0
  Polls = Hot → ℕ → ℕ → ℕ → Quick

  module _ (gq : Polls) {M : Type 1} {𝓤 : Ura M} (𝓛 : Logic 𝓤) where
    open 𝓛 use {H}

    abbrev pub sets : Clauses 𝓤 lent
    sets κs a = record { ghost = Unit {0}; requires = λ _. emp 𝓤; ensures = λ _ r e. fact 𝓤 (r ≡ gq (L.hot a.0.now) a.1.0 a.1.1.0 a.1.1.1.0) }

    abbrev pub quicks : Clauses 𝓤 short.ended
    quicks κs a = record { ghost = Unit {0}; requires = λ _. emp 𝓤; ensures = λ _ r e. fact 𝓤 (r ≡ gq a.0 a.1.0 a.1.1.0 a.1.1.1.0) }

    abbrev pub Quicks : Contract 𝓤
    Quicks = triple_of 𝓛 short.signature (closing 𝓛 short.ended quicks)

    module _ (κ : Lft) (q : Share) (b o : ℕ) (h : L.Denot) (n l m : ℕ) where
      abbrev a : Bor L.Denot × (ℕ × (ℕ × (ℕ × Unit {0})))
      a = (record { ref_ptr = (b, o); now = h }, (n, (l, (m, tt))))

      abbrev at : Entries lent.signature (κ, tt)
      at = (vptr b o ∷ [], (vint w64 n ∷ [], (vint w64 l ∷ [], (vint w64 m ∷ [], tt))))

      abbrev Post : Val → SProp 𝓤
      Post = (walk_of 𝓛 lent stayed sets).post (((κ, tt), (q, tt), tt, a, at), tt)

      abbrev G : Quick
      G = gq (L.hot h) n l m

      -- what the callee's triple binds outside
      abbrev to : Quicks.Ghost
      to = ((tt, tt, tt, (L.hot h, (n, (l, (m, tt)))), (hots (L.hot h), (vint w64 n ∷ [], (vint w64 l ∷ [], (vint w64 m ∷ [], tt))))), tt)

      module _ (n-fits : n < 2 ^ 64) (l-fits : l < 2 ^ 64) (m-fits : m < 2 ^ 64) where
        asks : Is O.the_row (L.hot h) (hots (L.hot h)) → ent 𝓤 (emp 𝓤) (Quicks.pre to)
        asks was =
            qed 𝓛 [] ∵ nothing ! $ owned ! usize (Is usize) (uint_Makes 𝓛 w64) m _ (refl, m-fits) $ fjoin ! $ owned ! usize (Is usize) (uint_Makes 𝓛 w64) l _ (refl, l-fits) $ fjoin ! $
            owned ! u64 (Is u64) (uint_Makes 𝓛 w64) n _ (refl, n-fits) $ fjoin ! $ owned ! O.the_row (Is O.the_row) (LL.makes O.the_type O'.the_plain 𝓛) (L.hot h) _ was $ fjoin ! $ nothing ! $ join ! $ frame ! $ done !

        exits : (r : Quick) → Is Q.the_row r (LL.vals Q.the_type Q'.the_laws r) → r ≡ G
            → ent 𝓤 (⋆ 𝓛 (‵ (flft κ q) ∷ ‵ (hidden_shr D κ h b o) ∷ [])) (Post (LL.val Q.the_type Q'.the_laws r))
        exits r r-is e =
            qed 𝓛 (‵ (flft κ q) ∷ ‵ (hidden_shr D κ h b o) ∷ []) ∵
            suffices ! _ (ends_at 𝓛 lent stayed sets (((κ, tt), (q, tt), tt, a, at), tt) (LL.val Q.the_type Q'.the_laws r) r (tt, (tt, (tt, (tt, tt)))) (tt, (tt, (tt, (tt, tt))))) $ says ! e $
            nothing ! $ move ! (1 ∷ 0 ∷ []) $ join ! $ frame ! $ feq_i ! (List Val) (vptr b o ∷ []) (vptr b o ∷ []) refl $ fjoin ! $
            nothing ! $ owned ! usize (Is usize) (uint_Makes 𝓛 w64) m _ (refl, m-fits) $ fjoin ! $ owned ! usize (Is usize) (uint_Makes 𝓛 w64) l _ (refl, l-fits) $ fjoin ! $
            owned ! u64 (Is u64) (uint_Makes 𝓛 w64) n _ (refl, n-fits) $ fjoin ! $ move ! (1 ∷ 0 ∷ []) $ fjoin ! $ frame ! $ owned ! Q.the_row (Is Q.the_row) (LL.makes Q.the_type Q'.the_plain 𝓛) r _ r-is $ done !

        module _ (j : Callee) (C : Calls 𝓤 H) (Λ : Loops 𝓤 H) (fm : FmC 𝓤 H 𝓛.laws C) (known : Triple 𝓤 (C j) Quicks) where
          walk : ent 𝓤 (on_entry 𝓛 lent.signature (κ, tt) (q, tt) a at) (WpFn 𝓤 H C Λ (code j) (vptr b o ∷ vint w64 n ∷ vint w64 l ∷ vint w64 m ∷ []) Post)
          walk =
              qed 𝓛 ((‵ (flft κ q) ⊛ ‵ ftrue) ∷ ‵ (owns (ShrRef (named 0) κ D ∷ u64 ∷ usize ∷ usize ∷ []) a at) ∷ []) ∵ enter ! C Λ (code j) (vptr b o ∷ vint w64 n ∷ vint w64 l ∷ vint w64 m ∷ []) _ $
              alloc1 ! (λ l₀. alloc1 ! (λ l₁. alloc1 ! (λ l₂. alloc1 ! (λ l₃. alloc1 ! (λ l₄. alloc1 ! (λ l₅. alloc0 ! $ params1 ! $
              pass1 ! (init ! 8 refl (tt, tt)) $ pass1 ! (init ! 6 refl (tt, record { fits = n-fits })) $ pass1 ! (init ! 4 refl (tt, record { fits = l-fits })) $ pass1 ! (init ! 2 refl (tt, record { fits = m-fits })) $ pass0 ! $
              move ! (12 ∷ 13 ∷ []) $ split ! $ move ! (1 ∷ []) $ drop ! $ move ! (1 ∷ []) $ fsplit ! $ move ! (1 ∷ []) $ fsplit ! $ drop ! $ fsplit ! $ drop ! $ fsplit ! $ drop ! $ drop ! $
              fsplit ! $ drop ! $ looks ! tt D (L'.opens 𝓛) h b o (λ s' vs.
              spelt ! D (Is D) (shows 𝓛 D) vals L'.tells s' h vs b o $ move ! (1 ∷ []) $ peeks ! D (Is D) (shows 𝓛 D) h (vals h) (λ was. move ! (1 ∷ 0 ∷ []) $ use1 𝓛 (‵ (fat s' Dm b o (val h))) (𝓛.laws.raw_at s' Dm b o _) $
              -- [cell; own; open; what the reference holds]
              assigns ! (of_opd ! (load ! (from ! (hop ! (look ! 12 refl) (fld ! refl (fld ! refl (stop !))))) (look_in ! 0 (sub ! 0 refl (sub ! 0 refl (whole !)))))) (from ! (stop !)) (init ! 4 refl ((LL.lawful O.the_type O'.the_laws 𝓛).typed (L.hot h) _ (L'.hot-is h was)).0) $
              use0 𝓛 (raw (Quicks.pre to)) (asks (L'.hot-is h was)) $ calls_at ! fm Quicks known to (and_then ! (load ! (from ! (stop !)) (look ! 5 refl)) (and_then ! (load ! (from ! (stop !)) (look ! 11 refl)) (and_then ! (load ! (from ! (stop !)) (look ! 9 refl)) (and_then ! (load ! (from ! (stop !)) (look ! 7 refl)) (no_more !))))) (λ w.
              use1 𝓛 (later (some (λ (z : Quick). (‵ ftrue ⊛ ‵ ((Q.the_row).own_val z (w ∷ []))) ⊛ raw (ensured 𝓛 short.ended quicks tt (L.hot h, (n, (l, (m, tt)))) tt z)))) (id⊢ 𝓤 _) $ await ! tt $ pick ! (λ r.
              split ! $ move ! (1 ∷ []) $ use1 𝓛 (raw (fact 𝓤 (r ≡ G))) (ex_e 𝓤 _ (λ zs. snd∗ 𝓤 (sem 𝓛 (lasts short.ended tt (L.hot h, (n, (l, (m, tt)))) zs)) (fact 𝓤 (r ≡ G)))) $ heard ! (r ≡ G) (λ e.
              split ! $ drop ! $ peeks ! Q.the_row (Is Q.the_row) (shows 𝓛 Q.the_row) r (w ∷ []) (λ is. drop ! $
              land ! (from ! (stop !)) (init ! 14 refl ((LL.lawful Q.the_type Q'.the_laws 𝓛).typed r _ is).0) $ rewrite ! 14 (λ (u : Val). ‵ (fat full_share Q'.mir l₀ 0 u)) (ap only (LL.tells Q.the_type Q'.the_laws r _ is)) refl $
              use1 𝓛 (‵ (fat s' (raw_ty Dm) b o (val h))) (𝓛.laws.at_raw s' Dm b o _) $ shuts ! tt D s' h (vals h) b o $
              -- [κ; what the reference holds]
              returns ! (look ! 12 refl) $ forget ! 2 refl $ forget ! 4 refl $ forget ! 6 refl $ forget ! 8 refl $ forget ! 10 refl $ forget ! 12 refl $
              move ! (12 ∷ 13 ∷ []) $ free1 ! $ move ! (10 ∷ 11 ∷ []) $ free1 ! $ move ! (8 ∷ 9 ∷ []) $ free1 ! $ move ! (6 ∷ 7 ∷ []) $ free1 ! $ move ! (4 ∷ 5 ∷ []) $ free1 ! $ move ! (2 ∷ 3 ∷ []) $ free1 ! $ free0 ! $
              keep ! (0 ∷ 1 ∷ []) $ by ! (exits r (subst (λ (vs : List Val). Is Q.the_row r vs) (LL.tells Q.the_type Q'.the_laws r _ is) is) e)))))))))))))

    pub meets : (j : Callee) (𝓣 : Tables 𝓤 H) → Triple 𝓤 (𝓣.C j) Quicks → Meets 𝓛 lent.signature (WpFn 𝓤 H 𝓣.C 𝓣.Λ (code j)) (closing 𝓛 lent sets)
    meets j 𝓣 known = walk_Meets 𝓛 lent stayed
        (Goes-none_ref 𝓛 1 (0 ∷ []) tt (plain (λ _. D)) yes, (Goes-none 𝓛 1 (λ _. u64) yes (λ κs x f. refl), (Goes-none 𝓛 1 (λ _. usize) yes (λ κs x f. refl), (Goes-none 𝓛 1 (λ _. usize) yes (λ κs x f. refl), tt)))) sets
        (WpFn 𝓤 H 𝓣.C 𝓣.Λ (code j)) (WpFn-mono 𝓤 H 𝓛.laws 𝓣 (code j))
        (walked 𝓛 lent stayed sets (WpFn 𝓤 H 𝓣.C 𝓣.Λ (code j)) (λ κs. (shr_vals, (uint_vals w64, (uint_vals w64, (uint_vals w64, tt)))))
        (λ κs. (shr_Tells (named 0) κs.0 D, (uint_Tells w64, (uint_Tells w64, (uint_Tells w64, tt)))))
        (λ κs qs bounds a _ are. via 𝓤 _ (fst∗ 𝓤 _ (emp 𝓤)) (walk κs.0 qs.0 a.0.ref_ptr.0 a.0.ref_ptr.1 a.0.now a.1.0 a.1.1.0 a.1.1.1.0 are.1.0.1 are.1.1.0.1 are.1.1.1.0.1 j 𝓣.C 𝓣.Λ (fm_of 𝓤 H 𝓛.laws 𝓣) known)))

  -- the export's theorem, from that of the function it calls
  pub spec : (gq : Polls) → (key j : Callee) (env : Env) (rj : Routine) → env j ≡ rj
      → {M : Type 1} {𝓤 : Ura M} (𝓛 : Logic 𝓤) (𝓜 : Model 𝓤 𝓛.H) (𝓡 : Running 𝓤 𝓛.H 𝓜)
      → Closed 𝓤 𝓛.H (tables 𝓤 𝓛.H 𝓜 𝓡 env).C (tables 𝓤 𝓛.H 𝓜 𝓡 env).Λ key (code j) → Triple 𝓤 (𝓡.run rj) (Quicks gq 𝓛)
      → Meets 𝓛 lent.signature (𝓡.run (env key)) (closing 𝓛 lent (sets gq 𝓛))
  unfolding tables_of
  spec gq key j env rj calls-j {𝓤 = 𝓤} 𝓛 𝓜 𝓡 opened met-j =
      entered 𝓤 𝓛.H (triple_of 𝓛 lent.signature (closing 𝓛 lent (sets gq 𝓛))) (tables 𝓤 𝓛.H 𝓜 𝓡 env).C (tables 𝓤 𝓛.H 𝓜 𝓡 env).Λ key (code j) opened
      (meets gq 𝓛 j (tables_of 𝓤 𝓛.H 𝓜 (tables 𝓤 𝓛.H 𝓜 𝓡 env)) (cited 𝓤 𝓛.H (Quicks gq 𝓛) 𝓜 𝓡 env j rj calls-j met-j))
