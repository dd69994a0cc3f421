-- Why `*self = (*self).with(v);` does to the lent message what `with` does to a message by value, whichever function `with`
-- is: only its key and its promise `r ≡ change self v` are used here, so each of the four setters cites this one walk, and
-- shows only that its own promise follows from `now self.exit ≡ change (now self.entry) v`. By value the prover finds
-- such proofs alone; behind a reference the body is walked by hand, statement by statement.
use mathlib.Core.Path.{◌≡◌, refl}
use mathlib.Core.List.{[], ◌∷◌, List}
use Prim.Native.Nat.{ℕ}
use seplogic.Ra.Ura.{Ura}
use base.Fraction.{full_share}
use lib.Dec.{T as Holds}
use mir.Syntax.{Callee, Fn, local, value_local, named, mut, w32, ty_unit, ty_int, ty_ref, place, deref, copy, rv_opd, opd_unit}
use mir.Syntax.{assign, call, seq, return}
use mir.Val.{Val, WT, has_ty, vunit, vint, vptr}
use base.Logic.{SProp, ent, sep, emp, via, fst∗, snd∗, ex_e, id⊢, emp∗, comm∗, mono_l}
use base.Fml.{GName, Lft, Share, ftrue, flft, fobs, fbor}
use types.Logic.{Logic, sem}
use prog.Wp.{Calls, Loops, WpFn, Tables, Closed}
use prog.Model.{Model}
use prog.Routine.{Routine, Env}
use contract.Lifetimes.{Lfts}
use contract.Monad.{fact}
use contract.Running.{Running, tables, tables_of}
use types.Kit.{Item, Step, step, prop}
use types.Kit.{‵, raw, ◌⊛◌, some, later, ◌$◌, ◌∵◌, !, qed, by, move, keep, drop, use1, split, join, pick, fsplit}
use types.Kit.{fsplit3, fjoin, fjoin3, feq_i, suffices, frame, await, done}
use types.Run.{look, look_raw, store_raw, init, forget, stop, hop, from, load, unit_lit, of_opd, and_then, no_more, land}
use types.Run.{assigns, returns, enter, alloc1, alloc0, params1, pass1, pass0, free1, free0}
use types.SemTy.{Body}
use sound.WpLaws.{FmC, fm_of, WpFn-mono}
use denote.RattleType.{owns}
use denote.Laws.{Is, shows}
use denote.Memory.{mem, pointee}
use denote.Plain.{uint_vals, uint_Tells, uint_Makes}
use denote.Builtin.{u32, unit, RefMutOf}
use denote.Ref.{MutBor, MutRef, mut_vals, mut_Tells}
use denote.Signature.{plain}
use denote.Steps.{opens, closes, owned, peeks, heard, nothing}
use denote.Struct.Steps.{spelt}
use denote.Struct.Laws as Struct
use denote.Triple.Entry.{Args, Res, on_entry}
use denote.Triple.Spec.{Meets, triple_of}
use denote.Triple.Statement.{Contract, Triple}
use denote.Triple.Call.{calls_at}
use denote.Triple.Table.{entered, cited}
use denote.Triple.Clauses.{Ended, Clauses, AtExit, at_exit, closing, ensured, lasts}
use denote.Triple.Walked.{Stays, stay_ref, stay_none, walk_of, Goes-none, Goes-ref, ends_at, walked, walk_Meets}
use denote.Exit.{yes}
use Rattle.msi.specs.declared.Msi.{Msi}
use Rattle.msi.specs.contracts.Msi as T
use Rattle.msi.proofs.Msi.TheLaws as Laws

-- `(&mut self, v: u32)`
abbrev pub setting : Ended
setting = record {
  signature = record {
    lifetimes = 1;
    outlives = [];
    params = RefMutOf (0 ∷ []) tt (plain (λ κs. T.the_row)) (λ κs. tt) ∷ plain (λ κs. u32) ∷ [];
    result = plain (λ κs. unit);
  };
  kept = (yes, (yes, tt));
}

-- `(self, v: u32) -> Self`
abbrev pub changing : Ended
changing = record {
  signature = record {
    lifetimes = 0;
    outlives = [];
    params = plain (λ κs. T.the_row) ∷ plain (λ κs. u32) ∷ [];
    result = plain (λ κs. T.the_row);
  };
  kept = (yes, (yes, tt));
}

-- the body as the compiler has it, but for the name of what it calls: _1 is self, _2 is v, _4 the copy and _3 the result
abbrev code : Callee → Fn
code k = record {
  lifetimes = 1;
  outlives = [];
  ty_params = [];
  givens = 0;
  params = 2;
  locals = local ty_unit value_local
      ∷ local (ty_ref (named 0) mut (pointee (T.the_row).written)) value_local
      ∷ local (ty_int w32) value_local
      ∷ local Laws.mir value_local
      ∷ local Laws.mir value_local
      ∷ [];
  body = seq (assign (place 4 []) (rv_opd (copy (place 1 (deref Laws.mir ∷ []))))) (
      seq (call k (copy (place 4 []) ∷ copy (place 2 []) ∷ []) (place 3 [])) (
      seq (assign (place 1 (deref Laws.mir ∷ [])) (rv_opd (copy (place 3 [])))) (
      seq (assign (place 0 []) (rv_opd opd_unit)) return)));
}

abbrev stayed : Stays setting.signature.params setting.kept
stayed = (stay_ref (0 ∷ []) tt (plain (λ _. T.the_row)), (stay_none (λ _. u32) yes, tt))

abbrev vals : Msi → List Val
vals = Struct.vals T.the_type Laws.the_laws

-- what a function ensures: of its arguments, its result and its arguments at the end
abbrev pub Promise : {M : Type 1} (𝓤 : Ura M) → Ended → Type 2
Promise 𝓤 T = (κs : Lfts T.signature.lifetimes) → Args T.signature κs → Res T.signature κs → AtExit T κs → SProp 𝓤

-- the contract that promises this and requires nothing
abbrev pub promising : {M : Type 1} (𝓤 : Ura M) (T : Ended) → Promise 𝓤 T → Clauses 𝓤 T
promising 𝓤 T p κs a = record { ghost = Unit {0}; requires = λ _. emp 𝓤; ensures = λ _ r e. p κs a r e }

-- the promise's part of a walk's end, from a proof that takes nothing of what is held
pub shown : {M : Type 1} {𝓤 : Ura M} {𝓛 : Logic 𝓤} {K : Type 0} {Γ : List (Item 𝓤)} → K
    → {P Q : SProp 𝓤} → ent 𝓤 (emp 𝓤) Q → Step K 𝓛 Γ (prop P) Γ (prop (sep 𝓤 P Q))
shown {𝓤 = 𝓤} t {P} {Q} h =
    step (λ s. record {
      prf = via 𝓤 P s.prf (via 𝓤 (sep 𝓤 (emp 𝓤) P) (emp∗ 𝓤 P)
          (via 𝓤 (sep 𝓤 Q P) (mono_l 𝓤 P h) (comm∗ 𝓤 Q P)));
    })

module _ (change : Msi → ℕ → Msi) {M : Type 1} {𝓤 : Ura M} (𝓛 : Logic 𝓤) where
  -- what is said of a setter's end, and of what the function that it calls returns
  open 𝓛 use {H, A}

  abbrev pub sets : Promise 𝓤 setting
  sets κs a r e = fact 𝓤 (e.0.now ≡ change a.0.now a.1.0)

  abbrev changes : Promise 𝓤 changing
  changes κs a r e = fact 𝓤 (r ≡ change a.0 a.1.0)

  -- the setter's own promise, for which it is enough that it follows from that
  abbrev pub Keeps : Promise 𝓤 setting → Type 1
  Keeps promise =
      (κs : Lfts 1) (a : Args setting.signature κs) (r : Unit {0}) (e : AtExit setting κs)
      → e.0.now ≡ change a.0.now a.1.0 → ent 𝓤 (emp 𝓤) (promise κs a r e)

  abbrev Changes : Contract 𝓤
  Changes = triple_of 𝓛 changing.signature (closing 𝓛 changing (promising 𝓤 changing changes))

  module _ (promise : Promise 𝓤 setting) (keeps : Keeps promise) where
    abbrev lent : Clauses 𝓤 setting
    lent = promising 𝓤 setting promise

    -- the message `m` lies at `b`, `o`, borrowed for `κ`; `v` is the word
    module _ (κ : Lft) (q : Share) (b o : ℕ) (γ : GName) (m : Msi) (v : ℕ) where
      abbrev args : MutBor Msi × (ℕ × Unit {0})
      args = (record { ref_ptr = (b, o); ghost_name = γ; now = m }, (v, tt))

      abbrev given : List Val × (List Val × Unit {0})
      given = (vptr b o ∷ [], (vint w32 v ∷ [], tt))

      abbrev Post : Val → SProp 𝓤
      Post = (walk_of 𝓛 setting stayed lent).post (((κ, tt), (q, tt), tt, args, given), tt)

      -- the call's arguments, as the callee's promise takes them
      abbrev to : Changes.Ghost
      to = ((tt, tt, tt, (m, (v, tt)), (vals m, (vint w32 v ∷ [], tt))), tt)

      fits : (n : Msi) (w : Val) → Is T.the_row n (w ∷ []) → Holds (has_ty Laws.mir w) × WT w
      fits n w is = ((Struct.lawful T.the_type Laws.the_laws 𝓛).typed n (w ∷ []) is).0

      asks : Is u32 v (vint w32 v ∷ []) → ent 𝓤 (sem 𝓛 ((T.the_row).own_val m (vals m))) (Changes.pre to)
      asks word =
          qed 𝓛 (‵ ((T.the_row).own_val m (vals m)) ∷ []) ∵
          nothing ! $ owned ! u32 (Is u32) (uint_Makes 𝓛 w32) v _ word $ fjoin ! $ move ! (1 ∷ 0 ∷ []) $ fjoin ! $
          nothing ! $ join ! $ frame ! $ done !

      -- the fact, without what the callee gives back of its arguments
      told : (r : Msi)
          → ent 𝓤 (ensured 𝓛 changing (promising 𝓤 changing changes) tt (m, (v, tt)) tt r) (fact 𝓤 (r ≡ change m v))
      told r = ex_e 𝓤 _ (λ ws. snd∗ 𝓤 (sem 𝓛 (lasts changing tt (m, (v, tt)) ws)) (fact 𝓤 (r ≡ change m v)))

      -- the message behind the reference is `r`, which is the change: that is the setter's promise
      ends : Is u32 v (vint w32 v ∷ []) → (r : Msi) → r ≡ change m v
          → ent 𝓤 (sep 𝓤 (A.obs γ ((T.the_row).coded.code r)) (sep 𝓤 (A.bor κ (Body (mem T.the_row) b o γ))
          (A.lft κ q))) (Post vunit)
      ends word r e =
          qed 𝓛 (‵ (fobs γ ((T.the_row).coded.code r)) ∷ ‵ (fbor κ (Body (mem T.the_row) b o γ)) ∷ ‵ (flft κ q) ∷ []) ∵
          suffices ! _ (ends_at 𝓛 setting stayed lent (((κ, tt), (q, tt), tt, args, given), tt) vunit tt
          (r, (tt, tt)) (tt, (tt, tt))) $
          shown ! (keeps (κ, tt) args tt (at_exit setting (κ, tt) args (r, (tt, tt))) e) $
          nothing ! $ move ! (3 ∷ 0 ∷ []) $ join ! $ frame ! $
          feq_i ! (List Val) (vptr b o ∷ []) (vptr b o ∷ []) refl $ fjoin3 ! $ nothing ! $
          owned ! u32 (Is u32) (uint_Makes 𝓛 w32) v _ word $ fjoin ! $ move ! (1 ∷ 0 ∷ []) $ fjoin ! $
          feq_i ! (List Val) (vunit ∷ []) (vunit ∷ []) refl $ move ! (1 ∷ 0 ∷ []) $ done !

      module _ (k : Callee) (C : Calls 𝓤 H) (Λ : Loops 𝓤 H) (fm : FmC 𝓤 H 𝓛.laws C)
          (known : Triple 𝓤 (C k) Changes) where
        walk : ent 𝓤 (on_entry 𝓛 setting.signature (κ, tt) (q, tt) args given)
            (WpFn 𝓤 H C Λ (code k) (vptr b o ∷ vint w32 v ∷ []) Post)
        walk =
            qed 𝓛 ((‵ (flft κ q) ⊛ ‵ ftrue) ∷ ‵ (owns (MutRef (named 0) κ T.the_row ∷ u32 ∷ []) args given) ∷ []) ∵
            split ! $ move ! (2 ∷ []) $ fsplit ! $ move ! (1 ∷ []) $ fsplit ! $
            peeks ! u32 (Is u32) (shows 𝓛 u32) v (vint w32 v ∷ []) (λ word.
            move ! (2 ∷ []) $ fsplit3 ! $ drop ! $ move ! (0 ∷ 1 ∷ 4 ∷ []) $
            -- held: the reference's record of the message, the borrow, the lifetime's token
            enter ! C Λ (code k) (vptr b o ∷ vint w32 v ∷ []) _ $
            alloc1 ! (λ l₀. alloc1 ! (λ l₁. alloc1 ! (λ l₂. alloc1 ! (λ l₃. alloc1 ! (λ l₄. alloc0 ! $ params1 ! $
            pass1 ! (init ! 6 refl (tt, tt)) $ pass1 ! (init ! 4 refl (tt, record { fits = word.1 })) $ pass0 ! $
            -- the borrow is opened, and under it lies the message's memory
            move ! (10 ∷ 11 ∷ 12 ∷ []) $ opens ! tt T.the_row {h = m} b o (λ vs.
            spelt ! T.the_row (Is T.the_row) (shows 𝓛 T.the_row) vals
            (Struct.tells T.the_type Laws.the_laws) full_share m vs b o $
            move ! (1 ∷ []) $ peeks ! T.the_row (Is T.the_row) (shows 𝓛 T.the_row) m (vals m) (λ was.
            move ! (1 ∷ 0 ∷ []) $
            -- _4 = *self
            assigns ! (of_opd ! (load ! (from ! (hop ! (look ! 11 refl) (stop !))) (look_raw ! 0 refl)))
            (from ! (stop !)) (init ! 5 refl (fits m _ was)) $
            -- _3 = with(_4, _2), of which nothing but the promise is known
            move ! (1 ∷ []) $ use1 𝓛 (raw (Changes.pre to)) (asks word) $
            calls_at ! fm Changes known to
            (and_then ! (load ! (from ! (stop !)) (look ! 5 refl))
            (and_then ! (load ! (from ! (stop !)) (look ! 9 refl)) (no_more !))) (λ w.
            use1 𝓛 (later (some (λ (r : Msi).
            (‵ ftrue ⊛ ‵ ((T.the_row).own_val r (w ∷ [])))
            ⊛ raw (ensured 𝓛 changing (promising 𝓤 changing changes) tt (m, (v, tt)) tt r))))
            (id⊢ 𝓤 _) $
            await ! tt $ pick ! (λ r.
            split ! $ move ! (1 ∷ []) $ use1 𝓛 (raw (fact 𝓤 (r ≡ change m v))) (told r) $
            heard ! (r ≡ change m v) (λ e. split ! $ drop ! $
            peeks ! T.the_row (Is T.the_row) (shows 𝓛 T.the_row) r (w ∷ []) (λ is.
            land ! (from ! (stop !)) (init ! 7 refl (fits r _ is)) $
            -- *self = _3, over what lay there
            assigns ! (of_opd ! (load ! (from ! (stop !)) (look ! 7 refl)))
            (from ! (hop ! (look ! 11 refl) (stop !))) (store_raw ! 1 refl (fits r _ is)) $
            assigns ! (of_opd ! (unit_lit !)) (from ! (stop !)) (init ! 13 refl (tt, tt)) $
            -- the borrow is closed with the new message in it, and the locals are given back
            move ! (1 ∷ 0 ∷ []) $ closes ! tt T.the_row r (w ∷ []) b o $
            returns ! (look ! 11 refl) $
            forget ! 3 refl $ forget ! 5 refl $ forget ! 7 refl $ forget ! 9 refl $ forget ! 11 refl $
            move ! (11 ∷ 12 ∷ []) $ free1 ! $ move ! (9 ∷ 10 ∷ []) $ free1 ! $ move ! (7 ∷ 8 ∷ []) $ free1 ! $
            move ! (5 ∷ 6 ∷ []) $ free1 ! $ move ! (3 ∷ 4 ∷ []) $ free1 ! $ free0 ! $
            keep ! (0 ∷ 1 ∷ 2 ∷ []) $ by ! (ends word r e)))))))))))))

    meets : (k : Callee) (𝓣 : Tables 𝓤 H) → Triple 𝓤 (𝓣.C k) Changes
        → Meets 𝓛 setting.signature (WpFn 𝓤 H 𝓣.C 𝓣.Λ (code k)) (closing 𝓛 setting lent)
    meets k 𝓣 known =
        walk_Meets 𝓛 setting stayed
        (Goes-ref 𝓛 1 0 tt (plain (λ _. T.the_row)), (Goes-none 𝓛 1 (λ _. u32) yes (λ κs x f. refl), tt)) lent
        (WpFn 𝓤 H 𝓣.C 𝓣.Λ (code k)) (WpFn-mono 𝓤 H 𝓛.laws 𝓣 (code k))
        (walked 𝓛 setting stayed lent (WpFn 𝓤 H 𝓣.C 𝓣.Λ (code k))
        (λ κs. (mut_vals, (uint_vals w32, tt))) (λ κs. (mut_Tells (named 0) κs.0 T.the_row, (uint_Tells w32, tt)))
        (λ κs qs bounds a _ _. via 𝓤 _ (fst∗ 𝓤 _ (emp 𝓤))
        (walk κs.0 qs.0 a.0.ref_ptr.0 a.0.ref_ptr.1 a.0.ghost_name a.0.now a.1.0 k 𝓣.C 𝓣.Λ
        (fm_of 𝓤 H 𝓛.laws 𝓣) known)))

-- A setter under the name `key`, whose one call is to `k`, keeps its promise if `k` does. All but `change` is for the
-- setter's own proof file to fill in, from what the compiler made of the setter and from the theorem of what it calls.
pub spec : (change : Msi → ℕ → Msi) (key k : Callee) (env : Env) (f : Routine) → env k ≡ f
    → {M : Type 1} {𝓤 : Ura M} (𝓛 : Logic 𝓤) (𝓜 : Model 𝓤 𝓛.H) (𝓡 : Running 𝓤 𝓛.H 𝓜)
    → (promise : Promise 𝓤 setting) → Keeps change 𝓛 promise
    → Closed 𝓤 𝓛.H (tables 𝓤 𝓛.H 𝓜 𝓡 env).C (tables 𝓤 𝓛.H 𝓜 𝓡 env).Λ key (code k)
    → Triple 𝓤 (𝓡.run f) (Changes change 𝓛)
    → Meets 𝓛 setting.signature (𝓡.run (env key)) (closing 𝓛 setting (promising 𝓤 setting promise))
unfolding tables_of
spec change key k env f calls {𝓤 = 𝓤} 𝓛 𝓜 𝓡 promise keeps opened met =
    entered 𝓤 𝓛.H (triple_of 𝓛 setting.signature (closing 𝓛 setting (promising 𝓤 setting promise)))
    (tables 𝓤 𝓛.H 𝓜 𝓡 env).C (tables 𝓤 𝓛.H 𝓜 𝓡 env).Λ key (code k) opened
    (meets change 𝓛 promise keeps k (tables_of 𝓤 𝓛.H 𝓜 (tables 𝓤 𝓛.H 𝓜 𝓡 env))
    (cited 𝓤 𝓛.H (Changes change 𝓛) 𝓜 𝓡 env k f calls met))
