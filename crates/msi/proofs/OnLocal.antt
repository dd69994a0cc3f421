-- Why `let mut staged = self; staged.set(v); staged` is the message after `set`, whichever lent setter `set` is: each of the
-- four `staged_` functions cites this walk. Whoever calls those is proved as if no reference were made.
use mathlib.Core.Path.{◌≡◌, refl, sym, ap, subst}
use mathlib.Core.List.{[], ◌∷◌, List}
use Prim.Native.Nat.{ℕ}
use seplogic.Ra.Ura.{Ura}
use base.Fraction.{full_share}
use lib.Dec.{T as Holds}
use mir.Syntax.{Callee, Fn, local, value_local, memory_slot, named, erased, mut, w32, ty_unit, ty_int, ty_ref, place, copy, rv_opd}
use mir.Syntax.{addr_of, assign, call, seq, return}
use mir.Val.{Val, WT, has_ty, vint, vptr}
use base.Logic.{SProp, ent, sep, emp, via, fst∗, id⊢}
use base.Fml.{GName, ftrue, fsep, fat, flft, flent}
use types.Logic.{Logic, sem}
use prog.Wp.{Calls, Loops, WpFn, Tables, Closed}
use prog.Model.{Model}
use prog.Routine.{Routine, Env}
use contract.Lifetimes.{Lfts}
use contract.Monad.{fact}
use contract.Running.{Running, tables, tables_of}
use types.Kit.{‵, raw, ◌⊛◌, some, later, ◌$◌, ◌∵◌, !, qed, by, move, keep, drop, use1, use2, use3, split, join, pick}
use types.Kit.{fsplit, fjoin, fpack, fpick, feq_l, suffices, frame, await, done}
use types.Run.{look, init, forget, stop, from, load, addr, of_opd, and_then, no_more, land, assigns, returns, enter, alloc1}
use types.Run.{alloc0, params1, pass1, pass0, free1, free0}
use types.Tokens.{lft_new, lft_end}
use types.SemTy.{Body}
use sound.WpLaws.{FmC, fm_of, WpFn-mono}
use denote.RattleType.{owns}
use denote.Laws.{Is, shows}
use denote.Memory.{mem, pointee, cell_at, part_of, part_at}
use denote.Lend.{lends_ref, ref_back}
use denote.Plain.{uint_vals, uint_Tells, uint_Makes}
use denote.Builtin.{u32, unit}
use denote.Ref.{MutBor, MutRef}
use denote.Steps.{only, owned, peeks, heard, nothing}
use denote.Struct.Steps.{spelt}
use denote.Struct.Laws as Struct
use denote.Triple.Entry.{Args, on_entry}
use denote.Triple.Spec.{Meets, triple_of}
use denote.Triple.Statement.{Contract, Triple}
use denote.Triple.Call.{calls_at}
use denote.Triple.Table.{entered, cited}
use denote.Triple.Clauses.{Clauses, AtExit, at_exit, closing, ensured, lasts}
use denote.Triple.Walked.{Stays, stay_none, walk_of, Goes-none, ends_at, walked, walk_Meets}
use denote.Exit.{yes}
use Rattle.msi.specs.declared.Msi.{Msi}
use Rattle.msi.specs.contracts.Msi as T
use Rattle.msi.proofs.Msi.TheLaws as Laws
use Rattle.msi.proofs.Lent.{Promise, promising, setting, changing, sets, shown}

-- the body as the compiler has it, but for the setter's name: _1 is self, _2 is v, _3 is staged, _5 the reference to it
abbrev code : Callee → Fn
code k = record {
  lifetimes = 0;
  outlives = [];
  ty_params = [];
  givens = 0;
  params = 2;
  locals = local Laws.mir value_local
      ∷ local Laws.mir value_local
      ∷ local (ty_int w32) value_local
      ∷ local Laws.mir memory_slot
      ∷ local ty_unit value_local
      ∷ local (ty_ref erased mut (pointee (T.the_row).written)) value_local
      ∷ [];
  body = seq (assign (place 3 []) (rv_opd (copy (place 1 [])))) (
      seq (assign (place 5 []) (addr_of (place 3 []))) (
      seq (call k (copy (place 5 []) ∷ copy (place 2 []) ∷ []) (place 4 [])) (
      seq (assign (place 0 []) (rv_opd (copy (place 3 [])))) return)));
}

abbrev stayed : Stays changing.signature.params changing.kept
stayed = (stay_none (λ _. T.the_row) yes, (stay_none (λ _. u32) yes, tt))

abbrev val : Msi → Val
val = Struct.val T.the_type Laws.the_laws

module _ (change : Msi → ℕ → Msi) {M : Type 1} {𝓤 : Ura M} (𝓛 : Logic 𝓤) where
  -- the function's own promise, for which it is enough that it follows from the change
  open 𝓛 use {H, A}

  abbrev pub Keeps : Promise 𝓤 changing → Type 1
  Keeps promise =
      (κs : Lfts 0) (a : Args changing.signature κs) (r : Msi) (e : AtExit changing κs)
      → r ≡ change a.0 a.1.0 → ent 𝓤 (emp 𝓤) (promise κs a r e)

  abbrev Sets : Contract 𝓤
  Sets = triple_of 𝓛 setting.signature (closing 𝓛 setting (promising 𝓤 setting (sets change 𝓛)))

  module _ (promise : Promise 𝓤 changing) (keeps : Keeps promise) where
    abbrev by_value : Clauses 𝓤 changing
    by_value = promising 𝓤 changing promise

    module _ (m : Msi) (v : ℕ) where
      abbrev given : List Val × (List Val × Unit {0})
      given = (val m ∷ [], (vint w32 v ∷ [], tt))

      abbrev Post : Val → SProp 𝓤
      Post = (walk_of 𝓛 changing stayed by_value).post ((tt, tt, tt, (m, (v, tt)), given), tt)

      -- the reference to the local at `l`, and the call's arguments as the setter's promise takes them
      abbrev lent : ℕ → GName → MutBor Msi
      lent l δ = record { ref_ptr = (l, 0); ghost_name = δ; now = m }

      abbrev to : ℕ → ℕ → GName → Sets.Ghost
      to α l δ = (((α ∷ [], tt), (full_share, tt), tt, (lent l δ, (v, tt)), (vptr l 0 ∷ [], (vint w32 v ∷ [], tt))), tt)

      fits : (n : Msi) (w : Val) → Is T.the_row n (w ∷ []) → Holds (has_ty Laws.mir w) × WT w
      fits n w is = ((Struct.lawful T.the_type Laws.the_laws 𝓛).typed n (w ∷ []) is).0

      asks : Is u32 v (vint w32 v ∷ []) → (α l : ℕ) (δ : GName)
          → ent 𝓤 (sep 𝓤 (A.lft (α ∷ []) full_share) (sem 𝓛
          ((MutRef (named 0) (α ∷ []) T.the_row).own_val (lent l δ) (vptr l 0 ∷ [])))) (Sets.pre (to α l δ))
      asks word α l δ =
          qed 𝓛 (‵ (flft (α ∷ []) full_share) ∷ ‵ ((MutRef (named 0) (α ∷ []) T.the_row).own_val (lent l δ) (vptr l 0 ∷ [])) ∷ []) ∵
          move ! (1 ∷ []) $ nothing ! $ owned ! u32 (Is u32) (uint_Makes 𝓛 w32) v _ word $ fjoin ! $
          move ! (1 ∷ 0 ∷ []) $ fjoin ! $ nothing ! $ move ! (2 ∷ 0 ∷ []) $ join ! $ join ! $ frame ! $ done !

      ends : Is T.the_row m (val m ∷ []) → Is u32 v (vint w32 v ∷ []) → (r : Msi) → r ≡ change m v
          → ent 𝓤 (sem 𝓛 ((T.the_row).own_val r (val r ∷ []))) (Post (val r))
      ends was word r e =
          qed 𝓛 (‵ ((T.the_row).own_val r (val r ∷ [])) ∷ []) ∵
          suffices ! _ (ends_at 𝓛 changing stayed by_value ((tt, tt, tt, (m, (v, tt)), given), tt) (val r) r
          (tt, (tt, tt)) (tt, (tt, tt))) $
          shown ! (keeps tt (m, (v, tt)) r (at_exit changing tt (m, (v, tt)) (tt, (tt, tt))) e) $
          nothing ! $ owned ! u32 (Is u32) (uint_Makes 𝓛 w32) v _ word $ fjoin ! $
          owned ! T.the_row (Is T.the_row) (Struct.makes T.the_type Laws.the_plain 𝓛) m _ was $ fjoin ! $ nothing ! $
          done !

      module _ (k : Callee) (C : Calls 𝓤 H) (Λ : Loops 𝓤 H) (fm : FmC 𝓤 H 𝓛.laws C) (known : Triple 𝓤 (C k) Sets) where
        walk : Is T.the_row m (val m ∷ []) → Is u32 v (vint w32 v ∷ [])
            → ent 𝓤 (on_entry 𝓛 changing.signature tt tt (m, (v, tt)) given)
            (WpFn 𝓤 H C Λ (code k) (val m ∷ vint w32 v ∷ []) Post)
        unfolding part_of
        walk was word =
            qed 𝓛 (‵ ftrue ∷ ‵ (owns (T.the_row ∷ u32 ∷ []) (m, (v, tt)) given) ∷ []) ∵
            enter ! C Λ (code k) (val m ∷ vint w32 v ∷ []) _ $
            alloc1 ! (λ l₀. alloc1 ! (λ l₁. alloc1 ! (λ l₂. alloc1 !
            (λ l₃. alloc1 ! (λ l₄. alloc1 ! (λ l₅. alloc0 ! $ params1 ! $
            pass1 ! (init ! 8 refl (fits m _ was)) $ pass1 ! (init ! 6 refl (tt, record { fits = word.1 })) $ pass0 ! $
            -- staged = self, and _5 = &mut staged
            assigns ! (of_opd ! (load ! (from ! (stop !)) (look ! 8 refl))) (from ! (stop !)) (init ! 4 refl (fits m _ was)) $
            assigns ! (addr ! (from ! (stop !))) (from ! (stop !)) (init ! 0 refl (tt, tt)) $
            -- the local's memory, with the message in it, is lent for a lifetime that begins here
            move ! (13 ∷ []) $ fsplit ! $
            move ! (6 ∷ []) $ use1 𝓛 (‵ (cell_at full_share (T.the_row).mir (val m ∷ []) l₃ 0))
            (𝓛.laws.at_raw full_share Laws.mir l₃ 0 (val m)) $
            fjoin ! $ fpack ! (List Val) (λ us. fsep (cell_at full_share (T.the_row).mir us l₃ 0) ((T.the_row).own_val m us))
            (val m ∷ []) $
            lft_new ! tt (λ α. move ! (1 ∷ []) $
            use1 𝓛 (later (some (λ (δ : GName).
            ‵ ((MutRef (named 0) (α ∷ []) T.the_row).own_val (lent l₃ δ) (vptr l₃ 0 ∷ []))
            ⊛ ‵ (flent (α ∷ []) (Body (mem T.the_row) l₃ 0 δ)))))
            (lends_ref 𝓛 T.the_row (named 0) (α ∷ []) m l₃ 0) $ await ! tt $ pick ! (λ δ. split ! $
            -- set(_5, _2)
            move ! (2 ∷ 0 ∷ []) $ use2 𝓛 (raw (Sets.pre (to α l₃ δ))) (asks word α l₃ δ) $
            calls_at ! fm Sets known (to α l₃ δ)
            (and_then ! (load ! (from ! (stop !)) (look ! 3 refl))
            (and_then ! (load ! (from ! (stop !)) (look ! 8 refl)) (no_more !))) (λ w.
            use1 𝓛 (later (some (λ (r : Unit {0}).
            ((‵ (flft (α ∷ []) full_share) ⊛ ‵ ftrue) ⊛ ‵ (unit.own_val r (w ∷ [])))
            ⊛ raw (ensured 𝓛 setting (promising 𝓤 setting (sets change 𝓛)) (α ∷ [], tt) (lent l₃ δ, (v, tt)) tt r))))
            (id⊢ 𝓤 _) $ await ! tt $ pick ! (λ _. split ! $ move ! (1 ∷ []) $
            -- the message that the setter left, `zs.0`, is the change
            use1 𝓛 (some (λ (zs : Msi × (Unit {0} × Unit {0})).
            ‵ (lasts setting (α ∷ [], tt) (lent l₃ δ, (v, tt)) zs) ⊛ raw (fact 𝓤 (zs.0 ≡ change m v)))) (id⊢ 𝓤 _) $
            pick ! (λ zs.
            split ! $ move ! (1 ∷ []) $ heard ! (zs.0 ≡ change m v) (λ e.
            -- (of the reference the setter also hands the borrow back, which ends with the lifetime)
            fsplit ! $ fsplit ! $ move ! (1 ∷ []) $ drop ! $
            move ! (2 ∷ []) $ split ! $ move ! (1 ∷ []) $ feq_l ! (λ l. split ! $
            land ! (from ! (stop !)) (init ! 8 refl (subst (λ (y : Val). Holds (has_ty ty_unit y) × WT y) (sym (ap only l))
            (tt, tt))) $
            -- the lifetime ends, and the local is owned again, with that message in it
            lft_end ! tt $ move ! (0 ∷ 4 ∷ 2 ∷ []) $
            use3 𝓛 (later (‵ (part_at T.the_row full_share zs.0 l₃ 0))) (ref_back 𝓛 T.the_row (α ∷ []) δ zs.0 l₃ 0) $
            await ! tt $ fpick ! (λ vs. fsplit ! $
            spelt ! T.the_row (Is T.the_row) (shows 𝓛 T.the_row) (λ d. val d ∷ [])
            (Struct.tells T.the_type Laws.the_laws) full_share zs.0 vs l₃ 0 $
            use1 𝓛 (‵ (fat full_share Laws.mir l₃ 0 (val zs.0)))
            (𝓛.laws.raw_at full_share Laws.mir l₃ 0 (val zs.0)) $ move ! (1 ∷ []) $
            peeks ! T.the_row (Is T.the_row) (shows 𝓛 T.the_row) zs.0 (val zs.0 ∷ []) (λ is.
            -- it is returned
            assigns ! (of_opd ! (load ! (from ! (stop !)) (look ! 1 refl))) (from ! (stop !))
            (init ! 14 refl (fits zs.0 _ is)) $
            returns ! (look ! 14 refl) $
            forget ! 1 refl $ forget ! 5 refl $ forget ! 7 refl $ forget ! 10 refl $ forget ! 12 refl $ forget ! 14 refl $
            move ! (14 ∷ 15 ∷ []) $ free1 ! $ move ! (12 ∷ 13 ∷ []) $ free1 ! $ move ! (10 ∷ 11 ∷ []) $ free1 ! $
            move ! (1 ∷ 9 ∷ []) $ free1 ! $ move ! (6 ∷ 7 ∷ []) $ free1 ! $ move ! (4 ∷ 5 ∷ []) $ free1 ! $ free0 ! $
            keep ! (0 ∷ []) $ by ! (ends was word zs.0 e))))))))))))))))

    meets : (k : Callee) (𝓣 : Tables 𝓤 H) → Triple 𝓤 (𝓣.C k) Sets
        → Meets 𝓛 changing.signature (WpFn 𝓤 H 𝓣.C 𝓣.Λ (code k)) (closing 𝓛 changing by_value)
    meets k 𝓣 known =
        walk_Meets 𝓛 changing stayed
        (Goes-none 𝓛 0 (λ _. T.the_row) yes (λ κs x f. refl), (Goes-none 𝓛 0 (λ _. u32) yes (λ κs x f. refl), tt)) by_value
        (WpFn 𝓤 H 𝓣.C 𝓣.Λ (code k)) (WpFn-mono 𝓤 H 𝓛.laws 𝓣 (code k))
        (walked 𝓛 changing stayed by_value (WpFn 𝓤 H 𝓣.C 𝓣.Λ (code k))
        (λ κs. (Struct.vals T.the_type Laws.the_laws, (uint_vals w32, tt)))
        (λ κs. (Struct.tells T.the_type Laws.the_laws, (uint_Tells w32, tt)))
        (λ κs qs bounds a _ are. via 𝓤 _ (fst∗ 𝓤 _ (emp 𝓤))
        (walk a.0 a.1.0 k 𝓣.C 𝓣.Λ (fm_of 𝓤 H 𝓛.laws 𝓣) known are.0 are.1.0)))

-- A function under the name `key` with this body keeps its promise if the setter `k` keeps its own; the proof files of the
-- four fill in the rest, as in Lent.antt.
pub spec : (change : Msi → ℕ → Msi) (key k : Callee) (env : Env) (f : Routine) → env k ≡ f
    → {M : Type 1} {𝓤 : Ura M} (𝓛 : Logic 𝓤) (𝓜 : Model 𝓤 𝓛.H) (𝓡 : Running 𝓤 𝓛.H 𝓜)
    → (promise : Promise 𝓤 changing) → Keeps change 𝓛 promise
    → Closed 𝓤 𝓛.H (tables 𝓤 𝓛.H 𝓜 𝓡 env).C (tables 𝓤 𝓛.H 𝓜 𝓡 env).Λ key (code k)
    → Triple 𝓤 (𝓡.run f) (Sets change 𝓛)
    → Meets 𝓛 changing.signature (𝓡.run (env key)) (closing 𝓛 changing (promising 𝓤 changing promise))
unfolding tables_of
spec change key k env f calls {𝓤 = 𝓤} 𝓛 𝓜 𝓡 promise keeps opened met =
    entered 𝓤 𝓛.H (triple_of 𝓛 changing.signature (closing 𝓛 changing (promising 𝓤 changing promise)))
    (tables 𝓤 𝓛.H 𝓜 𝓡 env).C (tables 𝓤 𝓛.H 𝓜 𝓡 env).Λ key (code k) opened
    (meets change 𝓛 promise keeps k (tables_of 𝓤 𝓛.H 𝓜 (tables 𝓤 𝓛.H 𝓜 𝓡 env))
    (cited 𝓤 𝓛.H (Sets change 𝓛) 𝓜 𝓡 env k f calls met))
