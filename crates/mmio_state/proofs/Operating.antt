-- Records played from the front of the lent words are the effect's: the state, the count and the words together.
use mathlib.Core.Bool.{Bool, true, false}
use mathlib.Core.Path.{◌≡◌, refl, sym, ap, ap₂, ◌∙◌}
use mathlib.Core.List.{List, [], ◌∷◌, append-nil}
use Prim.Native.Nat.{ℕ, ◌*◌, ◌≤◌}
use native.Mathlib.Omega.{arith}
use borrow.Author.Tests.{le-ltb, ltb-false}
use lib.Dec.{ltb}
use lib.ListN.{length}
use lib.Seq.{sets}
use Rattle.std.specs.Prelude.{Result, Ok, Err}
use Rattle.words.specs.Pick.{pick}
use Rattle.words.specs.declared.Refusal.{Refusal}
use Rattle.words.specs.declared.Refusal.TheVariants.{ActionSpace}
use Rattle.words.specs.Actions.{Emitted, fitting, words_of}
use Rattle.words.specs.declared.Action.{Action}
use Rattle.words.proofs.Actions.{fits, length-words}
use Rattle.tape.specs.Held.{held_after}
use Rattle.std.specs.Borrow.{MutBor}
use Rattle.tape.specs.Play.{IsBegun, Played, Sheet, laid}
use Rattle.tape.specs.declared.Held.{Held}
use Rattle.tape.specs.declared.Recorder.{Recorder}
use Rattle.tape.proofs.Playing.{listed, played}
use Rattle.activation.specs.Requests.{start_records, begins, stop_records, stops}
use Rattle.activation.proofs.Bound.{start-most, stop-most}
use Rattle.mmio_state.specs.State.{State, queues_in}
use Rattle.mmio_state.specs.Effect.{Effect, ended, room, done, written}
use Rattle.mmio_state.specs.Activation.{queues_valid, settled, wiped, starting, starts_at, activating, stopping, resetting}
use Rattle.mmio_state.specs.declared.Done.{Done}

-- a state for each outcome, and the records
module _ (s : State) (k : ℕ) (after : Bool → List Held → State) where
  abbrev came : Bool → List Held → ℕ → Done
  came ok hs n = record { state = after ok hs; ok = ok; count = n }

  abbrev effect_of : Bool → List Action → Effect
  effect_of ok xs = record { state = after ok (held_after s.config.base s.held k xs); ok = ok; actions = xs }

  as-effect : (w : MutBor (List ℕ)) (r r' : Recorder) (xs : List Action) (ok : Bool) → 5 * length xs ≤ length w.now
      → IsBegun w s.config.base k s.held r → Played r xs r'
      → (came ok r'.tape.held r'.tape.count ≡ ended (effect_of ok xs)) × (r'.words.now ≡ laid w.now xs)
  as-effect w r r' xs ok n g e =
      let p : (r'.words.now ≡ laid w.now xs) × ((r'.tape.count ≡ length xs) × (r'.tape.held ≡ held_after s.config.base s.held k xs)) = played g e n in
      (ap₂ (λ (m : ℕ) (hs : List Held). came ok hs m) p.1.0 p.1.1, p.0)

module _ (s : State) (k : ℕ) (w : MutBor (List ℕ)) (room : 320 ≤ length w.now) (r : Recorder) (g : IsBegun w s.config.base k s.held r)
    (n : ℕ) (is : n ≡ queues_in s) (r' : Recorder) (ok : Bool) where
  left-is : r.tape.left ≡ k
  left-is = ap (λ (q : Sheet). q.left) g.is

  pub start-effect : s.flags.active ≡ false → (v : Bool) → v ≡ queues_valid s
      → Played r (start_records r.base s.hot.doorbell n v r.tape.left) r'
      → ok ≡ begins s.hot.doorbell n v r.tape.left
      → (◌≡◌ {A = Done} (record { state = settled s ok r'.tape.held; ok = ok; count = r'.tape.count }) (ended (activating s k)))
      × (r'.words.now ≡ laid w.now (activating s k).actions)
  unfolding starting starts_at
  start-effect idle v q e o =
      let o' : ok ≡ starts_at s k = rw (left-is, is, q) at o in
      let m : start_records r.base s.hot.doorbell n v r.tape.left ≡ starting s k = rw (g.base, left-is, is, q) refl in
      let b : 5 * length (starting s k) ≤ length w.now =
      omega (arith, start-most s.config.base s.hot.doorbell (queues_in s) (queues_valid s) k)
      in
      let p = as-effect s k (settled s) w r r' (starting s k) (starts_at s k) b g (listed e m) in
      (rw (o', idle) p.0, rw idle p.1)

  pub stop-effect : Played r (stop_records r.base n s.flags.registered s.flags.active r.tape.left) r'
      → ok ≡ stops s.flags.active r.tape.left
      → (◌≡◌ {A = Done} (record { state = pick ok (wiped s r'.tape.held) s; ok = ok; count = r'.tape.count }) (ended (resetting s k)))
      × (r'.words.now ≡ laid w.now (resetting s k).actions)
  unfolding stopping
  stop-effect e o =
      let o' : ok ≡ stops s.flags.active k = rw left-is at o in
      let m : stop_records r.base n s.flags.registered s.flags.active r.tape.left ≡ stopping s k = rw (g.base, left-is, is) refl in
      let b : 5 * length (stopping s k) ≤ length w.now =
      omega (arith, stop-most s.config.base (queues_in s) s.flags.registered s.flags.active k)
      in
      let p = as-effect s k (λ (g : Bool) (hs : List Held). pick g (wiped s hs) s) w r r' (stopping s k) (stops s.flags.active k) b g (listed e m) in
      (rw o' p.0, p.1)

-- ---- refusal 7

pub with-room : (l l' : List ℕ) (e : Effect) (r : Done) → 320 ≤ length l → r ≡ ended e → l' ≡ laid l e.actions
    → (Ok r ≡ done (length l) e) × (l' ≡ written l e)
with-room l l' e r h p q = (rw (le-ltb (length l) 320 h) (ap Ok p), rw (le-ltb (length l) 320 h) q)

-- one record written
pub one-laid : (l l' : List ℕ) (x : Action) (at : ℕ) → 320 ≤ length l → Emitted l 0 (fitting l 0 (words_of x)) l' at → l' ≡ laid l (x ∷ [])
one-laid l l' x at h e =
    let n : length (words_of x) ≡ 5 = length-words x in
    e.wrote ∙ ap (sets l 0) (fits l 0 (words_of x) (omega arith)) ∙ ap (sets l 0) (sym (append-nil (words_of x)))

-- after the check, there is room
pub has-room : (w : ℕ) (u : Unit {0}) → ◌≡◌ {A = Result (Unit {0}) Refusal} (Ok u) (room w) → 320 ≤ w
has-room w u = go (ltb w 320) refl
  where
    go : (t : Bool) → ltb w 320 ≡ t → ◌≡◌ {A = Result (Unit {0}) Refusal} (Ok u) (pick t (Err ActionSpace) (Ok tt)) → 320 ≤ w
    go true e h = cc
    go false e h = ltb-false w 320 e
