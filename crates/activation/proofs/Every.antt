-- A property of every record of a start or a reset, by one induction: it is asked of the nine kinds of record alone.
use mathlib.Core.Bool.{Bool, true, false}
use mathlib.Core.Path.{◌≡◌}
use mathlib.Core.List.{List, [], ◌∷◌, ◌++◌}
use Prim.Native.Nat.{ℕ, zero, suc, ◌+◌, ◌<◌}
use native.Mathlib.Omega.{arith}
use lib.Dec.{eqb}
use Rattle.words.specs.Pick.{pick}
use Rattle.words.specs.Lists.{up, down}
use Rattle.words.specs.declared.Action.{Action}
use Rattle.tape.specs.Actions.{enable_interrupts, activate_device, reset_device, reset_interrupts}
use Rattle.tape.specs.Held.{entry, bell, note, bell_address, note_address, register, unregister}
use Rattle.activation.specs.Requests.{Request, Bell, Note, Enable, Activate, requests, reverts, wipes, after, asks, start_records, stop_records}

pub data Every (P : Action → Type 0) : List Action → Type 0 where
  none : Every P []
  more : {x : Action} {xs : List Action} → P x → Every P xs → Every P (x ∷ xs)

module _ {P : Action → Type 0} where
  both : {xs ys : List Action} → Every P xs → Every P ys → Every P (xs ++ ys)
  both none f = f
  both (more p e) f = more p (both e f)

  rising : (i n : ℕ) (f : ℕ → Action) → ((q : ℕ) → P (f q)) → Every P (up i n f)
  rising i zero f h = none
  rising i (suc n) f h = more (h i) (rising (i + 1) n f h)

  sinking : (n : ℕ) (f : ℕ → Action) → ((q : ℕ) → P (f q)) → Every P (down n f)
  sinking zero f h = none
  sinking (suc n) f h = more (h n) (sinking n f h)

-- the nine kinds, of a device with n queues
pub record Kinds (P : Action → Type 0) (b n : ℕ) : Type 0 where
  pub bell-on : (q : ℕ) → q < n → P (register (bell b q))
  pub note-on : (q : ℕ) → q < n → P (register (note b q))
  pub bell-off : (q : ℕ) → P (unregister (bell b q))
  pub note-off : (q : ℕ) → P (unregister (note b q))
  pub missing : (q a v : ℕ) → P (unregister (entry q a 8 v))
  pub enabling : P enable_interrupts
  pub activating : P activate_device
  pub resetting : P reset_interrupts
  pub shutting : P reset_device

module _ {P : Action → Type 0} {b n : ℕ} (K : Kinds P b n) where
  every-wipe : (full : Bool) → Every P (wipes b n full)
  every-wipe true = more K.resetting (rising 0 n (λ q. unregister (note b q)) K.note-off)
  every-wipe false = more K.resetting none

  every-revert : (num a : ℕ) (w : Bool) → Every P (reverts num a w)
  every-revert num a w = sinking num (λ k. unregister (entry k a 8 (pick w 0 (k + 1)))) (λ k. K.missing k a (pick w 0 (k + 1)))

  every-after : (d : Bool) (x : Request) → Every P (after b d n x)
  every-after d (Bell i) = both (every-revert i (bell_address b i) true) (every-wipe false)
  every-after true (Note i) =
      both (both (rising 0 n (λ q. unregister (bell b q)) K.bell-off) (every-revert i (note_address b) false)) (every-wipe false)
  every-after false (Note i) = both (every-revert i (note_address b) false) (every-wipe false)
  every-after d Enable = every-wipe true
  every-after d Activate = every-wipe true

  every-asks : (d : Bool) (i m k : ℕ) → i + m ≡ n → Every P (asks b d n k (requests d i m))
  every-asks d i zero zero h = more K.enabling (every-after d Enable)
  every-asks d i zero (suc zero) h = more K.enabling (more K.activating (every-after d Activate))
  every-asks d i zero (suc (suc k)) h = more K.enabling (more K.activating none)
  every-asks true i (suc m) zero h = more (K.bell-on i (omega arith)) (every-after true (Bell i))
  every-asks true i (suc m) (suc zero) h =
      more (K.bell-on i (omega arith)) (more (K.note-on i (omega arith)) (every-after true (Note i)))
  every-asks true i (suc m) (suc (suc k)) h =
      more (K.bell-on i (omega arith)) (more (K.note-on i (omega arith)) (every-asks true (i + 1) m k (omega arith)))
  every-asks false i (suc m) zero h = more (K.note-on i (omega arith)) (every-after false (Note i))
  every-asks false i (suc m) (suc k) h = more (K.note-on i (omega arith)) (every-asks false (i + 1) m k (omega arith))

  pub every-start : (d valid : Bool) (k : ℕ) → Every P (start_records b d n valid k)
  every-start d true k = every-asks d 0 n k (omega arith)
  every-start d false k = every-wipe false

  pub every-stop : (full active : Bool) (k : ℕ) → Every P (stop_records b n full active k)
  every-stop full false k = every-wipe full
  every-stop full true k = more K.shutting (go (eqb k 0))
    where
      go : (t : Bool) → Every P (pick t [] (wipes b n full))
      go true = none
      go false = every-wipe full
