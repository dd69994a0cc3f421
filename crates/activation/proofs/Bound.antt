-- How many records an activation, and a state reset, have at most: stated over the number of queues.
use mathlib.Core.Bool.{Bool, true, false}
use mathlib.Core.Path.{◌≡◌, refl, ◌∙◌}
use mathlib.Core.List.{◌++◌}
use Prim.Native.Nat.{ℕ, zero, suc, ◌+◌, ◌*◌, ◌≤◌}
use native.Mathlib.Omega.{arith}
use lib.Dec.{eqb-suc-zero}
use lib.ListN.{length, length-append}
use Rattle.words.specs.Pick.{pick}
use Rattle.words.proofs.Lists.{length_up, length-down}
use Rattle.tape.specs.Held.{entry, bell, note, bell_address, note_address, unregister}
use Rattle.activation.specs.Bound.{most}
use Rattle.activation.specs.Requests.{Request, Bell, Note, Enable, Activate, requests, reverts, bells_off, notes_off, wipes, after, asks, start_records, stop_records}

length-reverts : (num a : ℕ) (w : Bool) → length (reverts num a w) ≡ num
length-reverts num a w = length-down num (λ k. unregister (entry k a 8 (pick w 0 (k + 1))))

length-bells : (b n : ℕ) → length (bells_off b n) ≡ n
length-bells b n = length_up 0 n (λ q. unregister (bell b q))

length-notes : (b n : ℕ) → length (notes_off b n) ≡ n
length-notes b n = length_up 0 n (λ q. unregister (note b q))

-- how many follow a refusal
abbrev extra : (d : Bool) (n : ℕ) → Request → ℕ
extra d n (Bell i) = i + 1
extra d n (Note i) = pick d n 0 + i + 1
extra d n Enable = n + 1
extra d n Activate = n + 1

length-after : (b : ℕ) (d : Bool) (n : ℕ) (x : Request) → length (after b d n x) ≡ extra d n x
length-after b d n (Bell i) =
    length-append (reverts i (bell_address b i) true) (wipes b n false) ∙ omega (arith, length-reverts i (bell_address b i) true)
length-after b true n (Note i) =
    length-append (bells_off b n ++ reverts i (note_address b) false) (wipes b n false)
    ∙ omega (arith, length-append (bells_off b n) (reverts i (note_address b) false), length-bells b n, length-reverts i (note_address b) false)
length-after b false n (Note i) =
    length-append (reverts i (note_address b) false) (wipes b n false) ∙ omega (arith, length-reverts i (note_address b) false)
length-after b d n Enable = omega (arith, length-notes b n)
length-after b d n Activate = omega (arith, length-notes b n)

-- m queues from i on, of n; what was asked before queue i is counted too
asks-most : (b : ℕ) (d : Bool) (n i m k : ℕ) → i + m ≡ n → length (asks b d n k (requests d i m)) + pick d (2 * i) i ≤ most n
asks-most b true n i zero zero h = omega (arith, length-after b true n Enable)
asks-most b true n i zero (suc zero) h = omega (arith, length-after b true n Activate)
asks-most b true n i zero (suc (suc k)) h = omega arith
asks-most b true n i (suc m) zero h = omega (arith, length-after b true n (Bell i))
asks-most b true n i (suc m) (suc zero) h = omega (arith, length-after b true n (Note i))
asks-most b true n i (suc m) (suc (suc k)) h = omega (arith, asks-most b true n (i + 1) m k (omega arith))
asks-most b false n i zero zero h = omega (arith, length-after b false n Enable)
asks-most b false n i zero (suc zero) h = omega (arith, length-after b false n Activate)
asks-most b false n i zero (suc (suc k)) h = omega arith
asks-most b false n i (suc m) zero h = omega (arith, length-after b false n (Note i))
asks-most b false n i (suc m) (suc k) h = omega (arith, asks-most b false n (i + 1) m k (omega arith))

pub asked-most : (b : ℕ) (d : Bool) (n k : ℕ) → length (asks b d n k (requests d 0 n)) ≤ most n
asked-most b true n k = omega (arith, asks-most b true n 0 n k (omega arith))
asked-most b false n k = omega (arith, asks-most b false n 0 n k (omega arith))

pub wipes-most : (b n : ℕ) (full : Bool) → length (wipes b n full) ≤ n + 1
wipes-most b n true = omega (arith, length-notes b n)
wipes-most b n false = omega arith

-- the two whole operations
pub start-most : (b : ℕ) (d : Bool) (n : ℕ) (valid : Bool) (k : ℕ) → length (start_records b d n valid k) ≤ most n
start-most b d n true k = asked-most b d n k
start-most b d n false k = omega (arith, wipes-most b n false)

pub stop-most : (b n : ℕ) (full active : Bool) (k : ℕ) → length (stop_records b n full active k) ≤ most n
stop-most b n full true zero = omega arith
stop-most b n full true (suc k) = rw (eqb-suc-zero k) (omega (arith, wipes-most b n full))
stop-most b n full false k = omega (arith, wipes-most b n full)

-- the bound is met: 16 queues with a doorbell, the last notify refused
pub bound-met : length (asks 0 true 16 31 (requests true 0 16)) ≡ 64
bound-met = refl
