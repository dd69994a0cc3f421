-- The requests of an activation in 01's order, what follows the one that is refused, and the records of a state reset (01,
-- Actions and State reset). No state: only the window's base, the doorbell setting and the number of queues.
use Rattle.std.specs.Prelude.{Bool, true, false, not, List, [], ◌∷◌, ◌++◌, ℕ, zero, suc, ◌+◌, eqb}
use Rattle.words.specs.Pick.{pick}
use Rattle.words.specs.Lists.{up, down}
use Rattle.words.specs.declared.Action.{Action}
use Rattle.tape.specs.Actions.{enable_interrupts, activate_device, reset_device, reset_interrupts}
use Rattle.tape.specs.Held.{entry, bell, note, bell_address, note_address, register, unregister}

pub data Request : Type 0 where
  Bell : (q : ℕ) → Request
  Note : (q : ℕ) → Request
  Enable : Request
  Activate : Request

-- "for each queue i: with a doorbell, register base + 0x1000 + 4i, width 0; then base + 0x50, width 4, value i"
abbrev pub turn : (doorbell : Bool) (i : ℕ) → List Request → List Request
turn d i xs = pick d (Bell i ∷ Note i ∷ xs) (Note i ∷ xs)

-- "Then 3, then 4"
abbrev pub lasts : List Request
lasts = Enable ∷ Activate ∷ []

-- of m queues from queue i on
abbrev pub requests : (doorbell : Bool) (i m : ℕ) → List Request
requests d i zero = lasts
requests d i (suc m) = turn d i (requests d (i + 1) m)

-- from num - 1 down to 0, queue k at one address, width 8; value 0 or k + 1. No entry has width 8: these miss.
abbrev pub reverts : (num address : ℕ) (wildcard : Bool) → List Action
reverts num a w = down num (λ k. unregister (entry k a 8 (pick w 0 (k + 1))))

-- "unregister all doorbells 0 up", also those never registered
abbrev pub bells_off : (b n : ℕ) → List Action
bells_off b n = up 0 n (λ q. unregister (bell b q))

abbrev pub notes_off : (b n : ℕ) → List Action
notes_off b n = up 0 n (λ q. unregister (note b q))

-- a state reset: "action 6; if a full set of registrations was accepted since the last state reset, unregister each notify
-- in queue order"
abbrev pub wipes : (b n : ℕ) (full : Bool) → List Action
wipes b n full = reset_interrupts ∷ pick full (notes_off b n) []

abbrev pub record_of : (b : ℕ) → Request → Action
record_of b (Bell i) = register (bell b i)
record_of b (Note i) = register (note b i)
record_of b Enable = enable_interrupts
record_of b Activate = activate_device

-- base, doorbell setting and number of queues are the same all along
module _ (b : ℕ) (d : Bool) (n : ℕ) where
  -- "Doorbell refused at i: for k from i-1 down to 0, unregister queue k at doorbell i, width 8, value 0. Notify refused at
  -- i: unregister all doorbells 0 up, if any, then for k from i-1 down to 0 queue k at 0x50, width 8, value k+1." Then the
  -- state reset; 3 and 4 are asked only once the full set was accepted.
  abbrev pub after : Request → List Action
  after (Bell i) = reverts i (bell_address b i) true ++ wipes b n false
  after (Note i) = (pick d (bells_off b n) [] ++ reverts i (note_address b) false) ++ wipes b n false
  after Enable = wipes b n true
  after Activate = wipes b n true

  -- "the first k answered requests are accepted, the next is refused, and no answered request follows it"
  abbrev pub asks : (k : ℕ) → List Request → List Action
  asks k [] = []
  asks zero (x ∷ xs) = record_of b x ∷ after x
  asks (suc k) (x ∷ xs) = record_of b x ∷ asks k xs

-- whether all are accepted
abbrev pub starts : (k : ℕ) → List Request → Bool
starts k [] = true
starts zero (x ∷ xs) = false
starts (suc k) (x ∷ xs) = starts k xs

-- ---- a start and a stop, whole

-- "validity, then for each queue ..": the records of a start, if `valid` says that the queues are, and whether it starts. A
-- device that is started is not active, so no full set stands (see `Sound` of mmio_state).
abbrev pub start_records : (b : ℕ) (d : Bool) (n : ℕ) (valid : Bool) (k : ℕ) → List Action
start_records b d n valid k = pick valid (asks b d n k (requests d 0 n)) (wipes b n false)

abbrev pub begins : (d : Bool) (n : ℕ) (valid : Bool) (k : ℕ) → Bool
begins d n valid k = pick valid (starts k (requests d 0 n)) false

-- "If active: ask device reset; .. Accepted: .. state reset": the records, and whether it is reset. One that is not active
-- is not asked.
abbrev pub stop_records : (b n : ℕ) (full active : Bool) (k : ℕ) → List Action
stop_records b n full active k =
    pick active (reset_device ∷ pick (eqb k 0) [] (wipes b n full)) (wipes b n full)

abbrev pub stops : (active : Bool) (k : ℕ) → Bool
stops active k = pick active (not (eqb k 0)) true
