-- The held table: "per queue which registration stands; an unregister clears only an entry equal in all four operands" (01,
-- Actions). It is the fold of an operation's records with their outcomes, and there is no other rule for it.
use Rattle.std.specs.Prelude.{ℕ, ◌+◌, ◌-◌, ◌*◌, ◌%◌, ◌^◌, Bool, true, false, ◌&&◌, List, [], ◌∷◌, ◌==◌}
use Rattle.words.specs.Pick.{pick}
use Rattle.words.specs.Lists.{each}
use Rattle.words.specs.declared.Action.{Action}
use Rattle.tape.specs.Actions.{act, answered}
use Rattle.tape.specs.declared.Entry.{Entry}
use Rattle.tape.specs.declared.Held.{Held}

abbrev pub entry : (queue address width value : ℕ) → Entry
entry q a w v = record { queue = q; address = a; width = w; value = v }

-- Where a queue's two registrations lie: "base + 0x1000 + 4i, width 0; then base + 0x50, width 4, value i". Addresses have
-- 64 bits; an accepted base keeps these sums below 2^64.
abbrev pub bell_address : (base q : ℕ) → ℕ
bell_address b q = (b + (0x1000 + 4 * q)) % 2 ^ 64

abbrev pub note_address : (base : ℕ) → ℕ
note_address b = (b + 0x50) % 2 ^ 64

abbrev pub bell : (base q : ℕ) → Entry
bell b q = entry q (bell_address b q) 0 0

abbrev pub note : (base q : ℕ) → Entry
note b q = entry q (note_address b) 4 q

abbrev pub register : Entry → Action
register e = act 1 e.queue e.address e.width e.value

abbrev pub unregister : Entry → Action
unregister e = act 2 e.queue e.address e.width e.value

-- equal in all four operands
abbrev pub equal : Entry → Action → Bool
equal e x = (e.queue == x.a && e.width == x.c) && (e.address == x.b && e.value == x.d)

-- Whether an entry stands after a record, if `was` says whether it stood, and k answers are left: an accepted register sets
-- it, an unregister clears it, each only if equal in all four.
abbrev pub stands : Entry → (k : ℕ) → Action → (was : Bool) → Bool
stands e k x was =
    pick (equal e x) (pick (x.kind == 1) (pick (k == 0) was true) (pick (x.kind == 2) false was)) was

abbrev pub held_queue : (base k : ℕ) → Action → (q : ℕ) → Held → Held
held_queue b k x q h = record { bell = stands (bell b q) k x h.bell; note = stands (note b q) k x h.note }

abbrev pub no_held : Held
no_held = record { bell = false; note = false }

-- the table after one record
unfoldable pub held_one : (base k : ℕ) → Action → List Held → List Held
held_one b k x hs = each (held_queue b k x) hs

-- the answers left after a record
abbrev pub left_after : (k : ℕ) → Action → ℕ
left_after k x = pick (answered x.kind) (k - 1) k

-- the table after the records of an operation with outcome number k
abbrev pub held_after : (base : ℕ) → List Held → (k : ℕ) → List Action → List Held
held_after b hs k [] = hs
held_after b hs k (x ∷ xs) = held_after b (held_one b k x hs) (left_after k x) xs
