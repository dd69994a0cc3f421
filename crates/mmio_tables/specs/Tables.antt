-- One entry of a table: of queues, vectors, regions and registrations (01, Registers; "Queue fields, counting writes and
-- wipes"; Messages; refusal 13).
use Rattle.std.specs.Prelude.{Option, Some, None, Result, Ok, Err, Bool, true, false, List, ℕ, zero, suc, ◌+◌, min, eqb, ltb, get_or, set}
use Rattle.words.specs.Pick.{pick}
use Rattle.words.specs.Refusals.{refusal_number}
use Rattle.words.specs.declared.Refusal.{Refusal}
use Rattle.words.specs.declared.Refusal.TheVariants.{UnknownQueue}
use Rattle.virtq.specs.Index.{max_queues}
use Rattle.virtq.specs.Fields.{fields_of, no_queue, updated}
use Rattle.virtq.specs.Events.{first}
use Rattle.virtq.specs.Valid.{scanned}
use Rattle.virtq.specs.declared.Field.{Field}
use Rattle.virtq.specs.declared.Memory.{Memory}
use Rattle.virtq.specs.declared.Queue.{Queue}
use Rattle.virtq.specs.declared.QueueIndex.{QueueIndex}
use Rattle.msi.specs.declared.Msi.{Msi}
use Rattle.tape.specs.Held.{bell, note, entry, no_held}
use Rattle.tape.specs.declared.Entry.{Entry}
use Rattle.tape.specs.declared.Held.{Held}
use Rattle.mmio_config.specs.Fresh.{max_vectors, max_regions, no_region, no_vector}
use Rattle.mmio_config.specs.declared.Region.{Region}
use Rattle.mmio_config.specs.declared.Vector.{Vector}
use Rattle.mmio_tables.specs.declared.Reply.{Reply}
use Rattle.mmio_tables.specs.declared.HeldReply.{HeldReply}
use Rattle.mmio_tables.specs.declared.Standing.{Standing}
use Rattle.mmio_tables.specs.declared.Kind.{Kind}
use Rattle.mmio_tables.specs.declared.Kind.TheVariants.{Doorbell, Notify}

-- the queues that are there: of an accepted configuration the count is within the table
abbrev pub counted : (count : ℕ) → ℕ
counted c = min c max_queues

-- a queue's place in the tables, or 13
abbrev pub place_of : (q n : ℕ) → Result ℕ Refusal
place_of q n = pick (ltb q n) (Ok q) (Err UnknownQueue)

-- ---- queues: "the selector names a queue" if it is below their number

-- "maximum size .. of the selected queue, 0 if none"
abbrev pub size_at : (sizes : List ℕ) → (q n : ℕ) → ℕ
size_at sizes q n = pick (ltb q n) (get_or sizes q 0) 0

abbrev pub field_at : List Queue → (q n : ℕ) → Field → ℕ
field_at qs q n f = first n (fields_of qs) q f

-- "question about a field of a queue that isn't there": 13
abbrev pub queue_field_at : List Queue → (q n : ℕ) → Field → Result ℕ Refusal
queue_field_at qs q n f = pick (ltb q n) (Ok (field_at qs q n f)) (Err UnknownQueue)

-- a write that the status lets through: it is taken if the value is fit
abbrev pub updated_at : List Queue → (sizes : List ℕ) → (q n : ℕ) → Field → (v : ℕ) → List Queue
updated_at qs sizes q n f v = pick (ltb q n) (set qs q (updated (get_or sizes q 0) (get_or qs q no_queue) f v)) qs

abbrev pub none_found : Option QueueIndex → Bool
none_found None = true
none_found (Some q) = false

-- "validity": the scan finds none invalid
unfoldable pub valid_all : List Queue → (n : ℕ) → Memory → Bool
valid_all qs n m = none_found (scanned m (fields_of qs) 0 n)

-- ---- regions

abbrev pub found_at : List Region → (id n : ℕ) → Option Region
found_at rs id n = pick (ltb id (min n max_regions)) (Some (get_or rs id no_region)) None

-- ---- registrations

-- as C numbers them: 0 the doorbell, 1 the notify word
abbrev pub kind_numbered : ℕ → Result Kind Refusal
kind_numbered n = pick (eqb n 0) (Ok Doorbell) (pick (eqb n 1) (Ok Notify) (Err UnknownQueue))

abbrev pub entry_of : Kind → (base q : ℕ) → Entry
entry_of Doorbell b q = bell b q
entry_of Notify b q = note b q

abbrev pub stands_in : Kind → Held → Bool
stands_in Doorbell h = h.bell
stands_in Notify h = h.note

-- whether a registration stands, and its four operands; of a queue that isn't there refusal 13
abbrev pub standing_of : Held → Kind → (base q : ℕ) → Standing
standing_of h k b q = record { stands = stands_in k h; entry = entry_of k b q }

abbrev pub standing_at : List Held → (q n base : ℕ) → Kind → Result Standing Refusal
standing_at hs q n b k = pick (ltb q n) (Ok (standing_of (get_or hs q no_held) k b q)) (Err UnknownQueue)

-- ---- a question's answer as C has it: a refusal gives its number, and zeros

abbrev pub reply_of : Result ℕ Refusal → Reply
reply_of (Ok v) = record { refusal = 0; value = v }
reply_of (Err e) = record { refusal = refusal_number e; value = 0 }

abbrev pub held_reply_of : Result Standing Refusal → HeldReply
held_reply_of (Ok x) = record { refusal = 0; stands = x.stands; entry = x.entry }
held_reply_of (Err e) = record { refusal = refusal_number e; stands = false; entry = entry 0 0 0 0 }

-- ---- vectors

-- some number below n passes
abbrev pub some_below : ℕ → (ℕ → Bool) → Bool
some_below zero p = false
some_below (suc n) p = pick (p n) true (some_below n p)

-- "0x1000: ignored above the data queue count (control not counted)": it is vector 0, or the vector of a data queue
abbrev pub updatable : (dataqueues v : ℕ) → Bool
updatable d v = pick (eqb v 0) true (some_below d (λ (q : ℕ). eqb (q + 1) v))

-- "A vector exists if below the count"
abbrev pub vector_at : (v n : ℕ) → Bool
vector_at v n = ltb v (min n max_vectors)

-- "low, high and data stored"; the mask stays
abbrev pub stored : Msi → Vector → Vector
stored m v = record v { low = m.address_low; high = m.address_high; message = m.«data» }

abbrev pub stored_at : List Vector → (v : ℕ) → Msi → List Vector
stored_at vs v m = set vs v (stored m (get_or vs v no_vector))

abbrev pub remasked : Vector → Bool → Vector
remasked v m = record v { masked = m }

abbrev pub masked_at : List Vector → (v : ℕ) → Bool → List Vector
masked_at vs v m = set vs v (remasked (get_or vs v no_vector) m)
