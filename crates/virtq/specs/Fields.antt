-- A queue's eight fields, one for each queue-field register: fresh values, what is fit, and what a counting write sets (01,
-- "Queue fields, counting writes and wipes").
use Rattle.std.specs.Prelude.{Bool, true, false, List, ℕ, zero, suc, ◌%◌, ◌^◌, eqb, leb, ltb, get_or, Result, Ok, Err}
use Rattle.words.specs.Pick.{pick}
use Rattle.words.specs.declared.Refusal.{Refusal}
use Rattle.words.specs.declared.Refusal.TheVariants.{UnknownQueue}
use Rattle.virtq.specs.declared.Queue.{Queue}
use Rattle.virtq.specs.declared.Field.{Field}
use Rattle.virtq.specs.declared.Field.TheVariants.{Size, Ready, DescLow, DescHigh, AvailLow, AvailHigh, UsedLow, UsedHigh}

-- the fields' numbers, in the order of their registers
abbrev pub number_of : Field → ℕ
number_of Size = 0
number_of Ready = 1
number_of DescLow = 2
number_of DescHigh = 3
number_of AvailLow = 4
number_of AvailHigh = 5
number_of UsedLow = 6
number_of UsedHigh = 7

-- and back: a number past them means the last
abbrev pub field_numbered : ℕ → Field
field_numbered n =
    pick (eqb n 0) Size
    (pick (eqb n 1) Ready
    (pick (eqb n 2) DescLow
    (pick (eqb n 3) DescHigh
    (pick (eqb n 4) AvailLow (pick (eqb n 5) AvailHigh (pick (eqb n 6) UsedLow UsedHigh))))))

-- a number past them names no field of any queue
abbrev pub field_with_number : ℕ → Result Field Refusal
field_with_number n = pick (ltb n 8) (Ok (field_numbered n)) (Err UnknownQueue)

abbrev pub same : Field → Field → Bool
same f g = eqb (number_of f) (number_of g)

-- what a field holds
abbrev pub field_of : Queue → Field → ℕ
field_of q Size = q.size
field_of q Ready = pick q.ready 1 0
field_of q DescLow = q.desclow
field_of q DescHigh = q.deschigh
field_of q AvailLow = q.availlow
field_of q AvailHigh = q.availhigh
field_of q UsedLow = q.usedlow
field_of q UsedHigh = q.usedhigh

-- "Fresh: size is the maximum, not ready, addresses 0"
abbrev pub fresh_queue : (max : ℕ) → Queue
fresh_queue max =
    record { size = max; ready = false; desclow = 0; deschigh = 0; availlow = 0; availhigh = 0; usedlow = 0; usedhigh = 0 }

-- a queue that isn't there holds 0 in each field
abbrev pub no_queue : Queue
no_queue = fresh_queue 0

-- the fields of a table's queues
abbrev pub fields_of : List Queue → ℕ → Field → ℕ
fields_of qs q = field_of (get_or qs q no_queue)

-- v is one of the first n powers of two, 2 ^ 0 to 2 ^ (n - 1)
abbrev pub power_below : (n v : ℕ) → Bool
power_below zero v = false
power_below (suc n) v = pick (eqb v (2 ^ n)) true (power_below n v)

-- a power of two of 16 bits
abbrev pub power_of_two : ℕ → Bool
power_of_two v = power_below 16 v

-- "Size: v mod 65,536, fit if 1 to the maximum and a power of two"
abbrev pub size_fit : (max s : ℕ) → Bool
size_fit max s = pick (leb 1 s) (pick (leb s max) (power_of_two s) false) false

-- "Ready: any v. Low halves: descriptor multiple of 16, available of 2, used of 4. High halves: any"
abbrev pub fit : (max : ℕ) → Field → (v : ℕ) → Bool
fit max Size v = size_fit max (v % 65536)
fit max Ready v = true
fit max DescLow v = eqb (v % 16) 0
fit max DescHigh v = true
fit max AvailLow v = eqb (v % 2) 0
fit max AvailHigh v = true
fit max UsedLow v = eqb (v % 4) 0
fit max UsedHigh v = true

-- what a field holds once v was written to it and counted: a size modulo 65,536, "ready only for v = 1"
abbrev pub taken : Field → (v : ℕ) → ℕ
taken Size v = v % 65536
taken Ready v = pick (eqb v 1) 1 0
taken DescLow v = v
taken DescHigh v = v
taken AvailLow v = v
taken AvailHigh v = v
taken UsedLow v = v
taken UsedHigh v = v

-- "A counting write sets that one field"
abbrev pub put : Queue → Field → (v : ℕ) → Queue
put q f v =
    record {
      size = pick (same f Size) (v % 65536) q.size;
      ready = pick (same f Ready) (eqb v 1) q.ready;
      desclow = pick (same f DescLow) v q.desclow;
      deschigh = pick (same f DescHigh) v q.deschigh;
      availlow = pick (same f AvailLow) v q.availlow;
      availhigh = pick (same f AvailHigh) v q.availhigh;
      usedlow = pick (same f UsedLow) v q.usedlow;
      usedhigh = pick (same f UsedHigh) v q.usedhigh;
    }

-- a write that is let through: it sets its field if the value is fit, and else nothing
abbrev pub updated : (max : ℕ) → Queue → Field → (v : ℕ) → Queue
updated max q f v = pick (fit max f v) (put q f v) q
