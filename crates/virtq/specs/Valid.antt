-- When a queue is valid, and the scan that stops at the first that isn't (01, "Queue fields, counting writes and wipes";
-- the areas are those of virtio 1.2, 2.7).
use Rattle.std.specs.Prelude.{Bool, false, ℕ, zero, suc, ◌+◌, ◌*◌, ◌^◌, eqb, leb, Option, Some, None}
use Rattle.words.specs.Pick.{pick}
use Rattle.virtq.specs.declared.Memory.{Memory}
use Rattle.virtq.specs.declared.Field.{Field}
use Rattle.virtq.specs.declared.Field.TheVariants.{Size, Ready, DescLow, DescHigh, AvailLow, AvailHigh, UsedLow, UsedHigh}
use Rattle.virtq.specs.declared.QueueIndex.{QueueIndex}

-- a 64-bit address of its two halves
abbrev pub address : (low high : ℕ) → ℕ
address low high = high * 2 ^ 32 + low

-- n bytes from start on "end at or below the memory length, with no wrap": the sum is a whole number
abbrev pub inside : Memory → (start n : ℕ) → Bool
inside m start n = leb (start + n) m.length

-- the bytes of the three areas of a queue of size n
abbrev pub desc_bytes : ℕ → ℕ
desc_bytes n = 16 * n

abbrev pub avail_bytes : ℕ → ℕ
avail_bytes n = 6 + 2 * n

abbrev pub used_bytes : ℕ → ℕ
used_bytes n = 6 + 8 * n

-- "A queue of N is valid if ready and its areas .. end at or below the memory length"; g says what each field holds
abbrev pub valid : Memory → (g : Field → ℕ) → Bool
valid m g =
    pick (eqb (g Ready) 1)
    (pick (inside m (address (g DescLow) (g DescHigh)) (desc_bytes (g Size)))
    (pick (inside m (address (g AvailLow) (g AvailHigh)) (avail_bytes (g Size)))
    (inside m (address (g UsedLow) (g UsedHigh)) (used_bytes (g Size)))
    false)
    false)
    false

-- "The scan stops at the first invalid queue": of n queues from queue i on
unfoldable pub scanned : Memory → (g : ℕ → Field → ℕ) → (i n : ℕ) → Option QueueIndex
scanned m g i zero = None
scanned m g i (suc n) = pick (valid m (g i)) (scanned m g (i + 1) n) (Some (record { 0 = i }))
