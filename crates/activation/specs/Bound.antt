-- How many records an operation has at most (01, Actions: "At most 64 an operation"), over the number of queues.
use Rattle.std.specs.Prelude.{ℕ, ◌+◌, ◌*◌, max}

-- 2n registrations, then n doorbells and n - 1 notifies undone and interrupts reset; or the full set, 3, 4, 6 and n
-- unregisters
abbrev pub most : (n : ℕ) → ℕ
most n = max (4 * n) (3 * n + 3)
