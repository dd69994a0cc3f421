-- Numbers of queues and of vectors (01, Messages: "Queue q signals vector q + 1, and a vector number is never taken for a
-- queue number").
use Rattle.std.specs.Prelude.{ℕ, ◌+◌}
use Rattle.virtq.specs.declared.QueueIndex.{QueueIndex}
use Rattle.virtq.specs.declared.VectorIndex.{VectorIndex}

-- how many queues the table has room for (01, refusal 3)
abbrev pub max_queues : ℕ
max_queues = 16

-- the vector that a queue signals
abbrev pub vector_of : QueueIndex → VectorIndex
vector_of q = record { 0 = q.0 + 1 }
