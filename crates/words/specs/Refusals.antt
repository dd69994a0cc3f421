-- The numbers of refusals (01, "What the gateway hands over" and "The trace").
use Rattle.std.specs.Prelude.{ℕ, Result, Ok, Err}
use Rattle.words.specs.declared.Refusal.{Refusal}
use Rattle.words.specs.declared.Refusal.TheVariants.{WindowSize, WindowBase, QueueCount, QueueSize, VectorCount, RegionCount, ActionSpace, TraceLength, TraceVersion, TraceLayout, RecordKind, RecordData, UnknownQueue}

-- each refusal's number in 01
abbrev pub refusal_number : Refusal → ℕ
refusal_number WindowSize = 1
refusal_number WindowBase = 2
refusal_number QueueCount = 3
refusal_number QueueSize = 4
refusal_number VectorCount = 5
refusal_number RegionCount = 6
refusal_number ActionSpace = 7
refusal_number TraceLength = 8
refusal_number TraceVersion = 9
refusal_number TraceLayout = 10
refusal_number RecordKind = 11
refusal_number RecordData = 12
refusal_number UnknownQueue = 13

-- an answer's number: 0 where nothing is refused
abbrev pub told : {A : Type 0} → Result A Refusal → ℕ
told (Ok x) = 0
told (Err e) = refusal_number e

-- an answer with the refusal as its number
abbrev pub numbered : {A : Type 0} → Result A Refusal → Result A ℕ
numbered (Ok x) = Ok x
numbered (Err e) = Err (refusal_number e)
