-- The answer to a question about a field, as C has it.
use mathlib.Core.Bool.{Bool, true, false}
use mathlib.Core.Path.{◌≡◌, refl}
use Prim.Native.Nat.{ℕ}
use lib.Dec.{ltb}
use Rattle.virtq.specs.declared.Field.{Field}
use Rattle.mmio_tables.specs.Tables.{reply_of}
use Rattle.mmio_state.specs.State.{State, queues_in}
use Rattle.mmio_state.specs.Fields.{asked, answer_to}

pub asked_is : (s : State) (q : ℕ) (f : Field) → asked s q f ≡ reply_of (answer_to s q f)
asked_is s q f = go (ltb q (queues_in s)) refl
  where
    go : (t : Bool) → ltb q (queues_in s) ≡ t → asked s q f ≡ reply_of (answer_to s q f)
    go true e = rw e
    go false e = rw e
