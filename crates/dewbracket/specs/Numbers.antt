-- The questions by number, as C asks them. A number that means nothing is answered as a queue that isn't there is: 13, and
-- zeros (01, refusal 13).
use Rattle.std.specs.Prelude.{false, ℕ, eqb, ltb}
use Rattle.words.specs.Pick.{pick}
use Rattle.virtq.specs.Fields.{field_numbered}
use Rattle.tape.specs.Held.{entry}
use Rattle.mmio_tables.specs.declared.Kind.{Kind}
use Rattle.mmio_tables.specs.declared.Kind.TheVariants.{Doorbell, Notify}
use Rattle.mmio_tables.specs.declared.Reply.{Reply}
use Rattle.mmio_tables.specs.declared.HeldReply.{HeldReply}
use Rattle.mmio_state.specs.State.{State}
use Rattle.mmio_state.specs.Fields.{asked, asked_held}

-- 0 the doorbell, 1 the notify word
abbrev pub kind_numbered : ℕ → Kind
kind_numbered n = pick (eqb n 0) Doorbell Notify

unfoldable pub asked_by_number : State → (queue field : ℕ) → Reply
asked_by_number s q n = pick (ltb n 8) (asked s q (field_numbered n)) (record { refusal = 13; value = 0 })

unfoldable pub held_by_number : State → (queue kind : ℕ) → HeldReply
held_by_number s q n =
    pick (ltb n 2) (asked_held s q (kind_numbered n)) (record { refusal = 13; stands = false; entry = entry 0 0 0 0 })
