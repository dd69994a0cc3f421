-- Which accesses the polled part alone answers, and with what (01, Registers). That each is the step stands in the laws.
use Rattle.std.specs.Prelude.{true, false, List, ℕ, eqb, ltb, length}
use Rattle.std.specs.Int.Bits.{bit_or}
use Rattle.words.specs.Pick.{pick}
use Rattle.words.specs.Bytes.{read_le}
use Rattle.virtq.specs.declared.Queue.{Queue}
use Rattle.virtq.specs.declared.Field.TheVariants as F
use Rattle.mmio_hot.specs.declared.Hot.{Hot}
use Rattle.mmio_tables.specs.Tables.{counted, field_at}
use Rattle.mmio_state.specs.Effect.{room_words}
use Rattle.mmio_access.specs.Changes.{cleared}
use Rattle.mmio_access.specs.Shown.{tweaked}
use Rattle.mmio_fast.specs.Tell.{tell}
use Rattle.mmio_fast.specs.declared.Quick.{Quick}
use Rattle.mmio_fast.specs.declared.Raised.{Raised}

-- the number of an access that is done
abbrev pub done : ℕ → Quick
done v = record { value = v; done = true }

-- any other access
abbrev pub slow : ℕ → Quick
slow v = record { value = v; done = false }

-- room for the actions, then the length: else it is not done
abbrev pub when_word : (room length other : ℕ) → Quick → Quick
when_word w l v q = pick (ltb w room_words) (slow v) (pick (eqb l 4) q (slow v))

-- a write that is not done leaves the bits
unfoldable pub quick_write : Hot → (offset : ℕ) → (bytes : List ℕ) → (room : ℕ) → Quick
quick_write h o bs w =
    when_word w (length bs) h.interrupts
    (pick (eqb o 0x64) (done (cleared h.interrupts (read_le 4 bs)))
    (pick (eqb o 0x50) (done h.interrupts) (slow h.interrupts)))

unfoldable pub quick_read : Hot → (offset length room : ℕ) → Quick
quick_read h o l w =
    when_word w l 0
    (pick (eqb o 0x60) (done (tweaked h.vendor h.interrupts)) (pick (eqb o 0x70) (done h.status) (slow 0)))

unfoldable pub quick_ready : Hot → (count : ℕ) → List Queue → (offset length room : ℕ) → Quick
quick_ready h c qs o l w =
    when_word w l 0 (pick (eqb o 0x44) (done (field_at qs h.queue (counted c) F.Ready)) (slow 0))

-- "A raise sets the given interrupt bits at any status"
unfoldable pub quick_raise : Hot → (bits room : ℕ) → Raised
quick_raise h b w =
    pick (ltb w room_words)
    (record { bits = h.interrupts; told = tell 7 0 0 })
    (record { bits = bit_or h.interrupts b; told = tell 0 0 0 })
