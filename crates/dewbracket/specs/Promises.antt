-- What an access and a raise behind a lent device promise: what the step says of the device, of what is told, of the lent
-- bytes and of the lent words (01, "What the gateway hands over"). Primes stand for the end.
use Rattle.std.specs.Prelude.{◌≡◌, Bool, List, ℕ, length}
use Rattle.tape.specs.Play.{laid}
use Rattle.mmio_state.specs.State.{with_hot}
use Rattle.mmio_access.specs.Changes.{with_interrupts}
use Rattle.mmio_v2.specs.Fresh.{device}
use Rattle.mmio_v2.specs.Operation.{Read, Write, Raise}
use Rattle.mmio_v2.specs.Step.{step, replied}
use Rattle.mmio_v2.specs.declared.MmioV2Device.{MmioV2Device}
use Rattle.mmio_fast.specs.Quick.{quick_read, quick_write}
use Rattle.mmio_fast.specs.Tell.{told_of}
use Rattle.mmio_fast.specs.declared.Quick.{Quick}
use Rattle.mmio_fast.specs.declared.Told.{Told}

-- a read changes no device
abbrev pub Reads : MmioV2Device → (k offset : ℕ) → (reply reply' words words' : List ℕ) → Told → Type 0
Reads d k o y y' x x' r =
    (r ≡ told_of (step (length x) d.state (Read k o (length y))))
    × (y' ≡ replied y (step (length x) d.state (Read k o (length y))))
    × (x' ≡ laid x (step (length x) d.state (Read k o (length y))).actions)

abbrev pub Writes : (d d' : MmioV2Device) → (k offset : ℕ) → (bytes words words' : List ℕ) → Told → Type 0
Writes d d' k o bs x x' r =
    (d' ≡ device (step (length x) d.state (Write k o bs)).state)
    × (r ≡ told_of (step (length x) d.state (Write k o bs)))
    × (x' ≡ laid x (step (length x) d.state (Write k o bs)).actions)

abbrev pub Raises : (d d' : MmioV2Device) → (bits : ℕ) → (words words' : List ℕ) → Told → Type 0
Raises d d' b x x' r =
    (d' ≡ device (step (length x) d.state (Raise b)).state)
    × (r ≡ told_of (step (length x) d.state (Raise b)))
    × (x' ≡ laid x (step (length x) d.state (Raise b)).actions)

-- the polled registers alone: whether that is enough, and then the register's word, or the bits after it
abbrev pub PollsRead : MmioV2Device → (offset length room : ℕ) → Quick → Type 0
PollsRead d o l w r = r ≡ quick_read d.state.hot o l w

abbrev pub PollsWrite : (d d' : MmioV2Device) → (offset : ℕ) → (bytes : List ℕ) → (room : ℕ) → Bool → Type 0
PollsWrite d d' o bs w r =
    (d' ≡ device (with_hot d.state (with_interrupts d.state.hot (quick_write d.state.hot o bs w).value)))
    × (r ≡ (quick_write d.state.hot o bs w).done)
