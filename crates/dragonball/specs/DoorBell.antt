-- The doorbell's register word and the address of each queue's doorbell (01, Registers: 050; Actions: Activation).
use Rattle.std.specs.Prelude.{ℕ, ◌+◌, ◌*◌, ◌%◌, ◌^◌, bit_or}
use Rattle.virtq.specs.declared.QueueIndex.{QueueIndex}
use Rattle.dragonball.specs.declared.DoorBell.{DoorBell}

-- a doorbell of this offset and scale
abbrev pub door_bell : (offset scale : ℕ) → DoorBell
door_bell o s = record { offset = o; scale = s }

-- where a queue's doorbell lies, from the window's base
abbrev pub queue_offset : DoorBell → QueueIndex → ℕ
queue_offset d q = d.offset + d.scale * q.0

-- the offset, or-ed with the scale 16 bits up; the word has 32 bits
abbrev pub register_data : DoorBell → ℕ
register_data d = bit_or d.offset (d.scale * 2 ^ 16 % 2 ^ 32)
