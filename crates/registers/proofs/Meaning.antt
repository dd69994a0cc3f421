-- What of the standard's meanings the port's rules keep so far: rings, halves of addresses, regions. The rest stands with
-- the device.
use mathlib.Core.Path.{◌≡◌, refl, ap}
use Prim.Native.Nat.{ℕ, ◌+◌, ◌*◌, ◌%◌, ◌^◌, ◌<◌}
use native.Mathlib.Omega.{arith}
use lib.Dec.{eqb}
use Rattle.virtq.specs.declared.Field.TheVariants.{DescLow, AvailLow, UsedLow}
use Rattle.virtq.specs.Fields.{fit}
use Rattle.virtq.specs.Valid as port
use Rattle.virtq.specs.Valid.{address}
use Rattle.dragonball.specs.Regions.{low_word, high_word}
use Rattle.registers.specs.Virtio12.{descriptor_bytes, available_bytes, used_bytes, descriptor_align, available_align, used_align, aligned, low_written, high_written, low_half, high_half}

-- 2.7: the areas are as long as the standard says
pub descriptor-area : (n : ℕ) → port.desc_bytes n ≡ descriptor_bytes n
descriptor-area n = refl

pub available-area : (n : ℕ) → port.avail_bytes n ≡ available_bytes n
available-area n = refl

pub used-area : (n : ℕ) → port.used_bytes n ≡ used_bytes n
used-area n = refl

-- 2.7: a low half is fit exactly if the address is aligned, whatever its high half and the queue's maximum
pub descriptor-aligned : (max low high : ℕ) → fit max DescLow low ≡ aligned descriptor_align (address low high)
descriptor-aligned max low high = let e : low % 16 ≡ (high * 2 ^ 32 + low) % 16 = omega arith in ap (λ (r : ℕ). eqb r 0) e

pub available-aligned : (max low high : ℕ) → fit max AvailLow low ≡ aligned available_align (address low high)
available-aligned max low high = let e : low % 2 ≡ (high * 2 ^ 32 + low) % 2 = omega arith in ap (λ (r : ℕ). eqb r 0) e

pub used-aligned : (max low high : ℕ) → fit max UsedLow low ≡ aligned used_align (address low high)
used-aligned max low high = let e : low % 4 ≡ (high * 2 ^ 32 + low) % 4 = omega arith in ap (λ (r : ℕ). eqb r 0) e

-- 4.2.2: writing one half of an address leaves the other
pub low-half-written : (low high v : ℕ) → low < 2 ^ 32 → low_written (address low high) v ≡ address v high
low-half-written low high v h = omega arith

pub high-half-written : (low high v : ℕ) → low < 2 ^ 32 → high_written (address low high) v ≡ address low v
high-half-written low high v h = omega arith

-- 4.2.2: a region's words are the two halves
pub low-word : (v : ℕ) → low_word v ≡ low_half v
low-word v = refl

pub high-word : (v : ℕ) → high_word v ≡ high_half v
high-word v = refl
