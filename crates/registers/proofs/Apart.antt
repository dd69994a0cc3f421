-- THE CLAIM on the two register lists: they part at these accesses and at no other. docs/DIFFERENCES.md has a line for each.
use mathlib.Core.Bool.{false}
use mathlib.Core.Path.{◌≡◌, refl}
use mathlib.Core.List.{[], ◌∷◌}
use Prim.Native.Nat.{ℕ, ◌-◌, ◌≤◌, ◌<◌}
use native.Mathlib.Omega.{arith}
use borrow.Author.Tests.{le-leb, lt-leb, lt-ltb, le-ltb, ne_eqb}
use lib.Dec.{eqb, leb}
use Rattle.words.specs.Pick.{pick}
use Rattle.registers.specs.Virtio12.{natural, QueueNotify, QueueReset}
use Rattle.registers.specs.Apart.{Named, Vendors, Own, Nowhere, MsiCsr, MsiCommand, MsiAddressLow, MsiAddressHigh, MsiData, Way, Read, Write, parting, partings, port_place, standard_place}

-- below 0x100: the doorbell word where QueueNotify is only written; the vendor's five; QueueReset, which this port lacks
pub registers-part : partings
    ≡ parting Read 0x050 4 (Named QueueNotify) Nowhere
    ∷ parting Read 0x0c0 2 (Vendors MsiCsr) Nowhere
    ∷ parting Read 0x0c0 4 Nowhere (Named QueueReset)
    ∷ parting Write 0x050 4 Nowhere (Named QueueNotify)
    ∷ parting Write 0x0c0 2 (Vendors MsiCsr) Nowhere
    ∷ parting Write 0x0c0 4 Nowhere (Named QueueReset)
    ∷ parting Write 0x0c2 2 (Vendors MsiCommand) Nowhere
    ∷ parting Write 0x0c4 4 (Vendors MsiAddressLow) Nowhere
    ∷ parting Write 0x0c8 4 (Vendors MsiAddressHigh) Nowhere
    ∷ parting Write 0x0cc 4 (Vendors MsiData) Nowhere
    ∷ []
unfolding partings
registers-part = refl

-- the configuration, at every offset and every length: reads take any width and have no end, writes take any width and end
-- at 0xfff, where the standard has natural widths and no end
pub configuration-read : (o l : ℕ) → 0x100 ≤ o
    → (port_place Read o l ≡ Own (o - 0x100)) × (standard_place Read o l ≡ pick (natural o l) (Own (o - 0x100)) Nowhere)
configuration-read o l h = (rw (le-leb 0x100 o h), rw (le-leb 0x100 o h))

pub configuration-write : (o l : ℕ) → 0x100 ≤ o → o < 0x1000
    → (port_place Write o l ≡ Own (o - 0x100)) × (standard_place Write o l ≡ pick (natural o l) (Own (o - 0x100)) Nowhere)
configuration-write o l h k = (rw (le-leb 0x100 o h, lt-ltb o 0x1000 k), rw (le-leb 0x100 o h))

pub doorbells-write : (o l : ℕ) → 0x1000 ≤ o
    → (port_place Write o l ≡ Nowhere) × (standard_place Write o l ≡ pick (natural o l) (Own (o - 0x100)) Nowhere)
doorbells-write o l h =
    let k : 0x100 ≤ o = omega arith in
    (rw (le-leb 0x100 o k, le-ltb o 0x1000 h), rw (le-leb 0x100 o k))

-- below 0x100 a length above 9 names nothing in either list, so the claim above speaks of every length
pub long-accesses : (w : Way) (o l : ℕ) → o < 0x100 → 9 < l → (port_place w o l ≡ Nowhere) × (standard_place w o l ≡ Nowhere)
long-accesses w o l h k =
    let two : eqb l 2 ≡ false = ne_eqb l 2 (λ e. omega arith) in
    let four : eqb l 4 ≡ false = ne_eqb l 4 (λ e. omega arith) in
    go w (lt-leb 0x100 o h) two four
  where
    go : (w : Way) → leb 0x100 o ≡ false → eqb l 2 ≡ false → eqb l 4 ≡ false → (port_place w o l ≡ Nowhere) × (standard_place w o l ≡ Nowhere)
    go Read a two four = (simp (a, two, four), simp (a, four))
    go Write a two four = (simp (a, two, four), simp (a, four))
