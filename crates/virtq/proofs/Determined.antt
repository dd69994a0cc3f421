-- Any two results that a promise of this floor allows are equal.
use mathlib.Core.Path.{◌≡◌, refl, sym, ◌∙◌}
use Rattle.virtq.specs.Fields.{no_queue}
use Rattle.virtq.proofs.QueueDefault.default.Reads as queue-default-promise
use Rattle.virtq.proofs.MemoryDefault.default.Reads as memory-default-promise
use Rattle.virtq.proofs.QueueIndex.vector.Reads as vectors
use Rattle.virtq.proofs.FieldTryFromU32.try_from.Reads as tried-numbers
use Rattle.virtq.proofs.field_numbered.Reads as numbers
use Rattle.virtq.proofs.size_fit.Reads as sizes
use Rattle.virtq.proofs.fit.Reads as fits
use Rattle.virtq.proofs.Queue.fresh.Reads as freshes
use Rattle.virtq.proofs.Queue.get.Reads as gets
use Rattle.virtq.proofs.Queue.update.Reads as updates
use Rattle.virtq.proofs.Queue.valid.Reads as valids
use Rattle.virtq.proofs.Memory.inside.Reads as insides
use Rattle.virtq.proofs.address.Reads as addresses
use Rattle.virtq.proofs.first_invalid.Reads as scans

pub vector-determined : (κs : _) (a : _) (r r' : _) (s s' : _) → vectors.Post κs a r s → vectors.Post κs a r' s' → r ≡ r'
vector-determined κs a r r' s s' p q = p ∙ sym q

pub field-numbered-determined : (κs : _) (a : _) (r r' : _) (s s' : _) → numbers.Post κs a r s → numbers.Post κs a r' s' → r ≡ r'
field-numbered-determined κs a r r' s s' p q = p ∙ sym q

pub size-fit-determined : (κs : _) (a : _) (r r' : _) (s s' : _) → sizes.Post κs a r s → sizes.Post κs a r' s' → r ≡ r'
size-fit-determined κs a r r' s s' p q = p ∙ sym q

pub fit-determined : (κs : _) (a : _) (r r' : _) (s s' : _) → fits.Post κs a r s → fits.Post κs a r' s' → r ≡ r'
fit-determined κs a r r' s s' p q = p ∙ sym q

pub fresh-determined : (κs : _) (a : _) (r r' : _) (s s' : _) → freshes.Post κs a r s → freshes.Post κs a r' s' → r ≡ r'
fresh-determined κs a r r' s s' p q = p ∙ sym q

pub get-determined : (κs : _) (a : _) (r r' : _) (s s' : _) → gets.Post κs a r s → gets.Post κs a r' s' → r ≡ r'
get-determined κs a r r' s s' p q = p ∙ sym q

pub update-determined : (κs : _) (a : _) (r r' : _) (s s' : _) → updates.Post κs a r s → updates.Post κs a r' s' → r ≡ r'
update-determined κs a r r' s s' p q = p ∙ sym q

pub valid-determined : (κs : _) (a : _) (r r' : _) (s s' : _) → valids.Post κs a r s → valids.Post κs a r' s' → r ≡ r'
valid-determined κs a r r' s s' p q = p ∙ sym q

pub inside-determined : (κs : _) (a : _) (r r' : _) (s s' : _) → insides.Post κs a r s → insides.Post κs a r' s' → r ≡ r'
inside-determined κs a r r' s s' p q = p ∙ sym q

pub first-invalid-determined : (κs : _) (a : _) (r r' : _) (s s' : _) → scans.Post κs a r s → scans.Post κs a r' s' → r ≡ r'
first-invalid-determined κs a r r' s s' p q = p ∙ sym q

pub address-determined : (κs : _) (a : _) (r r' : _) (s s' : _) → addresses.Post κs a r s → addresses.Post κs a r' s' → r ≡ r'
address-determined κs a r r' s s' p q = p ∙ sym q

pub try-from-determined : (κs : _) (a : _) (r r' : _) (s s' : _) → tried-numbers.Post κs a r s → tried-numbers.Post κs a r' s' → r ≡ r'
try-from-determined κs a r r' s s' p q = p ∙ sym q

-- the derived defaults: a queue of zeros, of maximum 0, and a memory with no byte
pub queue-default : (κs : _) (a : _) (r : _) (s : _) → queue-default-promise.Post κs a r s → r ≡ no_queue
queue-default κs a r s p = rw (p.0, p.1.0, p.1.1.0, p.1.1.1.0, p.1.1.1.1.0, p.1.1.1.1.1.0, p.1.1.1.1.1.1.0, p.1.1.1.1.1.1.1) refl

pub memory-default : (κs : _) (a : _) (r : _) (s : _) → memory-default-promise.Post κs a r s → r ≡ record { length = 0 }
memory-default κs a r s p = rw p refl
