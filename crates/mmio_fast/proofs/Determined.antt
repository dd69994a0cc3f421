-- Any two results that a promise of this floor allows are equal, and so are the lent bytes and words at the end.
use mathlib.Core.Path.{◌≡◌, sym, ◌∙◌}
use Rattle.mmio_fast.proofs.quick_write.Reads as quick-write-promise
use Rattle.mmio_fast.proofs.quick_read.Reads as quick-read-promise
use Rattle.mmio_fast.proofs.quick_ready.Reads as quick-ready-promise
use Rattle.mmio_fast.proofs.quick_raise.Reads as quick-raise-promise
use Rattle.mmio_fast.proofs.give.Reads as give-promise
use Rattle.mmio_fast.proofs.full_read.Reads as full-read-promise
use Rattle.mmio_fast.proofs.full_write.Reads as full-write-promise

pub quick-write-determined : (κs : _) (a : _) (r r' : _) (s s' : _) → quick-write-promise.Post κs a r s → quick-write-promise.Post κs a r' s' → r ≡ r'
quick-write-determined κs a r r' s s' p q = p ∙ sym q

pub quick-read-determined : (κs : _) (a : _) (r r' : _) (s s' : _) → quick-read-promise.Post κs a r s → quick-read-promise.Post κs a r' s' → r ≡ r'
quick-read-determined κs a r r' s s' p q = p ∙ sym q

pub quick-ready-determined : (κs : _) (a : _) (r r' : _) (s s' : _) → quick-ready-promise.Post κs a r s → quick-ready-promise.Post κs a r' s' → r ≡ r'
quick-ready-determined κs a r r' s s' p q = p ∙ sym q

pub quick-raise-determined : (κs : _) (a : _) (r r' : _) (s s' : _) → quick-raise-promise.Post κs a r s → quick-raise-promise.Post κs a r' s' → r ≡ r'
quick-raise-determined κs a r r' s s' p q = p ∙ sym q

pub give-determined : (κs : _) (a : _) (r r' : _) (s s' : _) → give-promise.Post κs a r s → give-promise.Post κs a r' s' → (r ≡ r') × (s.0.now ≡ s'.0.now)
give-determined κs a r r' s s' p q = (p.0 ∙ sym q.0, p.1 ∙ sym q.1)

pub full-read-determined : (κs : _) (a : _) (r r' : _) (s s' : _) → full-read-promise.Post κs a r s → full-read-promise.Post κs a r' s' → (r ≡ r') × (s.1.1.1.0.now ≡ s'.1.1.1.0.now) × (s.1.1.1.1.0.now ≡ s'.1.1.1.1.0.now)
full-read-determined κs a r r' s s' p q = (p.0 ∙ sym q.0, p.1 ∙ sym q.1, p.2 ∙ sym q.2)

pub full-write-determined : (κs : _) (a : _) (r r' : _) (s s' : _) → full-write-promise.Post κs a r s → full-write-promise.Post κs a r' s' → (r ≡ r') × (s.1.1.1.1.0.now ≡ s'.1.1.1.1.0.now)
full-write-determined κs a r r' s s' p q = (p.0 ∙ sym q.0, p.1 ∙ sym q.1)
