-- Any two results that a promise of this floor allows are equal, and so are the lent words at the end.
use mathlib.Core.Path.{◌≡◌, sym, ◌∙◌}
use Rattle.mmio_ladder.proofs.move_of.Reads as move-of-promise
use Rattle.mmio_ladder.proofs.update_driver_status.Reads as update-driver-status-promise

pub move-of-determined : (κs : _) (a : _) (r r' : _) (s s' : _) → move-of-promise.Post κs a r s → move-of-promise.Post κs a r' s' → r ≡ r'
move-of-determined κs a r r' s s' p q = p ∙ sym q

pub update-driver-status-determined : (κs : _) (a : _) (r r' : _) (s s' : _) → update-driver-status-promise.Post κs a r s → update-driver-status-promise.Post κs a r' s' → (r ≡ r') × (s.1.1.1.0.now ≡ s'.1.1.1.0.now)
update-driver-status-determined κs a r r' s s' p q = (p.0 ∙ sym q.0, p.1 ∙ sym q.1)
