-- Any two results that a promise of this floor allows are equal, and so are the lent words at the end.
use mathlib.Core.Path.{◌≡◌, sym, ◌∙◌}
use Rattle.mmio_msi.proofs.set_msi_address_low.Reads as set-msi-address-low-promise
use Rattle.mmio_msi.proofs.set_msi_address_high.Reads as set-msi-address-high-promise
use Rattle.mmio_msi.proofs.set_msi_data.Reads as set-msi-data-promise
use Rattle.mmio_msi.proofs.update_msi_enable.Reads as update-msi-enable-promise
use Rattle.mmio_msi.proofs.handle_msi_cmd.Reads as handle-msi-cmd-promise

pub set-msi-address-low-determined : (κs : _) (a : _) (r r' : _) (s s' : _) → set-msi-address-low-promise.Post κs a r s → set-msi-address-low-promise.Post κs a r' s' → r ≡ r'
set-msi-address-low-determined κs a r r' s s' p q = p ∙ sym q

pub set-msi-address-high-determined : (κs : _) (a : _) (r r' : _) (s s' : _) → set-msi-address-high-promise.Post κs a r s → set-msi-address-high-promise.Post κs a r' s' → r ≡ r'
set-msi-address-high-determined κs a r r' s s' p q = p ∙ sym q

pub set-msi-data-determined : (κs : _) (a : _) (r r' : _) (s s' : _) → set-msi-data-promise.Post κs a r s → set-msi-data-promise.Post κs a r' s' → r ≡ r'
set-msi-data-determined κs a r r' s s' p q = p ∙ sym q

pub update-msi-enable-determined : (κs : _) (a : _) (r r' : _) (s s' : _) → update-msi-enable-promise.Post κs a r s → update-msi-enable-promise.Post κs a r' s' → (r ≡ r') × (s.1.1.1.0.now ≡ s'.1.1.1.0.now)
update-msi-enable-determined κs a r r' s s' p q = (p.0 ∙ sym q.0, p.1 ∙ sym q.1)

pub handle-msi-cmd-determined : (κs : _) (a : _) (r r' : _) (s s' : _) → handle-msi-cmd-promise.Post κs a r s → handle-msi-cmd-promise.Post κs a r' s' → (r ≡ r') × (s.1.1.1.0.now ≡ s'.1.1.1.0.now)
handle-msi-cmd-determined κs a r r' s s' p q = (p.0 ∙ sym q.0, p.1 ∙ sym q.1)
