-- Any two results that a promise of this floor allows are equal, and so is the message behind a lent reference at the end.
use mathlib.Core.Path.{◌≡◌, refl, sym, ◌∙◌}
use Rattle.msi.specs.Stage.{no_message}
use Rattle.msi.proofs.MsiDefault.default.Reads as default-promise
use Rattle.msi.proofs.Msi.with_index_select.Reads as with-index-select-promise
use Rattle.msi.proofs.Msi.with_address_low.Reads as with-address-low-promise
use Rattle.msi.proofs.Msi.with_address_high.Reads as with-address-high-promise
use Rattle.msi.proofs.Msi.with_data.Reads as with-data-promise
use Rattle.msi.proofs.Msi.set_index_select.Reads as set-index-select-promise
use Rattle.msi.proofs.Msi.set_address_low.Reads as set-address-low-promise
use Rattle.msi.proofs.Msi.set_address_high.Reads as set-address-high-promise
use Rattle.msi.proofs.Msi.set_data.Reads as set-data-promise
use Rattle.msi.proofs.Msi.staged_index_select.Reads as staged-index-select-promise
use Rattle.msi.proofs.Msi.staged_address_low.Reads as staged-address-low-promise
use Rattle.msi.proofs.Msi.staged_address_high.Reads as staged-address-high-promise
use Rattle.msi.proofs.Msi.staged_data.Reads as staged-data-promise

-- the derived default is the message of zeros
pub default-determined : (κs : _) (a : _) (r : _) (s : _) → default-promise.Post κs a r s → r ≡ no_message
default-determined κs a r s p = rw (p.0, p.1.0, p.1.1.0, p.1.1.1) refl

pub with-index-select-determined : (κs : _) (a : _) (r r' : _) (s s' : _) → with-index-select-promise.Post κs a r s → with-index-select-promise.Post κs a r' s' → r ≡ r'
with-index-select-determined κs a r r' s s' p q = p ∙ sym q

pub with-address-low-determined : (κs : _) (a : _) (r r' : _) (s s' : _) → with-address-low-promise.Post κs a r s → with-address-low-promise.Post κs a r' s' → r ≡ r'
with-address-low-determined κs a r r' s s' p q = p ∙ sym q

pub with-address-high-determined : (κs : _) (a : _) (r r' : _) (s s' : _) → with-address-high-promise.Post κs a r s → with-address-high-promise.Post κs a r' s' → r ≡ r'
with-address-high-determined κs a r r' s s' p q = p ∙ sym q

pub with-data-determined : (κs : _) (a : _) (r r' : _) (s s' : _) → with-data-promise.Post κs a r s → with-data-promise.Post κs a r' s' → r ≡ r'
with-data-determined κs a r r' s s' p q = p ∙ sym q

pub set-index-select-determined : (κs : _) (a : _) (r r' : _) (s s' : _) → set-index-select-promise.Post κs a r s → set-index-select-promise.Post κs a r' s' → s.0.now ≡ s'.0.now
set-index-select-determined κs a r r' s s' p q = p ∙ sym q

pub set-address-low-determined : (κs : _) (a : _) (r r' : _) (s s' : _) → set-address-low-promise.Post κs a r s → set-address-low-promise.Post κs a r' s' → s.0.now ≡ s'.0.now
set-address-low-determined κs a r r' s s' p q = p ∙ sym q

pub set-address-high-determined : (κs : _) (a : _) (r r' : _) (s s' : _) → set-address-high-promise.Post κs a r s → set-address-high-promise.Post κs a r' s' → s.0.now ≡ s'.0.now
set-address-high-determined κs a r r' s s' p q = p ∙ sym q

pub set-data-determined : (κs : _) (a : _) (r r' : _) (s s' : _) → set-data-promise.Post κs a r s → set-data-promise.Post κs a r' s' → s.0.now ≡ s'.0.now
set-data-determined κs a r r' s s' p q = p ∙ sym q

pub staged-index-select-determined : (κs : _) (a : _) (r r' : _) (s s' : _) → staged-index-select-promise.Post κs a r s → staged-index-select-promise.Post κs a r' s' → r ≡ r'
staged-index-select-determined κs a r r' s s' p q = p ∙ sym q

pub staged-address-low-determined : (κs : _) (a : _) (r r' : _) (s s' : _) → staged-address-low-promise.Post κs a r s → staged-address-low-promise.Post κs a r' s' → r ≡ r'
staged-address-low-determined κs a r r' s s' p q = p ∙ sym q

pub staged-address-high-determined : (κs : _) (a : _) (r r' : _) (s s' : _) → staged-address-high-promise.Post κs a r s → staged-address-high-promise.Post κs a r' s' → r ≡ r'
staged-address-high-determined κs a r r' s s' p q = p ∙ sym q

pub staged-data-determined : (κs : _) (a : _) (r r' : _) (s s' : _) → staged-data-promise.Post κs a r s → staged-data-promise.Post κs a r' s' → r ≡ r'
staged-data-determined κs a r r' s s' p q = p ∙ sym q
