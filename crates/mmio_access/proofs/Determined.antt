-- Any two results that a promise of this floor allows are equal, and so are the lent words at the end.
use mathlib.Core.Path.{◌≡◌, sym, ◌∙◌}
use Rattle.mmio_access.proofs.queue_fields_open.Reads as queue-fields-open-promise
use Rattle.mmio_access.proofs.acked_features_open.Reads as acked-features-open-promise
use Rattle.mmio_access.proofs.config_open.Reads as config-open-promise
use Rattle.mmio_access.proofs.tweak_intr_flags.Reads as tweak-intr-flags-promise
use Rattle.mmio_access.proofs.device_features.Reads as device-features-promise
use Rattle.mmio_access.proofs.doorbell_word.Reads as doorbell-word-promise
use Rattle.mmio_access.proofs.msi_csr.Reads as msi-csr-promise
use Rattle.mmio_access.proofs.get_shm_len_low.Reads as get-shm-len-low-promise
use Rattle.mmio_access.proofs.get_shm_len_high.Reads as get-shm-len-high-promise
use Rattle.mmio_access.proofs.get_shm_base_low.Reads as get-shm-base-low-promise
use Rattle.mmio_access.proofs.get_shm_base_high.Reads as get-shm-base-high-promise
use Rattle.mmio_access.proofs.set_features_select.Reads as set-features-select-promise
use Rattle.mmio_access.proofs.set_acked_features_select.Reads as set-acked-features-select-promise
use Rattle.mmio_access.proofs.set_queue_select.Reads as set-queue-select-promise
use Rattle.mmio_access.proofs.set_shm_region_id.Reads as set-shm-region-id-promise
use Rattle.mmio_access.proofs.clear_interrupts.Reads as clear-interrupts-promise
use Rattle.mmio_access.proofs.raise_interrupts.Reads as raise-interrupts-promise
use Rattle.mmio_access.proofs.update_queue_field.Reads as update-queue-field-promise
use Rattle.mmio_access.proofs.set_acked_features.Reads as set-acked-features-promise
use Rattle.mmio_access.proofs.get_device_config.Reads as get-device-config-promise
use Rattle.mmio_access.proofs.set_device_config.Reads as set-device-config-promise

pub queue-fields-open-determined : (κs : _) (a : _) (r r' : _) (s s' : _) → queue-fields-open-promise.Post κs a r s → queue-fields-open-promise.Post κs a r' s' → r ≡ r'
queue-fields-open-determined κs a r r' s s' p q = p ∙ sym q

pub acked-features-open-determined : (κs : _) (a : _) (r r' : _) (s s' : _) → acked-features-open-promise.Post κs a r s → acked-features-open-promise.Post κs a r' s' → r ≡ r'
acked-features-open-determined κs a r r' s s' p q = p ∙ sym q

pub config-open-determined : (κs : _) (a : _) (r r' : _) (s s' : _) → config-open-promise.Post κs a r s → config-open-promise.Post κs a r' s' → r ≡ r'
config-open-determined κs a r r' s s' p q = p ∙ sym q

pub tweak-intr-flags-determined : (κs : _) (a : _) (r r' : _) (s s' : _) → tweak-intr-flags-promise.Post κs a r s → tweak-intr-flags-promise.Post κs a r' s' → r ≡ r'
tweak-intr-flags-determined κs a r r' s s' p q = p ∙ sym q

pub device-features-determined : (κs : _) (a : _) (r r' : _) (s s' : _) → device-features-promise.Post κs a r s → device-features-promise.Post κs a r' s' → r ≡ r'
device-features-determined κs a r r' s s' p q = p ∙ sym q

pub doorbell-word-determined : (κs : _) (a : _) (r r' : _) (s s' : _) → doorbell-word-promise.Post κs a r s → doorbell-word-promise.Post κs a r' s' → r ≡ r'
doorbell-word-determined κs a r r' s s' p q = p ∙ sym q

pub msi-csr-determined : (κs : _) (a : _) (r r' : _) (s s' : _) → msi-csr-promise.Post κs a r s → msi-csr-promise.Post κs a r' s' → r ≡ r'
msi-csr-determined κs a r r' s s' p q = p ∙ sym q

pub get-shm-len-low-determined : (κs : _) (a : _) (r r' : _) (s s' : _) → get-shm-len-low-promise.Post κs a r s → get-shm-len-low-promise.Post κs a r' s' → r ≡ r'
get-shm-len-low-determined κs a r r' s s' p q = p ∙ sym q

pub get-shm-len-high-determined : (κs : _) (a : _) (r r' : _) (s s' : _) → get-shm-len-high-promise.Post κs a r s → get-shm-len-high-promise.Post κs a r' s' → r ≡ r'
get-shm-len-high-determined κs a r r' s s' p q = p ∙ sym q

pub get-shm-base-low-determined : (κs : _) (a : _) (r r' : _) (s s' : _) → get-shm-base-low-promise.Post κs a r s → get-shm-base-low-promise.Post κs a r' s' → r ≡ r'
get-shm-base-low-determined κs a r r' s s' p q = p ∙ sym q

pub get-shm-base-high-determined : (κs : _) (a : _) (r r' : _) (s s' : _) → get-shm-base-high-promise.Post κs a r s → get-shm-base-high-promise.Post κs a r' s' → r ≡ r'
get-shm-base-high-determined κs a r r' s s' p q = p ∙ sym q

pub set-features-select-determined : (κs : _) (a : _) (r r' : _) (s s' : _) → set-features-select-promise.Post κs a r s → set-features-select-promise.Post κs a r' s' → r ≡ r'
set-features-select-determined κs a r r' s s' p q = p ∙ sym q

pub set-acked-features-select-determined : (κs : _) (a : _) (r r' : _) (s s' : _) → set-acked-features-select-promise.Post κs a r s → set-acked-features-select-promise.Post κs a r' s' → r ≡ r'
set-acked-features-select-determined κs a r r' s s' p q = p ∙ sym q

pub set-queue-select-determined : (κs : _) (a : _) (r r' : _) (s s' : _) → set-queue-select-promise.Post κs a r s → set-queue-select-promise.Post κs a r' s' → r ≡ r'
set-queue-select-determined κs a r r' s s' p q = p ∙ sym q

pub set-shm-region-id-determined : (κs : _) (a : _) (r r' : _) (s s' : _) → set-shm-region-id-promise.Post κs a r s → set-shm-region-id-promise.Post κs a r' s' → r ≡ r'
set-shm-region-id-determined κs a r r' s s' p q = p ∙ sym q

pub clear-interrupts-determined : (κs : _) (a : _) (r r' : _) (s s' : _) → clear-interrupts-promise.Post κs a r s → clear-interrupts-promise.Post κs a r' s' → r ≡ r'
clear-interrupts-determined κs a r r' s s' p q = p ∙ sym q

pub raise-interrupts-determined : (κs : _) (a : _) (r r' : _) (s s' : _) → raise-interrupts-promise.Post κs a r s → raise-interrupts-promise.Post κs a r' s' → r ≡ r'
raise-interrupts-determined κs a r r' s s' p q = p ∙ sym q

pub update-queue-field-determined : (κs : _) (a : _) (r r' : _) (s s' : _) → update-queue-field-promise.Post κs a r s → update-queue-field-promise.Post κs a r' s' → r ≡ r'
update-queue-field-determined κs a r r' s s' p q = p ∙ sym q

pub set-acked-features-determined : (κs : _) (a : _) (r r' : _) (s s' : _) → set-acked-features-promise.Post κs a r s → set-acked-features-promise.Post κs a r' s' → (r ≡ r') × (s.1.1.0.now ≡ s'.1.1.0.now)
set-acked-features-determined κs a r r' s s' p q = (p.0 ∙ sym q.0, p.1 ∙ sym q.1)

pub get-device-config-determined : (κs : _) (a : _) (r r' : _) (s s' : _) → get-device-config-promise.Post κs a r s → get-device-config-promise.Post κs a r' s' → (r ≡ r') × (s.1.1.1.0.now ≡ s'.1.1.1.0.now)
get-device-config-determined κs a r r' s s' p q = (p.0 ∙ sym q.0, p.1 ∙ sym q.1)

pub set-device-config-determined : (κs : _) (a : _) (r r' : _) (s s' : _) → set-device-config-promise.Post κs a r s → set-device-config-promise.Post κs a r' s' → (r ≡ r') × (s.1.1.1.0.now ≡ s'.1.1.1.0.now)
set-device-config-determined κs a r r' s s' p q = (p.0 ∙ sym q.0, p.1 ∙ sym q.1)
