-- Any two results that a promise of this floor allows are equal, and so are the lent words at the end.
use mathlib.Core.Path.{◌≡◌, sym, ◌∙◌}
use Rattle.mmio_state.proofs.enough.Reads as enough-promise
use Rattle.mmio_state.proofs.quiet_done.Reads as quiet-done-promise
use Rattle.mmio_state.proofs.ask_nothing.Reads as ask-nothing-promise
use Rattle.mmio_state.proofs.tell.Reads as tell-promise
use Rattle.mmio_state.proofs.MmioV2DeviceState.new.Reads as new-promise
use Rattle.mmio_state.proofs.MmioV2DeviceState.set_driver_failed.Reads as set-driver-failed-promise
use Rattle.mmio_state.proofs.MmioV2DeviceState.check_queues_valid.Reads as check-queues-valid-promise
use Rattle.mmio_state.proofs.MmioV2DeviceState.queue_max.Reads as queue-max-promise
use Rattle.mmio_state.proofs.MmioV2DeviceState.queue_ready.Reads as queue-ready-promise
use Rattle.mmio_state.proofs.MmioV2DeviceState.with_queue_mut.Reads as with-queue-mut-promise
use Rattle.mmio_state.proofs.MmioV2DeviceState.get_avail_features.Reads as get-avail-features-promise
use Rattle.mmio_state.proofs.MmioV2DeviceState.get_shm_field.Reads as get-shm-field-promise
use Rattle.mmio_state.proofs.MmioV2DeviceState.field.Reads as field-promise
use Rattle.mmio_state.proofs.MmioV2DeviceState.held_entry.Reads as held-entry-promise
use Rattle.mmio_state.proofs.MmioV2DeviceState.activate.Reads as activate-promise
use Rattle.mmio_state.proofs.MmioV2DeviceState.set_acked_features.Reads as set-acked-features-promise
use Rattle.mmio_state.proofs.MmioV2DeviceState.reset.Reads as reset-promise
use Rattle.mmio_state.proofs.MmioV2DeviceStateDefault.default.Reads as default-promise

pub enough-determined : (κs : _) (a : _) (r r' : _) (s s' : _) → enough-promise.Post κs a r s → enough-promise.Post κs a r' s' → r ≡ r'
enough-determined κs a r r' s s' p q = p ∙ sym q

pub quiet-done-determined : (κs : _) (a : _) (r r' : _) (s s' : _) → quiet-done-promise.Post κs a r s → quiet-done-promise.Post κs a r' s' → r ≡ r'
quiet-done-determined κs a r r' s s' p q = p ∙ sym q

pub tell-determined : (κs : _) (a : _) (r r' : _) (s s' : _) → tell-promise.Post κs a r s → tell-promise.Post κs a r' s' → (r ≡ r') × (s.1.1.1.0.now ≡ s'.1.1.1.0.now)
tell-determined κs a r r' s s' p q = (p.0 ∙ sym q.0, p.1 ∙ sym q.1)

pub new-determined : (κs : _) (a : _) (r r' : _) (s s' : _) → new-promise.Post κs a r s → new-promise.Post κs a r' s' → r ≡ r'
new-determined κs a r r' s s' p q = p ∙ sym q

pub set-driver-failed-determined : (κs : _) (a : _) (r r' : _) (s s' : _) → set-driver-failed-promise.Post κs a r s → set-driver-failed-promise.Post κs a r' s' → r ≡ r'
set-driver-failed-determined κs a r r' s s' p q = p ∙ sym q

pub check-queues-valid-determined : (κs : _) (a : _) (r r' : _) (s s' : _) → check-queues-valid-promise.Post κs a r s → check-queues-valid-promise.Post κs a r' s' → r ≡ r'
check-queues-valid-determined κs a r r' s s' p q = p ∙ sym q

pub queue-max-determined : (κs : _) (a : _) (r r' : _) (s s' : _) → queue-max-promise.Post κs a r s → queue-max-promise.Post κs a r' s' → r ≡ r'
queue-max-determined κs a r r' s s' p q = p ∙ sym q

pub queue-ready-determined : (κs : _) (a : _) (r r' : _) (s s' : _) → queue-ready-promise.Post κs a r s → queue-ready-promise.Post κs a r' s' → r ≡ r'
queue-ready-determined κs a r r' s s' p q = p ∙ sym q

pub with-queue-mut-determined : (κs : _) (a : _) (r r' : _) (s s' : _) → with-queue-mut-promise.Post κs a r s → with-queue-mut-promise.Post κs a r' s' → r ≡ r'
with-queue-mut-determined κs a r r' s s' p q = p ∙ sym q

pub get-avail-features-determined : (κs : _) (a : _) (r r' : _) (s s' : _) → get-avail-features-promise.Post κs a r s → get-avail-features-promise.Post κs a r' s' → r ≡ r'
get-avail-features-determined κs a r r' s s' p q = p ∙ sym q

pub get-shm-field-determined : (κs : _) (a : _) (r r' : _) (s s' : _) → get-shm-field-promise.Post κs a r s → get-shm-field-promise.Post κs a r' s' → r ≡ r'
get-shm-field-determined κs a r r' s s' p q = p ∙ sym q

pub field-determined : (κs : _) (a : _) (r r' : _) (s s' : _) → field-promise.Post κs a r s → field-promise.Post κs a r' s' → r ≡ r'
field-determined κs a r r' s s' p q = p ∙ sym q

pub held-entry-determined : (κs : _) (a : _) (r r' : _) (s s' : _) → held-entry-promise.Post κs a r s → held-entry-promise.Post κs a r' s' → r ≡ r'
held-entry-determined κs a r r' s s' p q = p ∙ sym q

pub activate-determined : (κs : _) (a : _) (r r' : _) (s s' : _) → activate-promise.Post κs a r s → activate-promise.Post κs a r' s' → (r ≡ r') × (s.1.1.0.now ≡ s'.1.1.0.now)
activate-determined κs a r r' s s' p q = (p.0 ∙ sym q.0, p.1 ∙ sym q.1)

pub set-acked-features-determined : (κs : _) (a : _) (r r' : _) (s s' : _) → set-acked-features-promise.Post κs a r s → set-acked-features-promise.Post κs a r' s' → (r ≡ r') × (s.1.1.0.now ≡ s'.1.1.0.now)
set-acked-features-determined κs a r r' s s' p q = (p.0 ∙ sym q.0, p.1 ∙ sym q.1)

pub reset-determined : (κs : _) (a : _) (r r' : _) (s s' : _) → reset-promise.Post κs a r s → reset-promise.Post κs a r' s' → (r ≡ r') × (s.1.1.0.now ≡ s'.1.1.0.now)
reset-determined κs a r r' s s' p q = (p.0 ∙ sym q.0, p.1 ∙ sym q.1)

pub default-determined : (κs : _) (a : _) (r r' : _) (s s' : _) → default-promise.Post κs a r s → default-promise.Post κs a r' s' → r ≡ r'
default-determined κs a r r' s s' p q = p ∙ sym q

pub ask-nothing-determined : (κs : _) (a : _) (r r' : _) (s s' : _) → ask-nothing-promise.Post κs a r s → ask-nothing-promise.Post κs a r' s' → r ≡ r'
ask-nothing-determined κs a r r' s s' p q = p ∙ sym q
