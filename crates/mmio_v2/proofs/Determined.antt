-- Any two results that a promise of this floor allows are equal, and so are the lent words at the end.
use mathlib.Core.Path.{◌≡◌, refl, sym, ◌∙◌}
use Rattle.mmio_state.specs.Fresh.{no_state}
use Rattle.mmio_v2.specs.Fresh.{device}
use Rattle.mmio_v2.proofs.MmioV2DeviceDefault.default.Reads as device-default-promise
use Rattle.mmio_v2.proofs.MmioV2Device.new.Reads as new-promise
use Rattle.mmio_v2.proofs.MmioV2Device.read.Reads as read-promise
use Rattle.mmio_v2.proofs.MmioV2Device.write.Reads as write-promise
use Rattle.mmio_v2.proofs.MmioV2Device.raise.Reads as raise-promise
use Rattle.mmio_v2.proofs.MmioV2Device.driver_status.Reads as driver-status-promise
use Rattle.mmio_v2.proofs.MmioV2Device.field.Reads as field-promise
use Rattle.mmio_v2.proofs.MmioV2Device.held_entry.Reads as held-entry-promise
use Rattle.mmio_v2.proofs.MadeDeviceFromResultMmioV2DeviceRefusal.from.Reads as made-device-from-promise

pub new-determined : (κs : _) (a : _) (r r' : _) (s s' : _) → new-promise.Post κs a r s → new-promise.Post κs a r' s' → r ≡ r'
new-determined κs a r r' s s' p q = p ∙ sym q

pub read-determined : (κs : _) (a : _) (r r' : _) (s s' : _) → read-promise.Post κs a r s → read-promise.Post κs a r' s' → (r ≡ r') × ((s.1.1.1.0.now ≡ s'.1.1.1.0.now) × (s.1.1.1.1.0.now ≡ s'.1.1.1.1.0.now))
read-determined κs a r r' s s' p q = (p.0 ∙ sym q.0, (p.1.0 ∙ sym q.1.0, p.1.1 ∙ sym q.1.1))

pub write-determined : (κs : _) (a : _) (r r' : _) (s s' : _) → write-promise.Post κs a r s → write-promise.Post κs a r' s' → (r ≡ r') × (s.1.1.1.1.0.now ≡ s'.1.1.1.1.0.now)
write-determined κs a r r' s s' p q = (p.0 ∙ sym q.0, p.1 ∙ sym q.1)

pub raise-determined : (κs : _) (a : _) (r r' : _) (s s' : _) → raise-promise.Post κs a r s → raise-promise.Post κs a r' s' → (r ≡ r') × (s.1.1.0.now ≡ s'.1.1.0.now)
raise-determined κs a r r' s s' p q = (p.0 ∙ sym q.0, p.1 ∙ sym q.1)

pub driver-status-determined : (κs : _) (a : _) (r r' : _) (s s' : _) → driver-status-promise.Post κs a r s → driver-status-promise.Post κs a r' s' → r ≡ r'
driver-status-determined κs a r r' s s' p q = p ∙ sym q

pub field-determined : (κs : _) (a : _) (r r' : _) (s s' : _) → field-promise.Post κs a r s → field-promise.Post κs a r' s' → r ≡ r'
field-determined κs a r r' s s' p q = p ∙ sym q

pub held-entry-determined : (κs : _) (a : _) (r r' : _) (s s' : _) → held-entry-promise.Post κs a r s → held-entry-promise.Post κs a r' s' → r ≡ r'
held-entry-determined κs a r r' s s' p q = p ∙ sym q

pub made-device-from-determined : (κs : _) (a : _) (r r' : _) (s s' : _) → made-device-from-promise.Post κs a r s → made-device-from-promise.Post κs a r' s' → r ≡ r'
made-device-from-determined κs a r r' s s' p q = p ∙ sym q

-- the derived default is the device of zeros
pub device-default : (κs : _) (a : _) (r : _) (s : _) → device-default-promise.Post κs a r s → r ≡ device no_state
device-default κs a r s p = rw p refl
