-- Any two results that a promise of this floor allows are equal.
use Rattle.std.proofs.Common.{◌≡◌, sym, ◌∙◌}
use Rattle.dragonball.proofs.DoorBell.new.Reads as new-promise
use Rattle.dragonball.proofs.DoorBell.offset.Reads as offset-promise
use Rattle.dragonball.proofs.DoorBell.scale.Reads as scale-promise
use Rattle.dragonball.proofs.DoorBell.queue_offset.Reads as queue-offset-promise
use Rattle.dragonball.proofs.DoorBell.register_data.Reads as register-data-promise
use Rattle.dragonball.proofs.msi_command.Reads as msi-command-promise
use Rattle.dragonball.proofs.device_vendor.Reads as device-vendor-promise
use Rattle.dragonball.proofs.doorbell_enabled.Reads as doorbell-enabled-promise
use Rattle.dragonball.proofs.shm_base.Reads as shm-base-promise
use Rattle.dragonball.proofs.low_word.Reads as low-word-promise
use Rattle.dragonball.proofs.high_word.Reads as high-word-promise

pub new-determined : (κs : _) (a : _) (r r' : _) (s s' : _) → new-promise.Post κs a r s → new-promise.Post κs a r' s' → r ≡ r'
new-determined κs a r r' s s' p q = p ∙ sym q

pub offset-determined : (κs : _) (a : _) (r r' : _) (s s' : _) → offset-promise.Post κs a r s → offset-promise.Post κs a r' s' → r ≡ r'
offset-determined κs a r r' s s' p q = p ∙ sym q

pub scale-determined : (κs : _) (a : _) (r r' : _) (s s' : _) → scale-promise.Post κs a r s → scale-promise.Post κs a r' s' → r ≡ r'
scale-determined κs a r r' s s' p q = p ∙ sym q

pub queue-offset-determined : (κs : _) (a : _) (r r' : _) (s s' : _) → queue-offset-promise.Post κs a r s → queue-offset-promise.Post κs a r' s' → r ≡ r'
queue-offset-determined κs a r r' s s' p q = p ∙ sym q

pub register-data-determined : (κs : _) (a : _) (r r' : _) (s s' : _) → register-data-promise.Post κs a r s → register-data-promise.Post κs a r' s' → r ≡ r'
register-data-determined κs a r r' s s' p q = p ∙ sym q

pub msi-command-determined : (κs : _) (a : _) (r r' : _) (s s' : _) → msi-command-promise.Post κs a r s → msi-command-promise.Post κs a r' s' → r ≡ r'
msi-command-determined κs a r r' s s' p q = p ∙ sym q

pub device-vendor-determined : (κs : _) (a : _) (r r' : _) (s s' : _) → device-vendor-promise.Post κs a r s → device-vendor-promise.Post κs a r' s' → r ≡ r'
device-vendor-determined κs a r r' s s' p q = p ∙ sym q

pub doorbell-enabled-determined : (κs : _) (a : _) (r r' : _) (s s' : _) → doorbell-enabled-promise.Post κs a r s → doorbell-enabled-promise.Post κs a r' s' → r ≡ r'
doorbell-enabled-determined κs a r r' s s' p q = p ∙ sym q

pub shm-base-determined : (κs : _) (a : _) (r r' : _) (s s' : _) → shm-base-promise.Post κs a r s → shm-base-promise.Post κs a r' s' → r ≡ r'
shm-base-determined κs a r r' s s' p q = p ∙ sym q

pub low-word-determined : (κs : _) (a : _) (r r' : _) (s s' : _) → low-word-promise.Post κs a r s → low-word-promise.Post κs a r' s' → r ≡ r'
low-word-determined κs a r r' s s' p q = p ∙ sym q

pub high-word-determined : (κs : _) (a : _) (r r' : _) (s s' : _) → high-word-promise.Post κs a r s → high-word-promise.Post κs a r' s' → r ≡ r'
high-word-determined κs a r r' s s' p q = p ∙ sym q
