-- Any two results that a promise of this floor allows are equal.
use mathlib.Core.Path.{◌≡◌, sym, ◌∙◌}
use Rattle.registers.proofs.read_register.Reads as read-register-promise
use Rattle.registers.proofs.write_register.Reads as write-register-promise

pub read-register-determined : (κs : _) (a : _) (r r' : _) (s s' : _) → read-register-promise.Post κs a r s → read-register-promise.Post κs a r' s' → r ≡ r'
read-register-determined κs a r r' s s' p q = p ∙ sym q

pub write-register-determined : (κs : _) (a : _) (r r' : _) (s s' : _) → write-register-promise.Post κs a r s → write-register-promise.Post κs a r' s' → r ≡ r'
write-register-determined κs a r r' s s' p q = p ∙ sym q
