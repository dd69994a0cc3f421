-- Any two results that a promise of this floor allows are equal.
use mathlib.Core.Bool.{false}
use mathlib.Core.Path.{◌≡◌, refl, sym, ◌∙◌}
use Rattle.mmio_hot.proofs.HotDefault.default.Reads as hot-default-promise
use Rattle.mmio_hot.proofs.Hot.fail.Reads as fail-promise
use Rattle.mmio_hot.proofs.Hot.wiped.Reads as wiped-promise
use Rattle.mmio_hot.proofs.csr_of.Reads as csr-of-promise
use Rattle.mmio_hot.proofs.command_at.Reads as command-at-promise

pub fail-determined : (κs : _) (a : _) (r r' : _) (s s' : _) → fail-promise.Post κs a r s → fail-promise.Post κs a r' s' → r ≡ r'
fail-determined κs a r r' s s' p q = p ∙ sym q

pub wiped-determined : (κs : _) (a : _) (r r' : _) (s s' : _) → wiped-promise.Post κs a r s → wiped-promise.Post κs a r' s' → r ≡ r'
wiped-determined κs a r r' s s' p q = p ∙ sym q

pub csr-of-determined : (κs : _) (a : _) (r r' : _) (s s' : _) → csr-of-promise.Post κs a r s → csr-of-promise.Post κs a r' s' → r ≡ r'
csr-of-determined κs a r r' s s' p q = p ∙ sym q

pub command-at-determined : (κs : _) (a : _) (r r' : _) (s s' : _) → command-at-promise.Post κs a r s → command-at-promise.Post κs a r' s' → r ≡ r'
command-at-determined κs a r r' s s' p q = p ∙ sym q

-- the derived default is zeros, with no doorbell and MSI off
pub hot-default : (κs : _) (a : _) (r : _) (s : _) → hot-default-promise.Post κs a r s
    → r ≡ record { status = 0; interrupts = 0; vendor = 0; page = 0; ackpage = 0; queue = 0; region = 0; doorbell = false; msi = false }
hot-default κs a r s p = rw (p.0, p.1.0, p.1.1.0, p.1.1.1.0, p.1.1.1.1.0, p.1.1.1.1.1.0, p.1.1.1.1.1.1.0, p.1.1.1.1.1.1.1.0, p.1.1.1.1.1.1.1.1) refl
