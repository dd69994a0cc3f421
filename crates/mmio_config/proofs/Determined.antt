-- Any two results that a promise of this floor allows are equal.
use mathlib.Core.Path.{◌≡◌, refl, sym, ◌∙◌}
use Rattle.mmio_config.specs.Fresh.{no_flags, no_region, no_vector}
use Rattle.mmio_config.proofs.fresh_hot.Reads as fresh-hot-promise
use Rattle.mmio_config.proofs.create_queues.Reads as create-queues-promise
use Rattle.mmio_config.proofs.configure.Reads as configure-promise
use Rattle.mmio_config.proofs.ConfigDefault.default.Reads as config-default-promise
use Rattle.mmio_config.proofs.FlagsDefault.default.Reads as flags-default-promise
use Rattle.mmio_config.proofs.RegionDefault.default.Reads as region-default-promise
use Rattle.mmio_config.proofs.VectorDefault.default.Reads as vector-default-promise

pub fresh-hot-determined : (κs : _) (a : _) (r r' : _) (s s' : _) → fresh-hot-promise.Post κs a r s → fresh-hot-promise.Post κs a r' s' → r ≡ r'
fresh-hot-determined κs a r r' s s' p q = p ∙ sym q

pub create-queues-determined : (κs : _) (a : _) (r r' : _) (s s' : _) → create-queues-promise.Post κs a r s → create-queues-promise.Post κs a r' s' → r ≡ r'
create-queues-determined κs a r r' s s' p q = p ∙ sym q

pub configure-determined : (κs : _) (a : _) (r r' : _) (s s' : _) → configure-promise.Post κs a r s → configure-promise.Post κs a r' s' → r ≡ r'
configure-determined κs a r r' s s' p q = p ∙ sym q

pub config-default-determined : (κs : _) (a : _) (r r' : _) (s s' : _) → config-default-promise.Post κs a r s → config-default-promise.Post κs a r' s' → r ≡ r'
config-default-determined κs a r r' s s' p q = p ∙ sym q

-- the derived defaults are those that the definitions name

pub flags-default : (κs : _) (a : _) (r : _) (s : _) → flags-default-promise.Post κs a r s → r ≡ no_flags
flags-default κs a r s p = rw (p.0, p.1.0, p.1.1) refl

pub region-default : (κs : _) (a : _) (r : _) (s : _) → region-default-promise.Post κs a r s → r ≡ no_region
region-default κs a r s p = rw (p.0, p.1) refl

pub vector-default : (κs : _) (a : _) (r : _) (s : _) → vector-default-promise.Post κs a r s → r ≡ no_vector
vector-default κs a r s p = rw (p.0, p.1.0, p.1.1.0, p.1.1.1) refl
