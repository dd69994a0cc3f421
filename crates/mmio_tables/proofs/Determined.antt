-- Any two results that a promise of this floor allows are equal.
use mathlib.Core.Path.{◌≡◌, sym, ◌∙◌}
use Rattle.mmio_tables.proofs.queues_in.Reads as queues-in-promise
use Rattle.mmio_tables.proofs.size_at.Reads as size-at-promise
use Rattle.mmio_tables.proofs.field_at.Reads as field-at-promise
use Rattle.mmio_tables.proofs.queue_field_at.Reads as queue-field-at-promise
use Rattle.mmio_tables.proofs.update_at.Reads as update-at-promise
use Rattle.mmio_tables.proofs.all_valid.Reads as all-valid-promise
use Rattle.mmio_tables.proofs.found_at.Reads as found-at-promise
use Rattle.mmio_tables.proofs.standing_at.Reads as standing-at-promise
use Rattle.mmio_tables.proofs.may_update.Reads as may-update-promise
use Rattle.mmio_tables.proofs.vector_exists.Reads as vector-exists-promise
use Rattle.mmio_tables.proofs.store_at.Reads as store-at-promise
use Rattle.mmio_tables.proofs.is_masked.Reads as is-masked-promise
use Rattle.mmio_tables.proofs.mask_at.Reads as mask-at-promise
use Rattle.mmio_tables.proofs.ReplyFromResultU32Refusal.from.Reads as reply-from-promise
use Rattle.mmio_tables.proofs.HeldReplyFromResultStandingRefusal.from.Reads as held-reply-from-promise
use Rattle.mmio_tables.proofs.KindTryFromU32.try_from.Reads as kind-try-from-promise

pub queues-in-determined : (κs : _) (a : _) (r r' : _) (s s' : _) → queues-in-promise.Post κs a r s → queues-in-promise.Post κs a r' s' → r ≡ r'
queues-in-determined κs a r r' s s' p q = p ∙ sym q

pub size-at-determined : (κs : _) (a : _) (r r' : _) (s s' : _) → size-at-promise.Post κs a r s → size-at-promise.Post κs a r' s' → r ≡ r'
size-at-determined κs a r r' s s' p q = p ∙ sym q

pub field-at-determined : (κs : _) (a : _) (r r' : _) (s s' : _) → field-at-promise.Post κs a r s → field-at-promise.Post κs a r' s' → r ≡ r'
field-at-determined κs a r r' s s' p q = p ∙ sym q

pub queue-field-at-determined : (κs : _) (a : _) (r r' : _) (s s' : _) → queue-field-at-promise.Post κs a r s → queue-field-at-promise.Post κs a r' s' → r ≡ r'
queue-field-at-determined κs a r r' s s' p q = p ∙ sym q

pub update-at-determined : (κs : _) (a : _) (r r' : _) (s s' : _) → update-at-promise.Post κs a r s → update-at-promise.Post κs a r' s' → r ≡ r'
update-at-determined κs a r r' s s' p q = p ∙ sym q

pub all-valid-determined : (κs : _) (a : _) (r r' : _) (s s' : _) → all-valid-promise.Post κs a r s → all-valid-promise.Post κs a r' s' → r ≡ r'
all-valid-determined κs a r r' s s' p q = p ∙ sym q

pub found-at-determined : (κs : _) (a : _) (r r' : _) (s s' : _) → found-at-promise.Post κs a r s → found-at-promise.Post κs a r' s' → r ≡ r'
found-at-determined κs a r r' s s' p q = p ∙ sym q

pub standing-at-determined : (κs : _) (a : _) (r r' : _) (s s' : _) → standing-at-promise.Post κs a r s → standing-at-promise.Post κs a r' s' → r ≡ r'
standing-at-determined κs a r r' s s' p q = p ∙ sym q

pub may-update-determined : (κs : _) (a : _) (r r' : _) (s s' : _) → may-update-promise.Post κs a r s → may-update-promise.Post κs a r' s' → r ≡ r'
may-update-determined κs a r r' s s' p q = p ∙ sym q

pub vector-exists-determined : (κs : _) (a : _) (r r' : _) (s s' : _) → vector-exists-promise.Post κs a r s → vector-exists-promise.Post κs a r' s' → r ≡ r'
vector-exists-determined κs a r r' s s' p q = p ∙ sym q

pub store-at-determined : (κs : _) (a : _) (r r' : _) (s s' : _) → store-at-promise.Post κs a r s → store-at-promise.Post κs a r' s' → r ≡ r'
store-at-determined κs a r r' s s' p q = p ∙ sym q

pub is-masked-determined : (κs : _) (a : _) (r r' : _) (s s' : _) → is-masked-promise.Post κs a r s → is-masked-promise.Post κs a r' s' → r ≡ r'
is-masked-determined κs a r r' s s' p q = p ∙ sym q

pub mask-at-determined : (κs : _) (a : _) (r r' : _) (s s' : _) → mask-at-promise.Post κs a r s → mask-at-promise.Post κs a r' s' → r ≡ r'
mask-at-determined κs a r r' s s' p q = p ∙ sym q

pub reply-from-determined : (κs : _) (a : _) (r r' : _) (s s' : _) → reply-from-promise.Post κs a r s → reply-from-promise.Post κs a r' s' → r ≡ r'
reply-from-determined κs a r r' s s' p q = p ∙ sym q

pub held-reply-from-determined : (κs : _) (a : _) (r r' : _) (s s' : _) → held-reply-from-promise.Post κs a r s → held-reply-from-promise.Post κs a r' s' → r ≡ r'
held-reply-from-determined κs a r r' s s' p q = p ∙ sym q

pub kind-try-from-determined : (κs : _) (a : _) (r r' : _) (s s' : _) → kind-try-from-promise.Post κs a r s → kind-try-from-promise.Post κs a r' s' → r ≡ r'
kind-try-from-determined κs a r r' s s' p q = p ∙ sym q
