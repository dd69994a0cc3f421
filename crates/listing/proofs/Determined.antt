-- Any two pages that a promise of this floor allows have the same bytes and the same place.
use Rattle.text.proofs.Determined.{Same, same-printed}
use Rattle.listing.proofs.actions.Reads as actions-promise
use Rattle.listing.proofs.queues.Reads as queues-promise

pub actions-determined : (κs : _) (a : _) (r r' : _) (s s' : _) → actions-promise.Post κs a r s → actions-promise.Post κs a r' s' → Same s.0.now s'.0.now
actions-determined κs a r r' s s' p q = same-printed p q

pub queues-determined : (κs : _) (a : _) (r r' : _) (s s' : _) → queues-promise.Post κs a r s → queues-promise.Post κs a r' s' → Same s.0.now s'.0.now
queues-determined κs a r r' s s' p q = same-printed p q
