-- Any two results that a promise of an export allows are equal, and so are the device, the lent bytes and the lent words at the end.
use mathlib.Core.Path.{◌≡◌, sym, ◌∙◌}
use Rattle.desk.proofs.Determined.{same-replayed}
use Rattle.dewbracket_c.proofs.dewbracket_new.Reads as new-promise
use Rattle.dewbracket_c.proofs.dewbracket_driver_status.Reads as driver-status-promise
use Rattle.dewbracket_c.proofs.dewbracket_field.Reads as field-promise
use Rattle.dewbracket_c.proofs.dewbracket_held_entry.Reads as held-entry-promise
use Rattle.dewbracket_c.proofs.dewbracket_pass_read.Reads as pass-read-promise
use Rattle.dewbracket_c.proofs.dewbracket_pass_write.Reads as pass-write-promise
use Rattle.dewbracket_c.proofs.dewbracket_pass_raise.Reads as pass-raise-promise
use Rattle.dewbracket_c.proofs.dewbracket_read.Reads as read-promise
use Rattle.dewbracket_c.proofs.dewbracket_write.Reads as write-promise
use Rattle.dewbracket_c.proofs.dewbracket_raise.Reads as raise-promise
use Rattle.dewbracket_c.proofs.dewbracket_poll_read.Reads as poll-read-promise
use Rattle.dewbracket_c.proofs.dewbracket_poll_write.Reads as poll-write-promise
use Rattle.dewbracket_c.proofs.dewbracket_replay.Reads as replay-promise

pub new-determined : (κs : _) (a : _) (r r' : _) (s s' : _) → new-promise.Post κs a r s → new-promise.Post κs a r' s' → r ≡ r'
new-determined κs a r r' s s' p q = p ∙ sym q

pub driver-status-determined : (κs : _) (a : _) (r r' : _) (s s' : _) → driver-status-promise.Post κs a r s → driver-status-promise.Post κs a r' s' → r ≡ r'
driver-status-determined κs a r r' s s' p q = p ∙ sym q

pub field-determined : (κs : _) (a : _) (r r' : _) (s s' : _) → field-promise.Post κs a r s → field-promise.Post κs a r' s' → r ≡ r'
field-determined κs a r r' s s' p q = p ∙ sym q

pub held-entry-determined : (κs : _) (a : _) (r r' : _) (s s' : _) → held-entry-promise.Post κs a r s → held-entry-promise.Post κs a r' s' → r ≡ r'
held-entry-determined κs a r r' s s' p q = p ∙ sym q

pub pass-read-determined : (κs : _) (a : _) (r r' : _) (s s' : _) → pass-read-promise.Post κs a r s → pass-read-promise.Post κs a r' s' → (r ≡ r') × ((s.1.1.1.0.now ≡ s'.1.1.1.0.now) × (s.1.1.1.1.0.now ≡ s'.1.1.1.1.0.now))
pass-read-determined κs a r r' s s' p q = (p.0 ∙ sym q.0, (p.1.0 ∙ sym q.1.0, p.1.1 ∙ sym q.1.1))

pub pass-write-determined : (κs : _) (a : _) (r r' : _) (s s' : _) → pass-write-promise.Post κs a r s → pass-write-promise.Post κs a r' s' → (r ≡ r') × (s.1.1.1.1.0.now ≡ s'.1.1.1.1.0.now)
pass-write-determined κs a r r' s s' p q = (p.0 ∙ sym q.0, p.1 ∙ sym q.1)

pub pass-raise-determined : (κs : _) (a : _) (r r' : _) (s s' : _) → pass-raise-promise.Post κs a r s → pass-raise-promise.Post κs a r' s' → (r ≡ r') × (s.1.1.0.now ≡ s'.1.1.0.now)
pass-raise-determined κs a r r' s s' p q = (p.0 ∙ sym q.0, p.1 ∙ sym q.1)

pub read-determined : (κs : _) (a : _) (r r' : _) (s s' : _) → read-promise.Post κs a r s → read-promise.Post κs a r' s' → (r ≡ r') × (s.1.1.1.0.now ≡ s'.1.1.1.0.now) × (s.1.1.1.1.0.now ≡ s'.1.1.1.1.0.now)
read-determined κs a r r' s s' p q = (p.0 ∙ sym q.0, p.1 ∙ sym q.1, p.2 ∙ sym q.2)

pub write-determined : (κs : _) (a : _) (r r' : _) (s s' : _) → write-promise.Post κs a r s → write-promise.Post κs a r' s' → (s.0.now ≡ s'.0.now) × (r ≡ r') × (s.1.1.1.1.0.now ≡ s'.1.1.1.1.0.now)
write-determined κs a r r' s s' p q = (p.0 ∙ sym q.0, p.1 ∙ sym q.1, p.2 ∙ sym q.2)

pub raise-determined : (κs : _) (a : _) (r r' : _) (s s' : _) → raise-promise.Post κs a r s → raise-promise.Post κs a r' s' → (s.0.now ≡ s'.0.now) × (r ≡ r') × (s.1.1.0.now ≡ s'.1.1.0.now)
raise-determined κs a r r' s s' p q = (p.0 ∙ sym q.0, p.1 ∙ sym q.1, p.2 ∙ sym q.2)

pub poll-read-determined : (κs : _) (a : _) (r r' : _) (s s' : _) → poll-read-promise.Post κs a r s → poll-read-promise.Post κs a r' s' → r ≡ r'
poll-read-determined κs a r r' s s' p q = p ∙ sym q

pub poll-write-determined : (κs : _) (a : _) (r r' : _) (s s' : _) → poll-write-promise.Post κs a r s → poll-write-promise.Post κs a r' s' → (s.0.now ≡ s'.0.now) × (r ≡ r')
poll-write-determined κs a r r' s s' p q = (p.0 ∙ sym q.0, p.1 ∙ sym q.1)

pub replay-determined : (κs : _) (a : _) (r r' : _) (s s' : _) → replay-promise.Post κs a r s → replay-promise.Post κs a r' s' → (r ≡ r') × (s.1.1.0.now ≡ s'.1.1.0.now)
replay-determined κs a r r' s s' p q = same-replayed p q
