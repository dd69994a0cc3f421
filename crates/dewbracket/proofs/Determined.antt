-- Any two results that a promise of this floor allows are equal, and so are the device, the lent bytes and the lent words at
-- the end.
use mathlib.Core.Path.{◌≡◌, sym, ◌∙◌}
use mathlib.Core.Bool.{Bool}
use mathlib.Core.List.{List}
use Prim.Native.Nat.{ℕ}
use Rattle.mmio_v2.specs.declared.MmioV2Device.{MmioV2Device}
use Rattle.desk.proofs.Determined.{same-replayed}
use Rattle.mmio_fast.specs.declared.Quick.{Quick}
use Rattle.mmio_fast.specs.declared.Told.{Told}
use Rattle.dewbracket.specs.Promises.{Reads, Writes, Raises, PollsRead, PollsWrite}
use Rattle.dewbracket.proofs.dewbracket_new.Reads as new-promise
use Rattle.dewbracket.proofs.dewbracket_driver_status.Reads as driver-status-promise
use Rattle.dewbracket.proofs.dewbracket_field.Reads as field-promise
use Rattle.dewbracket.proofs.dewbracket_held_entry.Reads as held-entry-promise
use Rattle.dewbracket.proofs.dewbracket_pass_read.Reads as pass-read-promise
use Rattle.dewbracket.proofs.dewbracket_pass_write.Reads as pass-write-promise
use Rattle.dewbracket.proofs.dewbracket_pass_raise.Reads as pass-raise-promise
use Rattle.dewbracket.proofs.dewbracket_replay.Reads as replay-promise

pub new-determined : (κs : _) (a : _) (r r' : _) (s s' : _) → new-promise.Post κs a r s → new-promise.Post κs a r' s' → r ≡ r'
new-determined κs a r r' s s' p q = p ∙ sym q

pub driver-status-determined : (κs : _) (a : _) (r r' : _) (s s' : _) → driver-status-promise.Post κs a r s → driver-status-promise.Post κs a r' s' → r ≡ r'
driver-status-determined κs a r r' s s' p q = p ∙ sym q

pub field-determined : (κs : _) (a : _) (r r' : _) (s s' : _) → field-promise.Post κs a r s → field-promise.Post κs a r' s' → r ≡ r'
field-determined κs a r r' s s' p q = p ∙ sym q

pub held-entry-determined : (κs : _) (a : _) (r r' : _) (s s' : _) → held-entry-promise.Post κs a r s → held-entry-promise.Post κs a r' s' → r ≡ r'
held-entry-determined κs a r r' s s' p q = p ∙ sym q

pub pass-read-determined : (κs : _) (a : _) (r r' : _) (s s' : _) → pass-read-promise.Post κs a r s → pass-read-promise.Post κs a r' s' → (r ≡ r') × ((s.1.1.1.0.now ≡ s'.1.1.1.0.now) × (s.1.1.1.1.0.now ≡ s'.1.1.1.1.0.now))
pass-read-determined κs a r r' s s' p q = (p.0 ∙ sym q.0, (p.1.0 ∙ sym q.1.0, p.1.1 ∙ sym q.1.1))

pub pass-write-determined : (κs : _) (a : _) (r r' : _) (s s' : _) → pass-write-promise.Post κs a r s → pass-write-promise.Post κs a r' s' → (r ≡ r') × (s.1.1.1.1.0.now ≡ s'.1.1.1.1.0.now)
pass-write-determined κs a r r' s s' p q = (p.0 ∙ sym q.0, p.1 ∙ sym q.1)

pub pass-raise-determined : (κs : _) (a : _) (r r' : _) (s s' : _) → pass-raise-promise.Post κs a r s → pass-raise-promise.Post κs a r' s' → (r ≡ r') × (s.1.1.0.now ≡ s'.1.1.0.now)
pass-raise-determined κs a r r' s s' p q = (p.0 ∙ sym q.0, p.1 ∙ sym q.1)

pub replay-determined : (κs : _) (a : _) (r r' : _) (s s' : _) → replay-promise.Post κs a r s → replay-promise.Post κs a r' s' → (r ≡ r') × (s.1.1.0.now ≡ s'.1.1.0.now)
replay-determined κs a r r' s s' p q = same-replayed p q

module _ (d : MmioV2Device) (k o : ℕ) (x x' x'' : List ℕ) (r r' : Told) where
  pub read-determined : (y y' y'' : List ℕ) → Reads d k o y y' x x' r → Reads d k o y y'' x x'' r' → (r ≡ r') × (y' ≡ y'') × (x' ≡ x'')
  read-determined y y' y'' p q = (p.0 ∙ sym q.0, p.1 ∙ sym q.1, p.2 ∙ sym q.2)

  pub write-determined : (d' d'' : MmioV2Device) (bs : List ℕ) → Writes d d' k o bs x x' r → Writes d d'' k o bs x x'' r' → (d' ≡ d'') × (r ≡ r') × (x' ≡ x'')
  write-determined d' d'' bs p q = (p.0 ∙ sym q.0, p.1 ∙ sym q.1, p.2 ∙ sym q.2)

  pub raise-determined : (d' d'' : MmioV2Device) (b : ℕ) → Raises d d' b x x' r → Raises d d'' b x x'' r' → (d' ≡ d'') × (r ≡ r') × (x' ≡ x'')
  raise-determined d' d'' b p q = (p.0 ∙ sym q.0, p.1 ∙ sym q.1, p.2 ∙ sym q.2)

module _ (d : MmioV2Device) (o w : ℕ) where
  pub poll-read-determined : (l : ℕ) (r r' : Quick) → PollsRead d o l w r → PollsRead d o l w r' → r ≡ r'
  poll-read-determined l r r' p q = p ∙ sym q

  pub poll-write-determined : (d' d'' : MmioV2Device) (bs : List ℕ) (r r' : Bool) → PollsWrite d d' o bs w r → PollsWrite d d'' o bs w r' → (d' ≡ d'') × (r ≡ r')
  poll-write-determined d' d'' bs r r' p q = (p.0 ∙ sym q.0, p.1 ∙ sym q.1)
