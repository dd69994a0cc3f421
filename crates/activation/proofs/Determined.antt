-- Any two results that a promise of this floor allows are equal, and so is the recorder at the end.
use Rattle.std.proofs.Common.{◌≡◌, sym, ◌∙◌}
use Rattle.tape.proofs.Determined.{Same, played-same}
use Rattle.activation.proofs.start.Reads as start-promise
use Rattle.activation.proofs.stop.Reads as stop-promise

pub start-determined : (κs : _) (a : _) (r r' : _) (s s' : _) → start-promise.Post κs a r s → start-promise.Post κs a r' s' → (r ≡ r') × Same s.0.now s'.0.now
start-determined κs a r r' s s' p q = (p.1.1 ∙ sym q.1.1, played-same p.1.0 q.1.0)

pub stop-determined : (κs : _) (a : _) (r r' : _) (s s' : _) → stop-promise.Post κs a r s → stop-promise.Post κs a r' s' → (r ≡ r') × Same s.0.now s'.0.now
stop-determined κs a r r' s s' p q = (p.1.1 ∙ sym q.1.1, played-same p.1.0 q.1.0)
