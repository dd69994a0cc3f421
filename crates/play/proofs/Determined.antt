-- Any two results that the promise of this floor allows are equal, and so are the bytes of the page and its place.
use mathlib.Core.Bool.{false}
use mathlib.Core.Path.{◌≡◌, refl, sym, ◌∙◌}
use Rattle.play.proofs.ShowDefault.default.Reads as show-default-promise
use Rattle.text.proofs.Determined.{Same, same-printed}
use Rattle.play.proofs.run_record.Reads as run-record-promise

pub run-record-determined : (κs : _) (a : _) (r r' : _) (s s' : _) → run-record-promise.Post κs a r s → run-record-promise.Post κs a r' s' → (r ≡ r') × Same s.1.0.now s'.1.0.now
run-record-determined κs a r r' s s' p q = (p.device-is ∙ sym q.device-is, same-printed p.text q.text)

-- the derived default shows a record's own line alone
pub show-default : (κs : _) (a : _) (r : _) (s : _) → show-default-promise.Post κs a r s → r ≡ record { actions = false; fields = false }
show-default κs a r s p = rw (p.0, p.1) refl
