-- Any two pages that a promise of this floor allows have the same bytes and the same place.
use mathlib.Core.Path.{◌≡◌, sym, ◌∙◌}
use mathlib.Core.List.{List}
use Prim.Native.Nat.{ℕ}
use Rattle.text.specs.Page.{Prints}
use Rattle.text.specs.declared.Page.{Page}
use Rattle.text.proofs.Page.new.Reads as new-promise
use Rattle.text.proofs.Page.has_room.Reads as has-room-promise
use Rattle.text.proofs.Page.heading.Reads as heading-promise
use Rattle.text.proofs.Page.line.Reads as line-promise
use Rattle.text.proofs.Page.end.Reads as end-promise
use Rattle.text.proofs.Page.bad.Reads as bad-promise
use Rattle.text.proofs.Page.action_line.Reads as action-line-promise
use Rattle.text.proofs.Page.field_line.Reads as field-line-promise

-- what a page is to its reader: the bytes, the place, and whose buffer it is
abbrev pub Same : Page → Page → Type 0
Same p q = (p.out.now ≡ q.out.now) × (p.at ≡ q.at) × (p.out.ghost_name ≡ q.out.ghost_name)

pub same-printed : {m k : ℕ} {p q q' : Page} {w : List ℕ} → Prints m p w q → Prints k p w q' → Same q q'
same-printed e f = (e.text.wrote ∙ sym f.text.wrote, e.text.moved ∙ sym f.text.moved, e.same ∙ sym f.same)

pub new-determined : (κs : _) (a : _) (r r' : _) (s s' : _) → new-promise.Post κs a r s → new-promise.Post κs a r' s' → Same r r'
new-determined κs a r r' s s' p q = (p.1.1 ∙ sym q.1.1, p.1.0 ∙ sym q.1.0, p.0 ∙ sym q.0)

pub has-room-determined : (κs : _) (a : _) (r r' : _) (s s' : _) → has-room-promise.Post κs a r s → has-room-promise.Post κs a r' s' → r ≡ r'
has-room-determined κs a r r' s s' p q = p ∙ sym q

pub heading-determined : (κs : _) (a : _) (r r' : _) (s s' : _) → heading-promise.Post κs a r s → heading-promise.Post κs a r' s' → Same s.0.now s'.0.now
heading-determined κs a r r' s s' p q = same-printed p q

pub line-determined : (κs : _) (a : _) (r r' : _) (s s' : _) → line-promise.Post κs a r s → line-promise.Post κs a r' s' → Same s.0.now s'.0.now
line-determined κs a r r' s s' p q = same-printed p q

pub end-determined : (κs : _) (a : _) (r r' : _) (s s' : _) → end-promise.Post κs a r s → end-promise.Post κs a r' s' → Same s.0.now s'.0.now
end-determined κs a r r' s s' p q = same-printed p q

pub bad-determined : (κs : _) (a : _) (r r' : _) (s s' : _) → bad-promise.Post κs a r s → bad-promise.Post κs a r' s' → Same s.0.now s'.0.now
bad-determined κs a r r' s s' p q = same-printed p q

pub action-line-determined : (κs : _) (a : _) (r r' : _) (s s' : _) → action-line-promise.Post κs a r s → action-line-promise.Post κs a r' s' → Same s.0.now s'.0.now
action-line-determined κs a r r' s s' p q = same-printed p q

pub field-line-determined : (κs : _) (a : _) (r r' : _) (s s' : _) → field-line-promise.Post κs a r s → field-line-promise.Post κs a r' s' → Same s.0.now s'.0.now
field-line-determined κs a r r' s s' p q = same-printed p q
