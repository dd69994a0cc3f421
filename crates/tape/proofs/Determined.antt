-- Any two results that a promise of this floor allows are equal, and so are the lent words at the end.
use Rattle.std.proofs.Common.{◌≡◌, List, refl, sym, ◌∙◌}
use Rattle.words.specs.declared.Action.{Action}
use Rattle.tape.specs.Held.{entry, no_held}
use Rattle.tape.specs.Play.{sheet, Played}
use Rattle.tape.specs.declared.Recorder.{Recorder}
use Rattle.tape.proofs.bell_entry.Reads as bell-entry-promise
use Rattle.tape.proofs.note_entry.Reads as note-entry-promise
use Rattle.tape.proofs.ActionFromCall.from.Reads as call-promise
use Rattle.tape.proofs.EntryDefault.default.Reads as entry-default-promise
use Rattle.tape.proofs.HeldDefault.default.Reads as held-default-promise
use Rattle.tape.proofs.Recorder.new.Reads as new-promise
use Rattle.tape.proofs.Recorder.emit.Reads as emit-promise

pub bell-entry-determined : (κs : _) (a : _) (r r' : _) (s s' : _) → bell-entry-promise.Post κs a r s → bell-entry-promise.Post κs a r' s' → r ≡ r'
bell-entry-determined κs a r r' s s' p q = p ∙ sym q

pub note-entry-determined : (κs : _) (a : _) (r r' : _) (s s' : _) → note-entry-promise.Post κs a r s → note-entry-promise.Post κs a r' s' → r ≡ r'
note-entry-determined κs a r r' s s' p q = p ∙ sym q

pub call-determined : (κs : _) (a : _) (r r' : _) (s s' : _) → call-promise.Post κs a r s → call-promise.Post κs a r' s' → r ≡ r'
call-determined κs a r r' s s' p q = p ∙ sym q

-- two recorders are the same: what is on their tapes, the window's base, and the words that they hold
pub record Same (r r' : Recorder) : Type 0 where
  pub on-it : sheet r ≡ sheet r'
  pub for-window : r.base ≡ r'.base
  pub over-words : r.words.ghost_name ≡ r'.words.ghost_name

pub played-same : {r r' r'' : Recorder} {xs : List Action} → Played r xs r' → Played r xs r'' → Same r' r''
played-same p q =
    record { on-it = p.is ∙ sym q.is; for-window = p.base ∙ sym q.base; over-words = p.same ∙ sym q.same }

pub emit-determined : (κs : _) (a : _) (r r' : _) (s s' : _) → emit-promise.Post κs a r s → emit-promise.Post κs a r' s' → Same s.0.now s'.0.now
emit-determined κs a r r' s s' p q = played-same p q

pub new-determined : (κs : _) (a : _) (r r' : _) (s s' : _) → new-promise.Post κs a r s → new-promise.Post κs a r' s' → Same r r'
new-determined κs a r r' s s' p q =
    record { on-it = p.1.is ∙ sym q.1.is; for-window = p.1.base ∙ sym q.1.base; over-words = p.1.same ∙ sym q.1.same }

-- the derived default is the queue of which nothing is held
pub held-default : (κs : _) (a : _) (r : _) (s : _) → held-default-promise.Post κs a r s → r ≡ no_held
held-default κs a r s p = rw (p.0, p.1) refl

-- and the entry of zeros
pub entry-default : (κs : _) (a : _) (r : _) (s : _) → entry-default-promise.Post κs a r s → r ≡ entry 0 0 0 0
entry-default κs a r s p = rw (p.0, p.1.0, p.1.1.0, p.1.1.1) refl
