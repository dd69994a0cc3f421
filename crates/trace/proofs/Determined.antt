-- Any two results that a promise of this floor allows are equal.
use mathlib.Core.Path.{◌≡◌, sym, ◌∙◌}
use Rattle.words.proofs.Refusals.{told-same, numbered-same}
use Rattle.trace.proofs.configuration.Reads as configuration-promise
use Rattle.trace.proofs.kind_good.Reads as kind-good-promise
use Rattle.trace.proofs.judge.Reads as judge-promise
use Rattle.trace.proofs.layout.Reads as layout-promise
use Rattle.trace.proofs.count.Reads as count-promise
use Rattle.trace.proofs.data_of.Reads as data-of-promise
use Rattle.trace.proofs.next_record.Reads as next-record-promise
use Rattle.trace.proofs.verdict.Reads as verdict-promise

pub configuration-determined : (κs : _) (a : _) (r r' : _) (s s' : _) → configuration-promise.Post κs a r s → configuration-promise.Post κs a r' s' → r ≡ r'
configuration-determined κs a r r' s s' p q = p ∙ sym q

pub kind-good-determined : (κs : _) (a : _) (r r' : _) (s s' : _) → kind-good-promise.Post κs a r s → kind-good-promise.Post κs a r' s' → r ≡ r'
kind-good-determined κs a r r' s s' p q = p ∙ sym q

pub judge-determined : (κs : _) (a : _) (r r' : _) (s s' : _) → judge-promise.Post κs a r s → judge-promise.Post κs a r' s' → r ≡ r'
judge-determined κs a r r' s s' p q = told-same r r' (p ∙ sym q)

pub layout-determined : (κs : _) (a : _) (r r' : _) (s s' : _) → layout-promise.Post κs a r s → layout-promise.Post κs a r' s' → r ≡ r'
layout-determined κs a r r' s s' p q = told-same r r' (p ∙ sym q)

pub count-determined : (κs : _) (a : _) (r r' : _) (s s' : _) → count-promise.Post κs a r s → count-promise.Post κs a r' s' → r ≡ r'
count-determined κs a r r' s s' p q = p ∙ sym q

pub data-of-determined : (κs : _) (a : _) (r r' : _) (s s' : _) → data-of-promise.Post κs a r s → data-of-promise.Post κs a r' s' → r.now ≡ r'.now
data-of-determined κs a r r' s s' p q = p ∙ sym q

pub next-record-determined : (κs : _) (a : _) (r r' : _) (s s' : _) → next-record-promise.Post κs a r s → next-record-promise.Post κs a r' s' → r ≡ r'
next-record-determined κs a r r' s s' p q = numbered-same r r' (p ∙ sym q)

pub verdict-determined : (κs : _) (a : _) (r r' : _) (s s' : _) → verdict-promise.Post κs a r s → verdict-promise.Post κs a r' s' → r ≡ r'
verdict-determined κs a r r' s s' p q = told-same r r' (p ∙ sym q)
