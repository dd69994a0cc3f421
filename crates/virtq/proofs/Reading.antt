-- Reading back is what the queues hold, for any events, any transport and any count; and what reading back means in words.
use mathlib.Core.Bool.{Bool, true, false, true≢false}
use mathlib.Core.Path.{◌≡◌, refl, sym, ap, ◌∙◌}
use mathlib.Core.List.{List, [], ◌∷◌, ◌++◌, append-nil}
use Prim.Native.Nat.{ℕ, ◌<◌, ◌≤◌}
use native.Mathlib.Nat.{lt_of_lt_of_le}
use lib.Dec.{eqb, ltb}
use lib.ListN.{length, get_or, set, length-set}
use lib.Seq.{get_or-set_same, get_or-set_other}
use borrow.Author.Tests.{eqb-true, eqb-false, ltb-true, eq-eqb}
use Rattle.words.specs.Pick.{pick}
use Rattle.words.proofs.Picks.{pick-ap}
use Rattle.virtq.specs.declared.Queue.{Queue}
use Rattle.virtq.specs.declared.Field.{Field}
use Rattle.virtq.specs.declared.Field.TheVariants.{Size, Ready, DescLow, DescHigh, AvailLow, AvailHigh, UsedLow, UsedHigh}
use Rattle.virtq.specs.Fields.{number_of, same, field_of, fields_of, taken, put, no_queue}
use Rattle.virtq.specs.Events.{Holds, Event, Set, WipeOne, Wipe, after, read_back, first, bears, NoneBears, none, more, apply, apply_all}

-- a counting write sets its own field, and no other
pub field_put : (q : Queue) (f : Field) (v : ℕ) (g : Field) → field_of (put q f v) g ≡ pick (same f g) (taken g v) (field_of q g)
field_put q f v Size = refl
field_put q f v Ready = pick-ap (λ (r : Bool). pick r 1 0) (same f Ready) (eqb v 1) q.ready
field_put q f v DescLow = refl
field_put q f v DescHigh = refl
field_put q f v AvailLow = refl
field_put q f v AvailHigh = refl
field_put q f v UsedLow = refl
field_put q f v UsedHigh = refl

-- ---- the queues after events

-- a place of a list after a store
get_d_set {ℓ} : {A : Type ℓ} (xs : List A) (i : ℕ) (x d : A) (q : ℕ) → q < length xs → get_or (set xs i x) q d ≡ pick (eqb i q) x (get_or xs q d)
get_d_set xs i x d q h = go (eqb i q) refl
  where
    go : (b : Bool) → eqb i q ≡ b → get_or (set xs i x) q d ≡ pick b x (get_or xs q d)
    go true e = rw (eqb-true i q e) (get_or-set_same xs q x d h)
    go false e = get_or-set_other xs i q x d (λ p. eqb-false i q e (sym p))

pub fields-apply : (fresh : List Queue) (e : Event) (qs : List Queue) (q : ℕ) (f : Field) → q < length qs
    → fields_of (apply fresh e qs) q f ≡ after e q f (fields_of fresh q f) (fields_of qs q f)
fields-apply fresh (Set i g v) qs q f h =
    ap (λ (x : Queue). field_of x f) (get_d_set qs i (put (get_or qs i no_queue) g v) no_queue q h) ∙ go (eqb i q) refl
  where
    go : (b : Bool) → eqb i q ≡ b
        → field_of (pick b (put (get_or qs i no_queue) g v) (get_or qs q no_queue)) f ≡ pick b (pick (same g f) (taken f v) (fields_of qs q f)) (fields_of qs q f)
    go true e = rw (eqb-true i q e) (field_put (get_or qs q no_queue) g v f)
    go false e = refl
fields-apply fresh (WipeOne i) qs q f h =
    ap (λ (x : Queue). field_of x f) (get_d_set qs i (get_or fresh i no_queue) no_queue q h) ∙ go (eqb i q) refl
  where
    go : (b : Bool) → eqb i q ≡ b → field_of (pick b (get_or fresh i no_queue) (get_or qs q no_queue)) f ≡ pick b (fields_of fresh q f) (fields_of qs q f)
    go true e = rw (eqb-true i q e)
    go false e = refl
fields-apply fresh Wipe qs q f h = refl

length-apply : (fresh : List Queue) (e : Event) (qs : List Queue) → length fresh ≡ length qs → length (apply fresh e qs) ≡ length qs
length-apply fresh (Set i g v) qs h = length-set qs i (put (get_or qs i no_queue) g v)
length-apply fresh (WipeOne i) qs h = length-set qs i (get_or fresh i no_queue)
length-apply fresh Wipe qs h = h

pub length-apply_all : (fresh : List Queue) (es : List Event) (qs : List Queue) → length fresh ≡ length qs → length (apply_all fresh es qs) ≡ length qs
length-apply_all fresh [] qs h = refl
length-apply_all fresh (e ∷ es) qs h =
    let r : length (apply_all fresh es qs) ≡ length qs = length-apply_all fresh es qs h in
    length-apply fresh e (apply_all fresh es qs) (h ∙ sym r) ∙ r

pub apply_all-++ : (fresh : List Queue) (es ds : List Event) (qs : List Queue) → apply_all fresh (es ++ ds) qs ≡ apply_all fresh es (apply_all fresh ds qs)
apply_all-++ fresh [] ds qs = refl
apply_all-++ fresh (e ∷ es) ds qs = ap (apply fresh e) (apply_all-++ fresh es ds qs)

-- each field of each queue of the table, after any events, is what is read back from them
pub table-reads-back : (fresh : List Queue) (es : List Event) (qs : List Queue) (q : ℕ) (f : Field) → length fresh ≡ length qs → q < length qs
    → fields_of (apply_all fresh es qs) q f ≡ read_back (fields_of fresh) (fields_of qs) es q f
table-reads-back fresh [] qs q f h k = refl
table-reads-back fresh (e ∷ es) qs q f h k =
    fields-apply fresh e (apply_all fresh es qs) q f (rw (length-apply_all fresh es qs h) k)
    ∙ ap (after e q f (fields_of fresh q f)) (table-reads-back fresh es qs q f h k)

-- THE LAW. Of a device with n queues, each field of each queue after any events is what is read back from them, and 0 of a
-- queue that isn't there.
pub reads-back : (n : ℕ) (fresh : List Queue) (es : List Event) (qs : List Queue) (q : ℕ) (f : Field) → length fresh ≡ length qs → n ≤ length qs
    → first n (fields_of (apply_all fresh es qs)) q f ≡ first n (read_back (fields_of fresh) (fields_of qs) es) q f
reads-back n fresh es qs q f h k = go (ltb q n) refl
  where
    go : (b : Bool) → ltb q n ≡ b → pick b (fields_of (apply_all fresh es qs) q f) 0 ≡ pick b (read_back (fields_of fresh) (fields_of qs) es q f) 0
    go true e = table-reads-back fresh es qs q f h (lt_of_lt_of_le (ltb-true q n e) k)
    go false e = refl

-- ---- what reading back means: the newest event that bears on the field decides

not-bearing : (e : Event) (q : ℕ) (f : Field) (fresh held : ℕ) → bears e q f ≡ false → after e q f fresh held ≡ held
not-bearing (Set i g v) q f fresh held = go (eqb i q) (same g f)
  where
    go : (a b : Bool) → pick a b false ≡ false → pick a (pick b (taken f v) held) held ≡ held
    go true true e = absurd (true≢false e)
    go true false e = refl
    go false b e = refl
not-bearing (WipeOne i) q f fresh held = λ e. rw e
not-bearing Wipe q f fresh held = λ e. absurd (true≢false e)

module _ (fresh start : Holds) (q : ℕ) (f : Field) where
  -- events that do not bear on the field are passed over
  pub skipped : (newer older : List Event) → NoneBears q f newer → read_back fresh start (newer ++ older) q f ≡ read_back fresh start older q f
  skipped newer older none = refl
  skipped newer older (more {e = e} {es = es} b h) =
      not-bearing e q f (fresh q f) (read_back fresh start (es ++ older) q f) b ∙ skipped es older h

  -- the last counting write, where nothing bore on the field since
  pub last-write : (newer older : List Event) (v : ℕ) → NoneBears q f newer → read_back fresh start (newer ++ Set q f v ∷ older) q f ≡ taken f v
  last-write newer older v h =
      skipped newer (Set q f v ∷ older) h ∙ rw (eq-eqb q q refl, eq-eqb (number_of f) (number_of f) refl)

  -- a wipe of all, or of that queue, and no counting write since: the fresh value
  pub last-wipe : (newer older : List Event) → NoneBears q f newer → read_back fresh start (newer ++ Wipe ∷ older) q f ≡ fresh q f
  last-wipe newer older h = skipped newer (Wipe ∷ older) h

  pub last-wipe-one : (newer older : List Event) → NoneBears q f newer → read_back fresh start (newer ++ WipeOne q ∷ older) q f ≡ fresh q f
  last-wipe-one newer older h = skipped newer (WipeOne q ∷ older) h ∙ rw (eq-eqb q q refl)

  -- neither: what it held at the start
  pub untouched : (es : List Event) → NoneBears q f es → read_back fresh start es q f ≡ start q f
  untouched es h = rw (← append-nil es) (skipped es [] h)
