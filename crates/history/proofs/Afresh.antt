-- DEMAND 3, first sentence, over any run of a fresh device of any accepted configuration: each field of each queue, asked by
-- the public question, and what is known beside it, are what is read afresh from the log. The log is any list of
-- operations, so this holds at every prefix of a run.
use mathlib.Core.Bool.{Bool, true, false}
use mathlib.Core.Path.{◌≡◌, refl, ap, ◌∙◌}
use mathlib.Core.List.{List, [], ◌∷◌, ◌++◌}
use Prim.Native.Nat.{ℕ, ◌<◌}
use borrow.Author.Tests.{lt-ltb}
use lib.Dec.{ltb}
use lib.ListN.{length}
use Rattle.words.specs.Pick.{pick}
use Rattle.virtq.specs.Index.{max_queues}
use Rattle.virtq.specs.Fields.{fields_of, taken}
use Rattle.virtq.specs.Events.{Event, Set, Wipe, NoneBears, read_back, first}
use Rattle.virtq.specs.declared.Field.{Field}
use Rattle.virtq.proofs.Reading as back
use Rattle.mmio_config.specs.Fresh.{queue_count, maxima, fresh_queues}
use Rattle.mmio_config.specs.declared.Configuration.{Configuration}
use Rattle.mmio_state.specs.State.{State}
use Rattle.mmio_state.specs.Fresh.{fresh_state}
use Rattle.mmio_state.specs.Fields.{asked}
use Rattle.mmio_v2.specs.Fresh.{refusal}
use Rattle.mmio_v2.specs.Operation.{Operation}
use Rattle.mmio_v2.specs.Step.{refusing, operated}
use Rattle.runs.specs.Reading.{reading}
use Rattle.runs.specs.Runs.{run_from}
use Rattle.runs.proofs.Law as law
use Rattle.history.specs.Log.{fresh_field, rules, fresh, known_from, field_from}
use Rattle.history.specs.Run.{next, run, Call, called, logged}
use Rattle.history.proofs.Following.{known_of, Kind, counted-all, follows, starts}

module _ (c : Configuration) (made : refusal c ≡ 0) (sixteen : length c.sizes ≡ max_queues) where
  pub run-kind : (log : List Operation) → Kind c (run c log)
  run-kind = law.run-kind (rules c) (fresh c) next (Kind c) known_of (λ (s : State). s.queues) (fresh_queues (maxima c)) (follows c made sixteen) (fresh_state c) (starts c made sixteen)

  pub reads-afresh : (log : List Operation) (q : ℕ) (f : Field) → (asked (run c log) q f).value ≡ field_from c log q f
  reads-afresh log q f =
      ap (λ (n : ℕ). first n (fields_of (run c log).queues) q f) (counted-all c (run c log) (run-kind log))
      ∙ law.reads-afresh (rules c) (fresh c) next (Kind c) known_of (λ (s : State). s.queues) (fresh_queues (maxima c)) (follows c made sixteen) (fresh_state c) (starts c made sixteen) log q f

  -- the question is refused exactly for a queue that isn't there
  pub asks-there : (log : List Operation) (q : ℕ) (f : Field) → (asked (run c log) q f).refusal ≡ pick (ltb q (queue_count c)) 0 13
  asks-there log q f = ap (λ (n : ℕ). pick (ltb q n) 0 13) (counted-all c (run c log) (run-kind log))

  -- status, activity, selector, doorbell setting and mode
  pub knows-afresh : (log : List Operation) → known_of (run c log) ≡ known_from c log
  knows-afresh = law.knows-afresh (rules c) (fresh c) next (Kind c) known_of (λ (s : State). s.queues) (fresh_queues (maxima c)) (follows c made sixteen) (fresh_state c) (starts c made sixteen)

-- ---- what the log's reading means, in words, of a queue that is there

module _ (c : Configuration) (log : List Operation) (q : ℕ) (f : Field) (there : q < queue_count c) where
  abbrev past : List Event
  past = (reading (rules c) (fresh c) log).past

  held : field_from c log q f ≡ read_back (fresh_field c) (fresh_field c) past q f
  held = rw (lt-ltb q (queue_count c) there)

  -- the last counting write to it, where nothing has borne on it since
  pub is-last-write : (newer older : List Event) (v : ℕ) → past ≡ newer ++ Set q f v ∷ older → NoneBears q f newer → field_from c log q f ≡ taken f v
  is-last-write newer older v e h = held ∙ ap (λ (es : List Event). read_back (fresh_field c) (fresh_field c) es q f) e ∙ back.last-write (fresh_field c) (fresh_field c) q f newer older v h

  -- a wipe, and no counting write to it since: its fresh value
  pub is-wiped : (newer older : List Event) → past ≡ newer ++ Wipe ∷ older → NoneBears q f newer → field_from c log q f ≡ fresh_field c q f
  is-wiped newer older e h = held ∙ ap (λ (es : List Event). read_back (fresh_field c) (fresh_field c) es q f) e ∙ back.last-wipe (fresh_field c) (fresh_field c) q f newer older h

  -- neither: its fresh value
  pub is-untouched : NoneBears q f past → field_from c log q f ≡ fresh_field c q f
  is-untouched h = held ∙ back.untouched (fresh_field c) (fresh_field c) q f past h

-- ---- operations that are refused are not in the log, and leave the device as it was

pub calls-as-logged : (s : State) (calls : List Call) → run_from called s calls ≡ run_from next s (logged calls)
calls-as-logged s [] = refl
calls-as-logged s (x ∷ xs) = go (ltb x.words 320) (calls-as-logged s xs)
  where
    go : (b : Bool) → run_from called s xs ≡ run_from next s (logged xs)
        → (pick b (refusing (run_from called s xs)) (operated (run_from called s xs) x.operation)).state ≡ run_from next s (pick b (logged xs) (x.operation ∷ logged xs))
    go true e = e
    go false e = ap (λ (u : State). next u x.operation) e
