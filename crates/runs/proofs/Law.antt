-- THE LAW: after any log, each field of each queue of a device that follows the rules is what is read afresh from the log,
-- and so is what is known.
use mathlib.Core.Path.{◌≡◌, refl, sym, ap, ap₂, fun_ext, ◌∙◌}
use mathlib.Core.List.{List, [], ◌∷◌}
use Prim.Native.Nat.{ℕ, ◌≤◌}
use lib.ListN.{length}
use Rattle.virtq.specs.Fields.{fields_of}
use Rattle.virtq.specs.Events.{Holds, Event, read_back, first, apply_all}
use Rattle.virtq.specs.declared.Queue.{Queue}
use Rattle.virtq.specs.declared.Field.{Field}
use Rattle.virtq.proofs.Reading.{reads-back, apply_all-++}
use Rattle.runs.specs.Reading.{Rules, Start, Read, field_in, read_on, reading, field_from_log}
use Rattle.runs.specs.Runs.{run_from, Follows, Begins}

module _ {Op Known S : Type 0} (R : Rules Op Known) (b : Start Known) (next : S → Op → S) (P : S → Type 0) (known_of : S → Known)
    (queues_of : S → List Queue) (wiped : List Queue) (D : Follows R next P known_of queues_of wiped) (s₀ : S) (B : Begins b P known_of queues_of wiped s₀) where
  -- a state and a reading agree
  record Agrees (s : S) (r : Read Known) : Type 0 where
    kind : P s
    same_known : known_of s ≡ r.now
    same-queues : queues_of s ≡ apply_all wiped r.past (queues_of s₀)

  field-law : (es : List Event) → first R.count (fields_of (apply_all wiped es (queues_of s₀))) ≡ field_in R b es
  field-law es =
      let fresh : fields_of wiped ≡ R.fresh = fun_ext (λ q. fun_ext (λ f. D.wiped-fresh q f)) in
      let start : fields_of (queues_of s₀) ≡ b.holds = fun_ext (λ q. fun_ext (λ f. B.holds-start q f)) in
      let room : R.count ≤ length (queues_of s₀) = rw B.as_long at D.enough in
      fun_ext (λ q. fun_ext (λ f. reads-back R.count wiped es (queues_of s₀) q f B.as_long room))
      ∙ ap₂ (λ (x y : Holds). first R.count (read_back x y es)) fresh start

  fields-agree : (s : S) (r : Read Known) → Agrees s r → first R.count (fields_of (queues_of s)) ≡ field_in R b r.past
  fields-agree s r a = ap (λ (qs : List Queue). first R.count (fields_of qs)) a.same-queues ∙ field-law r.past

  step-agrees : (s : S) (r : Read Known) (op : Op) → Agrees s r → Agrees (next s op) (read_on R b r op)
  step-agrees s r op a =
      let e : first R.count (fields_of (queues_of s)) ≡ field_in R b r.past = fields-agree s r a in
      record {
        kind = D.stays s op a.kind;
        same_known = D.known_next s op a.kind ∙ ap₂ (λ (h : Known) (g : Holds). R.known h g op) a.same_known e;
        same-queues =
            D.queues-next s op a.kind
            ∙ ap₂ (apply_all wiped) (ap₂ (λ (h : Known) (g : Holds). R.events h g op) a.same_known e) a.same-queues
            ∙ sym (apply_all-++ wiped (R.events r.now (field_in R b r.past) op) r.past (queues_of s₀));
      }

  agrees : (log : List Op) → Agrees (run_from next s₀ log) (reading R b log)
  agrees [] = record { kind = B.kind; same_known = B.knows_start; same-queues = refl }
  agrees (op ∷ log) = step-agrees (run_from next s₀ log) (reading R b log) op (agrees log)

  pub reads-afresh : (log : List Op) (q : ℕ) (f : Field) → first R.count (fields_of (queues_of (run_from next s₀ log))) q f ≡ field_from_log R b log q f
  reads-afresh log q f = ap (λ (g : Holds). g q f) (fields-agree (run_from next s₀ log) (reading R b log) (agrees log))

  pub knows-afresh : (log : List Op) → known_of (run_from next s₀ log) ≡ (reading R b log).now
  knows-afresh log = (agrees log).same_known

  -- every state of a run is of the kind
  pub run-kind : (log : List Op) → P (run_from next s₀ log)
  run-kind log = (agrees log).kind
