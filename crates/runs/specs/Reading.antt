-- Reading a log afresh (01, "Queue fields, counting writes and wipes"), for any transport. Its paper says which events an
-- operation is and what is known after it, from what was known before and from what each field then held. A log has the
-- newest operation first. No device stands here.
use Rattle.std.specs.Prelude.{List, [], ◌∷◌, ◌++◌, ℕ}
use Rattle.virtq.specs.Events.{Holds, Event, read_back, first}

-- what a transport's paper says: how many queues there are, what a wipe leaves in each field, and the two rules
pub record Rules (Op Known : Type 0) : Type 0 where
  pub count : ℕ
  pub fresh : Holds
  pub events : Known → Holds → Op → List Event
  pub known : Known → Holds → Op → Known

-- where a log begins: with a fresh device, or with one that was loaded
pub record Start (Known : Type 0) : Type 0 where
  pub knows : Known
  pub holds : Holds

-- what a log comes to: what is known now, and the events, the newest first
pub record Read (Known : Type 0) : Type 0 where
  pub now : Known
  pub past : List Event

module _ {Op Known : Type 0} (R : Rules Op Known) (b : Start Known) where
  -- each field as the events leave it: the last counting write since the last wipe, or else its fresh value
  abbrev pub field_in : List Event → Holds
  field_in es = first R.count (read_back R.fresh b.holds es)

  -- one operation more
  abbrev pub read_on : Read Known → Op → Read Known
  read_on r op =
      record {
        now = R.known r.now (field_in r.past) op;
        past = R.events r.now (field_in r.past) op ++ r.past;
      }

  abbrev pub reading : List Op → Read Known
  reading [] = record { now = b.knows; past = [] }
  reading (op ∷ log) = read_on (reading log) op

  -- what the log says a field holds
  abbrev pub field_from_log : List Op → Holds
  field_from_log log = field_in (reading log).past
