-- The four walks of a reader's functions: the code of each, step by step, meets its contract. The check makes them.
use Rattle.reader.proofs.TraceReader.new.Statement as new-stated
use Rattle.reader.proofs.TraceReader.new.Met as new-met
use Rattle.reader.proofs.TraceReader.moved.Statement as moved-stated
use Rattle.reader.proofs.TraceReader.moved.Met as moved-met
use Rattle.reader.proofs.TraceReader.next.Statement as next-stated
use Rattle.reader.proofs.TraceReader.next.Met as next-met
use Rattle.reader.proofs.read_at.Statement as read-at-stated
use Rattle.reader.proofs.read_at.Met as read-at-met

pub new_spec : {M : Type 1} → new-stated.statement M
new_spec = new-met.met

pub moved_spec : {M : Type 1} → moved-stated.statement M
moved_spec = moved-met.met

pub next_spec : {M : Type 1} → next-stated.statement M
next_spec = next-met.met

pub read_at_spec : {M : Type 1} → read-at-stated.statement M
read_at_spec = read-at-met.met
