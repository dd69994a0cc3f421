use Rattle.desk.proofs.Whole.{end-device, end-text}
use native.Mathlib.Omega.{arith}
use Rattle.desk.proofs.Log.run_all.Goals as goal

pub returns-clause-device : goal.returns-clause-device
returns-clause-device c = let g = c.args.self in
    end-device g.show g.trace.now g.good c.args.page.now _ _ _ _ (omega arith) c.begin-t.ensures c.run_part-u.ensures

pub returns-clause-text : goal.returns-clause-text
returns-clause-text c = let g = c.args.self in
    rw g.counts (end-text g.show g.trace.now g.good c.args.page.now _ _ _ _ (omega arith) c.begin-t.ensures c.run_part-u.ensures g.count g.counts c.end.ensures)
