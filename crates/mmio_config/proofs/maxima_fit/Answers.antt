use Rattle.std.proofs.Common.{rules, sym}
use Rattle.mmio_config.specs.Fresh.{maximum_fit}
use Rattle.mmio_config.proofs.Chains.{list_all-take}
use Rattle.mmio_config.proofs.maxima_fit.Goals as goal

pub returns-then-c-eq0 : goal.returns-then-c-eq0
returns-then-c-eq0 c = let h = list_all-take maximum_fit c.args.c.sizes c.args.c.dataqueues 0 (search rules) in search (rules, sym h)

pub returns-else-c-eq0 : goal.returns-else-c-eq0
returns-else-c-eq0 c = let h = list_all-take maximum_fit c.args.c.sizes c.args.c.dataqueues 0 (search rules) in search (rules, sym h)

pub returns-else-sizes_fit : goal.returns-else-sizes_fit
returns-else-sizes_fit c = let h = list_all-take maximum_fit c.args.c.sizes c.args.c.dataqueues 0 (search rules) in search (rules, sym h)
