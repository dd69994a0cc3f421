use Rattle.std.proofs.Common.{rules, ℕ, get_or}
use Rattle.mmio_config.specs.Fresh.{maximum_at}
use Rattle.mmio_config.proofs.Chains.{each-fits, made-at}
use Rattle.mmio_config.proofs.maxima.Goals as goal

pub returns : goal.returns
returns c =
    each-fits (maximum_at c.args.c.dataqueues c.args.c.control) c.args.c.sizes c.from_fn.result 0 0 (search rules)
    (λ k b. made-at _ _ (λ (i : ℕ). maximum_at c.args.c.dataqueues c.args.c.control i (get_or c.args.c.sizes i 0)) (λ i y q s. search rules) c.from_fn.result 16 k 0 c.from_fn.ensures.items (search rules))
