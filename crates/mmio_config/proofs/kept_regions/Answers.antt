use Rattle.std.proofs.Common.{rules, ℕ, get_or}
use Rattle.mmio_config.specs.Fresh.{region_at, no_region}
use Rattle.mmio_config.proofs.Chains.{each-fits, made-at}
use Rattle.mmio_config.proofs.kept_regions.Goals as goal

pub returns : goal.returns
returns c =
    each-fits (region_at c.args.regions) c.args.table c.from_fn.result no_region no_region (search rules)
    (λ k b. made-at _ _ (λ (i : ℕ). region_at c.args.regions i (get_or c.args.table i no_region)) (λ i y q s. search rules) c.from_fn.result 8 k no_region c.from_fn.ensures.items (search rules))
