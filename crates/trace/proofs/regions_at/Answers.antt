use Rattle.std.specs.Prelude.{replicate}
use Rattle.std.proofs.Common.{rules, ℕ}
use Rattle.mmio_config.specs.Fresh.{max_regions, no_region}
use Rattle.mmio_config.specs.declared.Region.{Region}
use Rattle.trace.specs.Block.{regions_at, share_at}
use Rattle.mmio_config.proofs.Chains.{each-fits, made-at}
use Rattle.trace.proofs.regions_at.Goals as goal

pub returns : goal.returns
unfolding regions_at
returns c =
    each-fits (λ (i : ℕ) (x : Region). share_at c.args.s.now i) (replicate max_regions no_region) c.from_fn.result no_region no_region (search rules)
    (λ k b. made-at _ _ (λ (i : ℕ). share_at c.args.s.now i) (λ i y q s. search rules) c.from_fn.result 8 k no_region c.from_fn.ensures.items b)
