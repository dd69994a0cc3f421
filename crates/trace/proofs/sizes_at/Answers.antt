use Rattle.std.specs.Prelude.{replicate}
use Rattle.std.proofs.Common.{rules, ℕ, ◌+◌, ◌*◌}
use Rattle.trace.specs.Block.{sizes_at}
use Rattle.trace.specs.Form.{form}
use Rattle.trace.specs.Numbers.{half_at}
use Rattle.mmio_config.proofs.Chains.{each-fits, made-at}
use Rattle.trace.proofs.sizes_at.Goals as goal

pub returns : goal.returns
unfolding sizes_at
returns c =
    each-fits (λ (i x : ℕ). half_at c.args.s.now (88 + 2 * i)) (replicate form.sizes 0) c.from_fn.result 0 0 (search rules)
    (λ k b. made-at _ _ (λ (i : ℕ). half_at c.args.s.now (88 + 2 * i)) (λ i y q s. search rules) c.from_fn.result 16 k 0 c.from_fn.ensures.items b)
