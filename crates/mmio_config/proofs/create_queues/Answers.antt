use Rattle.std.proofs.Common.{rules, ℕ, get_or}
use Rattle.virtq.specs.Fields.{fresh_queue, no_queue}
use Rattle.mmio_config.proofs.Chains.{each-fits, made-at}
use Rattle.mmio_config.proofs.create_queues.Goals as goal

pub returns : goal.returns
returns c =
    each-fits (λ (i m : ℕ). fresh_queue m) c.args.sizes c.from_fn.result 0 no_queue (search rules)
    (λ k b. made-at _ _ (λ (i : ℕ). fresh_queue (get_or c.args.sizes i 0)) (λ i y q s. search rules) c.from_fn.result 16 k no_queue c.from_fn.ensures.items (search rules))
