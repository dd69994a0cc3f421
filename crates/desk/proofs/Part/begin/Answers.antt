use mathlib.Core.Path.{refl, ap, ◌∙◌}
use Rattle.std.proofs.Common.{rules}
use Rattle.mmio_config.specs.declared.Configuration.{Configuration}
use Rattle.mmio_v2.specs.Fresh.{made_device}
use Rattle.mmio_v2.proofs.Making.{new-or-default}
use Rattle.desk.proofs.Part.begin.Goals as goal

pub returns : goal.returns
returns c =
    record {
      fresh = new-or-default _ _ c.new.ensures _ _ (λ x p. search rules) c.unwrap_or_default.ensures ∙ ap (λ (x : Configuration). (made_device x).device) c.configuration.ensures;
      first = refl;
      text = c.heading.ensures;
    }
