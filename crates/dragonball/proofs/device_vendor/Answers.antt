use Rattle.std.specs.Option.{is_some, unwrap_or}
use Rattle.dragonball.proofs.Meaning.{feature-bits-small, msi-small}
use Rattle.dragonball.proofs.Masks.{vendor-or}
use Rattle.dragonball.proofs.device_vendor.Goals as goal

pub returns : goal.returns
returns c =
    simp (c.msi_feature.ensures, c.feature_bits.ensures)
    (vendor-or _ _ (msi-small c.args.msi) (feature-bits-small (is_some c.args.features) (unwrap_or c.args.features 0) c.args.wildcard))
