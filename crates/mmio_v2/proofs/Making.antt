-- The C answer to a fresh device, or to its refusal.
use mathlib.Core.Bool.{Bool, true, false}
use mathlib.Core.Path.{◌≡◌, refl, ap, ◌∙◌}
use lib.Dec.{eqb}
use Rattle.std.specs.Prelude.{Option, Some, None, Result, Ok, Err}
use Rattle.std.specs.Result.{ResultUnwrapsOrElse}
use Rattle.words.specs.declared.Refusal.{Refusal}
use Rattle.words.specs.declared.Refusal.TheVariants as E
use Rattle.mmio_config.specs.Fresh.{refused_for}
use Rattle.mmio_config.specs.declared.Configuration.{Configuration}
use Rattle.mmio_v2.specs.Fresh.{device, new_device, made_device, made_of}
use Rattle.mmio_state.specs.Fresh.{no_state}
use Rattle.mmio_v2.specs.declared.MadeDevice.{MadeDevice}
use Rattle.mmio_v2.specs.declared.MmioV2Device.{MmioV2Device}

pub made_new : (c : Configuration) → made_of (new_device c) ≡ made_device c
unfolding made_device
made_new c = go (eqb c.size 0x2000) (refused_for c) refl refl
  where
    go : (t : Bool) (r : Option Refusal) → eqb c.size 0x2000 ≡ t → refused_for c ≡ r → made_of (new_device c) ≡ made_device c
    go false r e f = rw e
    go true None e f = rw (e, f)
    go true (Some E.WindowSize) e f = rw (e, f)
    go true (Some E.WindowBase) e f = rw (e, f)
    go true (Some E.QueueCount) e f = rw (e, f)
    go true (Some E.QueueSize) e f = rw (e, f)
    go true (Some E.VectorCount) e f = rw (e, f)
    go true (Some E.RegionCount) e f = rw (e, f)
    go true (Some E.ActionSpace) e f = rw (e, f)
    go true (Some E.TraceLength) e f = rw (e, f)
    go true (Some E.TraceVersion) e f = rw (e, f)
    go true (Some E.TraceLayout) e f = rw (e, f)
    go true (Some E.RecordKind) e f = rw (e, f)
    go true (Some E.RecordData) e f = rw (e, f)
    go true (Some E.UnknownQueue) e f = rw (e, f)

-- the device is the same whether it is made or only asked for
module _ (c : Configuration) (r : Result MmioV2Device Refusal) (e : r ≡ new_device c) where
  pub new-or-zeros : (made_of r).device ≡ (made_device c).device
  new-or-zeros = ap (λ (m : MadeDevice). m.device) (ap made_of e ∙ made_new c)

  -- the device that was made, or the default
  pub new-or-default : (P : MmioV2Device → Type 0) (d : MmioV2Device) → ((x : MmioV2Device) → P x → x ≡ device no_state) → ResultUnwrapsOrElse r P d
      → d ≡ (made_device c).device
  new-or-default P d h k = from r k ∙ new-or-zeros
    where
      from : (q : Result MmioV2Device Refusal) → ResultUnwrapsOrElse q P d → d ≡ (made_of q).device
      from (Ok x) k = k
      from (Err x) k = h d k
