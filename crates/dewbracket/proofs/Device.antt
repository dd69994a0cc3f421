-- The device, as the walks see one.
use mathlib.Core.Path.{refl}
use mathlib.Core.List.{[]}
use Prim.Native.Nat.{ℕ, zero, suc, ◌<◌, ◌^◌}
use mir.Syntax.{Sym, Ty, Tys, tnil, tcons, ty_int, ty_bool, ty_float, ty_ptr, ty_ref, ty_array, ty_unit, ty_struct, ty_enum, ty_param, ty_const, ty_array_p, ty_named}
use mir.Val.{Val, Vals, vnil, vcons, vunit, vbool, vint, vfloat, vptr, vcode, vstruct}
use denote.Laws.{Is}
use denote.Struct.Laws as LL
use Rattle.mmio_config.specs.contracts.Config as C
use Rattle.mmio_config.proofs.Config.TheLaws as C'
use Rattle.mmio_hot.specs.contracts.Hot as O
use Rattle.mmio_hot.proofs.Hot.TheLaws as O'
use Rattle.mmio_state.specs.State.{with_hot}
use Rattle.mmio_state.specs.contracts.MmioV2DeviceState as S
use Rattle.mmio_state.proofs.MmioV2DeviceState.TheLaws as S'
use Rattle.mmio_access.specs.Changes.{with_interrupts}
use Rattle.mmio_v2.specs.Fresh.{device}
use Rattle.mmio_v2.specs.declared.MmioV2Device.{MmioV2Device}
use Rattle.mmio_v2.specs.contracts.MmioV2Device as D
use Rattle.mmio_v2.proofs.MmioV2Device.TheLaws as D'
use Rattle.mmio_fast.specs.declared.Wrote.{Wrote}
use Rattle.mmio_fast.specs.contracts.Wrote as R
use Rattle.mmio_fast.proofs.Wrote.TheLaws as R'
use Rattle.mmio_lent.proofs.Shape as shape

-- a struct's name, its fields' types and values, one of them, and those from one on
abbrev name_of : Ty → Sym
name_of (ty_struct n ts) = n
name_of (ty_int w) = []
name_of ty_bool = []
name_of (ty_float f) = []
name_of ty_ptr = []
name_of (ty_ref l m t) = []
name_of (ty_array t n) = []
name_of ty_unit = []
name_of (ty_enum n ts) = []
name_of (ty_param n) = []
name_of (ty_const n) = []
name_of (ty_array_p t n) = []
name_of (ty_named h ts) = []

abbrev types_of : Ty → Tys
types_of (ty_struct n ts) = ts
types_of (ty_int w) = tnil
types_of ty_bool = tnil
types_of (ty_float f) = tnil
types_of ty_ptr = tnil
types_of (ty_ref l m t) = tnil
types_of (ty_array t n) = tnil
types_of ty_unit = tnil
types_of (ty_enum n ts) = tnil
types_of (ty_param n) = tnil
types_of (ty_const n) = tnil
types_of (ty_array_p t n) = tnil
types_of (ty_named h ts) = tnil

abbrev type_at : ℕ → Tys → Ty
type_at n tnil = ty_unit
type_at zero (tcons t ts) = t
type_at (suc n) (tcons t ts) = type_at n ts

abbrev types_from : ℕ → Tys → Tys
types_from n tnil = tnil
types_from zero (tcons t ts) = tcons t ts
types_from (suc n) (tcons t ts) = types_from n ts

abbrev values_of : Val → Vals
values_of (vstruct vs) = vs
values_of vunit = vnil
values_of (vbool b) = vnil
values_of (vint w n) = vnil
values_of (vfloat f x) = vnil
values_of (vptr b o) = vnil
values_of (vcode k) = vnil

abbrev value_at : ℕ → Vals → Val
value_at n vnil = vunit
value_at zero (vcons v vs) = v
value_at (suc n) (vcons v vs) = value_at n vs

abbrev values_from : ℕ → Vals → Vals
values_from n vnil = vnil
values_from zero (vcons v vs) = vcons v vs
values_from (suc n) (vcons v vs) = values_from n vs

-- the state's fields
abbrev types : Tys
types = types_of S'.mir

abbrev values : MmioV2Device → Vals
values h = values_of (LL.val S.the_type S'.the_laws h.state)

abbrev bits : MmioV2Device → ℕ → MmioV2Device
bits h v = device (with_hot h.state (with_interrupts h.state.hot v))

abbrev pub lent : shape.Lent
lent =
    record {
      Denot = MmioV2Device;
      written = (D.the_row).written;
      reaches = (D.the_row).reaches;
      lives = (D.the_row).lives;
      own_val = (D.the_row).own_val;
      exit = (D.the_row).exit;
      coded = (D.the_row).coded;
      shr_at = (D.the_row).shr_at;
      outer = name_of D'.mir;
      inner = name_of S'.mir;
      flags = type_at 2 types;
      stage = type_at 3 types;
      rest = types_from 5 types;
      hot = λ h. h.state.hot;
      config = λ h. h.state.config;
      queues = λ h. h.state.queues;
      flagsv = λ h. value_at 2 (values h);
      stagev = λ h. value_at 3 (values h);
      queuev = λ h. value_at 4 (values h);
      restv = λ h. values_from 5 (values h);
      bits = bits;
    }

made : (h : MmioV2Device) (v : ℕ) → v < 2 ^ 32 → Is D.the_row h (LL.vals D.the_type D'.the_laws h)
    → Is D.the_row (bits h v) (LL.vals D.the_type D'.the_laws (bits h v))
made h v fits was =
    let d = LL.owed D.the_type D'.the_laws h _ was in
    let w = LL.owed S.the_type S'.the_laws h.state _ d.0 in
    let u = LL.owed O.the_type O'.the_laws h.state.hot _ w.0 in
    LL.owes D.the_type D'.the_laws (bits h v)
    (LL.owes S.the_type S'.the_laws (bits h v).state (LL.owes O.the_type O'.the_laws (bits h v).state.hot (u.0, ((refl, fits), u.1.1)), w.1), d.1)

pub laws : shape.Laws lent
laws =
    record {
      tells = LL.tells D.the_type D'.the_laws;
      makes = λ 𝓛. LL.makes D.the_type D'.the_plain 𝓛;
      lawful = λ 𝓛. LL.lawful D.the_type D'.the_laws 𝓛;
      copy = λ 𝓛. LL.copy D.the_type D'.the_copy 𝓛;
      opens = λ 𝓛. (LL.copied D.the_type D'.the_copy 𝓛).opens;
      hot-is = λ h was. (LL.owed S.the_type S'.the_laws h.state _ (LL.owed D.the_type D'.the_laws h _ was).0).0;
      count_fits = λ h was. (LL.owed C.the_type C'.the_laws h.state.config _ (LL.owed S.the_type S'.the_laws h.state _ (LL.owed D.the_type D'.the_laws h _ was).0).1.0).1.1.1.1.1.1.1.1.0.1;
      queues-is = λ h was. (LL.owed S.the_type S'.the_laws h.state _ (LL.owed D.the_type D'.the_laws h _ was).0).1.1.1.1.0;
      queues-typed = λ 𝓛 h was. (((S'.the_laws).1.1.1.1.0.lawful 𝓛).typed h.state.queues _ (LL.owed S.the_type S'.the_laws h.state _ (LL.owed D.the_type D'.the_laws h _ was).0).1.1.1.1.0).0;
      bits_is = made;
      bits-hot = λ h v. refl;
      bits-others = λ h v. refl;
    }

abbrev pub wrote : shape.Wrote lent
wrote =
    record {
      Denot = Wrote;
      written = (R.the_row).written;
      reaches = (R.the_row).reaches;
      lives = (R.the_row).lives;
      own_val = (R.the_row).own_val;
      exit = (R.the_row).exit;
      coded = (R.the_row).coded;
      shr_at = (R.the_row).shr_at;
      name = name_of R'.mir;
      told = λ r. r.told;
      device = λ r. r.device;
    }

pub wrote-laws : shape.Wrote-laws lent wrote
wrote-laws =
    record {
      tells = LL.tells R.the_type R'.the_laws;
      lawful = λ 𝓛. LL.lawful R.the_type R'.the_laws 𝓛;
      told_is = λ r vs is. (LL.owed R.the_type R'.the_laws r vs is).0;
      device-is = λ r vs is. (LL.owed R.the_type R'.the_laws r vs is).1.0;
    }
