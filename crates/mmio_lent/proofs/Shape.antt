-- A device of which only this is said: its polled part comes first, then its configuration, and after two more parts its
-- queues; what else there is has some types and some values. The walks of the exports are over any such device, so that they
-- never meet the device's other parts, which would make their check too long.
use mathlib.Core.Bool.{Bool, true, false}
use mathlib.Core.Path.{◌≡◌, refl}
use mathlib.Core.List.{List, [], ◌∷◌}
use Prim.Native.Nat.{ℕ, ◌<◌, ◌^◌}
use seplogic.Ra.Ura.{Ura}
use mir.Syntax.{Sym, Ty, Tys, Written, tnil, tcons, ty_array, ty_struct}
use mir.Val.{Val, Vals, WT, has_ty, vnil, vcons, vstruct}
use base.Fml.{Fml, Lft}
use base.Stored.{Coded}
use types.Logic.{Logic}
use denote.Exit.{Kept, Exit}
use denote.RattleType.{RattleType}
use denote.Laws.{Is, Tells, Makes, Lawful, Copy}
use denote.Opens.{Opens}
use denote.Array.{Array}
use denote.Struct.Laws as LL
use lib.Dec.{T}
use Rattle.virtq.specs.declared.Queue.{Queue}
use Rattle.virtq.specs.contracts.Queue as U
use Rattle.virtq.proofs.Queue.TheLaws as U'
use Rattle.mmio_config.specs.declared.Config.{Config}
use Rattle.mmio_config.specs.contracts.Config as C
use Rattle.mmio_config.proofs.Config.TheLaws as C'
use Rattle.mmio_hot.specs.declared.Hot.{Hot}
use Rattle.mmio_hot.specs.contracts.Hot as O
use Rattle.mmio_hot.proofs.Hot.TheLaws as O'
use Rattle.mmio_access.specs.Changes.{with_interrupts}
use Rattle.mmio_fast.specs.declared.Told.{Told}
use Rattle.mmio_fast.specs.contracts.Told as K
use Rattle.mmio_fast.proofs.Told.TheLaws as K'

-- the polled part's values
abbrev pub hots : Hot → List Val
hots = LL.vals O.the_type O'.the_laws

pub record Lent : Type 2 where
  pub Denot : Type 0
  pub written : Written
  pub reaches : List (Written × List Ty)
  pub lives : Lft
  pub own_val : Denot → List Val → Fml
  pub exit : Kept → Exit Denot
  pub coded : Coded Denot
  pub shr_at : Denot → ℕ → ℕ → Lft → Fml
  pub outer : Sym
  pub inner : Sym
  pub flags : Ty
  pub stage : Ty
  pub rest : Tys
  pub hot : Denot → Hot
  pub config : Denot → Config
  pub queues : Denot → List Queue
  pub flagsv : Denot → Val
  pub stagev : Denot → Val
  pub queuev : Denot → Val
  pub restv : Denot → Vals
  pub bits : Denot → ℕ → Denot

abbrev pub lies : Lent → Ty
lies L =
    ty_struct L.outer
    (tcons (ty_struct L.inner (tcons O'.mir (tcons C'.mir (tcons L.flags (tcons L.stage (tcons (ty_array U'.mir 16) L.rest)))))) tnil)

-- the values behind the polled part
abbrev pub others : (L : Lent) → L.Denot → Vals
others L h =
    vcons (LL.val C.the_type C'.the_laws (L.config h)) (vcons (L.flagsv h) (vcons (L.stagev h) (vcons (L.queuev h) (L.restv h))))

abbrev pub val : (L : Lent) → L.Denot → Val
val L h = vstruct (vcons (vstruct (vcons (LL.val O.the_type O'.the_laws (L.hot h)) (others L h))) vnil)

abbrev pub vals : (L : Lent) → L.Denot → List Val
vals L h = val L h ∷ []

abbrev pub row : Lent → RattleType
row L =
    record {
      Denot = L.Denot;
      mir = lies L ∷ [];
      written = L.written;
      reaches = L.reaches;
      lives = L.lives;
      own_val = L.own_val;
      exit = L.exit;
      coded = L.coded;
      shr_at = L.shr_at;
    }

-- what the walks lean on
pub record Laws (L : Lent) : Type 2 where
  pub tells : Tells (row L) (Is (row L)) (vals L)
  pub makes : {M : Type 1} {𝓤 : Ura M} (𝓛 : Logic 𝓤) → Makes 𝓛 (row L) (Is (row L))
  pub lawful : {M : Type 1} {𝓤 : Ura M} (𝓛 : Logic 𝓤) → Lawful 𝓛 (row L)
  pub copy : {M : Type 1} {𝓤 : Ura M} (𝓛 : Logic 𝓤) → Copy 𝓛 (row L)
  -- a `&` to a device can be looked into: what such a reference holds is the row's `shr_at`
  pub opens : {M : Type 1} {𝓤 : Ura M} (𝓛 : Logic 𝓤) → Opens 𝓛 (row L)
  pub hot-is : (h : L.Denot) → Is (row L) h (vals L h) → Is O.the_row (L.hot h) (LL.vals O.the_type O'.the_laws (L.hot h))
  pub count_fits : (h : L.Denot) → Is (row L) h (vals L h) → (L.config h).count < 2 ^ 32
  pub queues-is : (h : L.Denot) → Is (row L) h (vals L h) → Is (Array U.the_row 16) (L.queues h) (L.queuev h ∷ [])
  pub queues-typed : {M : Type 1} {𝓤 : Ura M} (𝓛 : Logic 𝓤) (h : L.Denot) → Is (row L) h (vals L h)
      → T (has_ty (ty_array U'.mir 16) (L.queuev h)) × WT (L.queuev h)
  pub bits_is : (h : L.Denot) (v : ℕ) → v < 2 ^ 32 → Is (row L) h (vals L h) → Is (row L) (L.bits h v) (vals L (L.bits h v))
  pub bits-hot : (h : L.Denot) (v : ℕ) → L.hot (L.bits h v) ≡ with_interrupts (L.hot h) v
  pub bits-others : (h : L.Denot) (v : ℕ) → others L (L.bits h v) ≡ others L h

-- what is told, and then such a device
pub record Wrote (L : Lent) : Type 2 where
  pub Denot : Type 0
  pub written : Written
  pub reaches : List (Written × List Ty)
  pub lives : Lft
  pub own_val : Denot → List Val → Fml
  pub exit : Kept → Exit Denot
  pub coded : Coded Denot
  pub shr_at : Denot → ℕ → ℕ → Lft → Fml
  pub name : Sym
  pub told : Denot → Told
  pub device : Denot → L.Denot

abbrev pub wrote-mir : (L : Lent) → Wrote L → Ty
wrote-mir L R = ty_struct R.name (tcons K'.mir (tcons (lies L) tnil))

abbrev pub wrote-val : (L : Lent) (R : Wrote L) → R.Denot → Val
wrote-val L R r = vstruct (vcons (LL.val K.the_type K'.the_laws (R.told r)) (vcons (val L (R.device r)) vnil))

abbrev pub wrote-row : (L : Lent) → Wrote L → RattleType
wrote-row L R =
    record {
      Denot = R.Denot;
      mir = wrote-mir L R ∷ [];
      written = R.written;
      reaches = R.reaches;
      lives = R.lives;
      own_val = R.own_val;
      exit = R.exit;
      coded = R.coded;
      shr_at = R.shr_at;
    }

pub record Wrote-laws (L : Lent) (R : Wrote L) : Type 2 where
  pub tells : Tells (wrote-row L R) (Is (wrote-row L R)) (λ r. wrote-val L R r ∷ [])
  pub lawful : {M : Type 1} {𝓤 : Ura M} (𝓛 : Logic 𝓤) → Lawful 𝓛 (wrote-row L R)
  pub told_is : (r : R.Denot) (vs : List Val) → Is (wrote-row L R) r vs → Is K.the_row (R.told r) (LL.vals K.the_type K'.the_laws (R.told r))
  pub device-is : (r : R.Denot) (vs : List Val) → Is (wrote-row L R) r vs → Is (row L) (R.device r) (vals L (R.device r))

-- a branch that is taken
pub is_true : (b : Bool) → T b → b ≡ true
is_true true t = refl
is_true false t = absurd t
