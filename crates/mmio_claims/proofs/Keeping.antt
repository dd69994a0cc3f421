-- A fresh device's state is real, and every operation keeps it so; what that says of the status.
use mathlib.Core.Bool.{Bool, true, false, not, true≢false}
use mathlib.Core.Path.{◌≡◌, refl, sym}
use Prim.Native.Nat.{ℕ}
use native.Mathlib.Omega.{arith}
use lib.Dec.{eqb, ltb}
use lib.ListN.{length}
use Rattle.words.specs.Pick.{pick}
use Rattle.registers.specs.Registers.{write_at}
use Rattle.registers.specs.declared.WriteRegister.{WriteRegister}
use Rattle.registers.specs.declared.WriteRegister.TheVariants as W
use Rattle.virtq.specs.declared.Field.{Field}
use Rattle.msi.specs.declared.Msi.{Msi}
use Rattle.mmio_hot.specs.Commands.{csr_of, command_at}
use Rattle.mmio_hot.specs.declared.Csr.{Csr}
use Rattle.mmio_hot.specs.declared.Csr.TheVariants.{Locked, Stay, Turn}
use Rattle.mmio_hot.specs.declared.Command.{Command}
use Rattle.mmio_hot.specs.declared.Command.TheVariants.{Update, Mask, Unmask, Other}
use Rattle.mmio_config.specs.Fresh.{refusal_of}
use Rattle.mmio_config.specs.declared.Configuration.{Configuration}
use Rattle.mmio_state.specs.State.{State, failed_state}
use Rattle.mmio_state.specs.Fields.{field_written}
use Rattle.mmio_state.specs.Fresh.{fresh_state}
use Rattle.mmio_state.specs.Sound.{Sound}
use Rattle.mmio_state.proofs.Sounding.{fresh-sound}
use Rattle.mmio_state.proofs.Keeping.{hot-keeps, field-keeps}
use Rattle.mmio_msi.specs.Messages.{staged, turned, controlled, enabling, commanded, commanding}
use Rattle.mmio_msi.proofs.Keeping.{stage-keeps, control-keeps, command-keeps}
use Rattle.mmio_ladder.specs.Statuses.{among, statuses, top_statuses, Real}
use Rattle.mmio_ladder.proofs.Keeping.{same-real, fails-real, climb-keeps}
use Rattle.mmio_access.specs.Gates.{fields_open}
use Rattle.mmio_access.specs.Changes.{field_updated}
use Rattle.mmio_v2.specs.Fresh.{refusal}
use Rattle.mmio_v2.specs.Registers.{does}
use Rattle.mmio_v2.specs.Operation.{Operation, Read, Write, Raise}
use Rattle.mmio_v2.specs.Step.{refusing, operated, step}

-- ---- a fresh one

pub fresh-real : (c : Configuration) → refusal c ≡ 0 → Real (fresh_state c)
fresh-real c h =
    record {
      sound = fresh-sound c (go (eqb c.size 0x2000) h);
      status = refl;
      top = λ e. absurd (true≢false (sym e));
    }
  where
    go : (t : Bool) → pick (not t) 1 (refusal_of c) ≡ 0 → refusal_of c ≡ 0
    go true e = e
    go false e = absurd (one_not_zero e)
      where
        one_not_zero : ◌≡◌ {A = ℕ} 1 0 → ⊥
        one_not_zero z = omega arith

-- ---- a write

module _ (s : State) (r : Real s) where
  field-real : (f : Field) (v : ℕ) → Real (field_updated s f v)
  field-real f v = go (fields_open s.hot.status)
    where
      go : (t : Bool) → Real (record { hot = s.hot; config = s.config; flags = s.flags; stage = s.stage; queues = pick t (field_written s f v).queues s.queues; held = s.held; vectors = s.vectors })
      go true = same-real r (field-keeps s f v r.sound) refl refl
      go false = r

  staged-real : (m : Msi) → Real (staged s m)
  staged-real m = same-real r (stage-keeps r.sound m) refl refl

  control-real : (v k : ℕ) → Real (enabling s v k).state
  control-real v k = go (csr_of s.hot.status v s.hot.msi) (control-keeps r.sound v k)
    where
      by : (t m : Bool) → Sound (pick t (failed_state s) (turned s m)) → Real (pick t (failed_state s) (turned s m))
      by true m d = fails-real s r
      by false m d = same-real r d refl refl

      go : (x : Csr) → Sound (controlled s k x).state → Real (controlled s k x).state
      go Locked d = fails-real s r
      go Stay d = r
      go (Turn m) d = by (eqb k 0) m d

  command-real : (v k : ℕ) → Real (commanding s v k).state
  command-real v k = go (command_at v) (command-keeps r.sound v k)
    where
      go : (x : Command) → Sound (commanded s k x).state → Real (commanded s k x).state
      go (Update w) d = same-real r d refl refl
      go (Mask w) d = same-real r d refl refl
      go (Unmask w) d = same-real r d refl refl
      go Other d = fails-real s r

  does-real : (v h l k : ℕ) (x : WriteRegister) → Real (does s v h l k x).state
  does-real v h l k W.DeviceFeatureSel = same-real r (hot-keeps s _ refl r.sound) refl refl
  does-real v h l k W.DriverFeature = r
  does-real v h l k W.DriverFeatureSel = same-real r (hot-keeps s _ refl r.sound) refl refl
  does-real v h l k W.QueueSel = same-real r (hot-keeps s _ refl r.sound) refl refl
  does-real v h l k (W.QueueField f) = field-real f v
  does-real v h l k W.InterruptAck = same-real r (hot-keeps s _ refl r.sound) refl refl
  does-real v h l k W.Status = climb-keeps s r v k
  does-real v h l k W.ShmSel = same-real r (hot-keeps s _ refl r.sound) refl refl
  does-real v h l k W.MsiAddressLow = staged-real _
  does-real v h l k W.MsiAddressHigh = staged-real _
  does-real v h l k W.MsiData = staged-real _
  does-real v h l k W.MsiCsr = control-real h k
  does-real v h l k W.MsiCommand = command-real h k
  does-real v h l k (W.Config n) = r
  does-real v h l k W.Unknown = r

  pub operated-real : (op : Operation) → Real (operated s op).state
  operated-real (Read k o l) = r
  operated-real (Write k o bs) = does-real _ _ (length bs) k (write_at o (length bs))
  operated-real (Raise b) = same-real r (hot-keeps s _ refl r.sound) refl refl

  -- every operation, refused ones too
  pub step_keeps : (w : ℕ) (op : Operation) → Real (step w s op).state
  step_keeps w op = go (ltb w 320) (operated-real op)
    where
      go : (t : Bool) → Real (operated s op).state → Real (pick t (refusing s) (operated s op)).state
      go true d = r
      go false d = d

  -- "status is one of 0, 1, 3, 0xb, 0xf, each with or without FAILED"
  pub one-of-ten : (w : ℕ) (op : Operation) → among (step w s op).state.hot.status statuses ≡ true
  one-of-ten w op = (step_keeps w op).status

  -- active only at 0xf or 0x8f
  pub active-at-top : (w : ℕ) (op : Operation) → (step w s op).state.flags.active ≡ true → among (step w s op).state.hot.status top_statuses ≡ true
  active-at-top w op h = (step_keeps w op).top h
