-- DEMAND 3, last sentence: FAILED, once set, stays, over any run from any state; and PREFIX: what is seen of the earlier part
-- of a log does not depend on the later part.
use mathlib.Core.Bool.{Bool, true, false, true≢false}
use mathlib.Core.Path.{◌≡◌, refl, sym, ap, ◌∙◌}
use mathlib.Core.List.{List, [], ◌++◌}
use Prim.Native.Nat.{ℕ, ◌+◌, ◌/◌, ◌%◌, ◌^◌}
use native.Mathlib.Omega.{arith}
use borrow.Author.Tests.{eqb-true, eqb-false, eq-eqb}
use lib.Dec.{eqb}
use lib.ListN.{length}
use Rattle.words.specs.Pick.{pick}
use Rattle.words.specs.Bits.{bit}
use Rattle.words.specs.Bytes.{read_le}
use Rattle.registers.specs.Registers.{write_at}
use Rattle.registers.specs.declared.WriteRegister.{WriteRegister}
use Rattle.registers.specs.declared.WriteRegister.TheVariants as W
use Rattle.mmio_hot.specs.Polled.{failed}
use Rattle.mmio_hot.specs.Commands.{csr_of, command_at}
use Rattle.mmio_hot.specs.declared.Csr.{Csr}
use Rattle.mmio_hot.specs.declared.Command.{Command}
use Rattle.mmio_hot.specs.declared.Command.TheVariants.{Update, Mask, Unmask, Other}
use Rattle.mmio_config.specs.declared.Configuration.{Configuration}
use Rattle.mmio_state.specs.State.{State, failed_state}
use Rattle.mmio_state.specs.Fresh.{fresh_state}
use Rattle.mmio_msi.specs.Messages.{turned, controlled, commanded}
use Rattle.mmio_ladder.specs.Ladder.{from, down_move, other_move, move_of, status_after}
use Rattle.mmio_ladder.specs.Climbing.{moved}
use Rattle.mmio_ladder.specs.declared.Move.{Move}
use Rattle.mmio_ladder.specs.declared.Move.TheVariants.{Take, Start, Reset, Stay, Fail}
use Rattle.mmio_v2.specs.Operation.{Operation, Read, Write, Raise}
use Rattle.mmio_v2.specs.Registers.{does}
use Rattle.runs.specs.Runs.{run_from}
use Rattle.runs.proofs.Runs as runs
use Rattle.history.specs.Run.{next, seen, sees, Failed}

-- ---- FAILED, as a bit

fail-sets : (v : ℕ) → bit 7 (failed v) ≡ true
fail-sets v = go (bit 7 v) refl
  where
    odd : (v / 2 ^ 7 % 2 ≡ 1 → ⊥) → (v + 128) / 2 ^ 7 % 2 ≡ 1
    odd h = omega arith

    go : (t : Bool) → bit 7 v ≡ t → bit 7 (pick t v (v + 128)) ≡ true
    go true e = e
    go false e = eq-eqb ((v + 128) / 2 ^ 7 % 2) 1 (odd (eqb-false (v / 2 ^ 7 % 2) 1 e))

-- ---- the ladder

-- moves that a status with FAILED can meet
abbrev Low : Move → Type 0
Low (Take v) = ⊥
Low Start = ⊥
Low Reset = Unit {0}
Low Stay = Unit {0}
Low Fail = Unit {0}

module _ (status : ℕ) (on : bit 7 status ≡ true) where
  not_at : (b : ℕ) → bit 7 b ≡ false → eqb status b ≡ true → ⊥
  not_at b h e = true≢false (sym on ∙ ap (bit 7) (eqb-true status b e) ∙ h)

  from_low : (b : ℕ) (m : Move) → bit 7 b ≡ false → Low (from b status m)
  from_low b m h = go (eqb status b) refl
    where
      go : (t : Bool) → eqb status b ≡ t → Low (pick t m Fail)
      go true e = absurd (not_at b h e)
      go false e = tt

  move-low : (v : ℕ) (active : Bool) → Low (move_of v status active)
  move-low v active = go (eqb v 0x1) (eqb v 0x3) (eqb v 0xb) (eqb v 0xf) (eqb v 0x0)
    where
      down : (t a : Bool) → Low (pick t Stay (pick a Reset Fail))
      down true a = tt
      down false true = tt
      down false false = tt

      other : (t : Bool) → Low (pick t Stay Fail)
      other true = tt
      other false = tt

      go : (a b c d e : Bool) → Low (pick a (from 0x0 status (Take 0x1)) (pick b (from 0x1 status (Take 0x3)) (pick c (from 0x3 status (Take 0xb)) (pick d (from 0xb status Start) (pick e (down_move status active) (other_move v status))))))
      go true b c d e = from_low 0x0 (Take 0x1) refl
      go false true c d e = from_low 0x1 (Take 0x3) refl
      go false false true d e = from_low 0x3 (Take 0xb) refl
      go false false false true e = from_low 0xb Start refl
      go false false false false true = down (eqb status 0x0) active
      go false false false false false = other (eqb v status)

  after-low : (m : Move) (ok : Bool) → Low m → bit 7 (status_after m status ok) ≡ true
  after-low (Take v) ok h = absurd h
  after-low Start ok h = absurd h
  after-low Reset true h = go (eqb status 0xf) refl
    where
      go : (t : Bool) → eqb status 0xf ≡ t → bit 7 (pick t 0x0 (failed status)) ≡ true
      go true e = absurd (not_at 0xf refl e)
      go false e = fail-sets status
  after-low Reset false h = fail-sets status
  after-low Stay ok h = on
  after-low Fail ok h = fail-sets status

-- ---- each register

does-keeps : (s : State) (v h l k : ℕ) (x : WriteRegister) → Failed s → Failed (does s v h l k x).state
does-keeps s v h l k W.DeviceFeatureSel f = f
does-keeps s v h l k W.DriverFeature f = f
does-keeps s v h l k W.DriverFeatureSel f = f
does-keeps s v h l k W.QueueSel f = f
does-keeps s v h l k (W.QueueField g) f = f
does-keeps s v h l k W.InterruptAck f = f
does-keeps s v h l k W.Status f =
    let m : Move = move_of v s.hot.status s.flags.active in
    after-low s.hot.status f m (moved s k m).ok (move-low s.hot.status f v s.flags.active)
does-keeps s v h l k W.ShmSel f = f
does-keeps s v h l k W.MsiAddressLow f = f
does-keeps s v h l k W.MsiAddressHigh f = f
does-keeps s v h l k W.MsiData f = f
does-keeps s v h l k W.MsiCsr f = go (csr_of s.hot.status h s.hot.msi)
  where
    by : (b m : Bool) → Failed (pick b (failed_state s) (turned s m))
    by true m = fail-sets s.hot.status
    by false m = f

    go : (x : Csr) → Failed (controlled s k x).state
    go Csr.Locked = fail-sets s.hot.status
    go Csr.Stay = f
    go (Csr.Turn m) = by (eqb k 0) m
does-keeps s v h l k W.MsiCommand f = go (command_at h)
  where
    go : (x : Command) → Failed (commanded s k x).state
    go (Update w) = f
    go (Mask w) = f
    go (Unmask w) = f
    go Other = fail-sets s.hot.status
does-keeps s v h l k (W.Config n) f = f
does-keeps s v h l k W.Unknown f = f

pub next-keeps : (s : State) (op : Operation) → Failed s → Failed (next s op)
next-keeps s (Read k o l) f = f
next-keeps s (Write k o bs) f = does-keeps s (read_le 4 bs) (read_le 2 bs) (length bs) k (write_at o (length bs)) f
next-keeps s (Raise b) f = f

-- from any state, so from a loaded one too
pub failed-stays : (s : State) (later log : List Operation) → Failed (run_from next s log) → Failed (run_from next s (later ++ log))
failed-stays s later log = runs.run-keeps Failed next next-keeps s later log

-- ---- PREFIX

-- the replies, actions and fields of a whole run are those of its later part, before those of its earlier part; and these are the
-- earlier part's alone
pub prefix : (c : Configuration) (later earlier : List Operation) → sees c [] (later ++ earlier) ≡ sees c earlier later ++ sees c [] earlier
prefix c later earlier = runs.prefix next seen (fresh_state c) later earlier
