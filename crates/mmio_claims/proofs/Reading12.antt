-- THE CLAIM on reads: at every offset and length, from every state, the reply is what the standard's meaning of the register
-- gives, but where `read_parts` says otherwise.
use mathlib.Core.Bool.{Bool, true, false, true≢false}
use mathlib.Core.Path.{◌≡◌, refl, sym, ap, ◌∙◌}
use mathlib.Core.List.{List}
use Prim.Native.Nat.{ℕ, ◌+◌, ◌-◌, ◌*◌, ◌/◌, ◌%◌, ◌^◌, ◌<◌, ◌≤◌}
use native.Mathlib.Omega.{arith}
use borrow.Author.Tests.{eqb-true, eqb-false}
use lib.Bits.{bit_or, or_lt}
use lib.Dec.{eqb, ltb}
use lib.ListN.{get_or}
use lib.Pow.{shr-shr, shr_le}
use Rattle.std.specs.Prelude.{Option, Some, None}
use Rattle.words.specs.Pick.{pick}
use Rattle.words.specs.Bytes.{bytes_of}
use Rattle.dragonball.specs.Regions.{region_base, low_word, high_word}
use Rattle.registers.specs.Registers.{read_at}
use Rattle.registers.specs.Virtio12 as std
use Rattle.registers.specs.Apart.{Read, read_place, port_place}
use Rattle.registers.specs.declared.ReadRegister.{ReadRegister}
use Rattle.registers.specs.declared.ReadRegister.TheVariants as R
use Rattle.mmio_config.specs.declared.Region.{Region}
use Rattle.mmio_state.specs.State.{State, queues_in}
use Rattle.mmio_state.specs.Fields.{selected_region}
use Rattle.mmio_access.specs.Shown.{device_features, region_word}
use Rattle.mmio_v2.specs.Registers.{shows, bytes_shown}
use Rattle.mmio_v2.specs.Operation as op
use Rattle.mmio_v2.specs.Step.{operated}
use Rattle.mmio_claims.specs.Standard.{as_region, features, plain, Typed, reply_of, place_reads, read_parts}

-- ---- the pages of the feature bits

module _ (a b : ℕ) (ha : a < 2 ^ 32) (hb : b < 2 ^ 32) where
  page-0 : std.page (b * 2 ^ 32 + a) 0 ≡ a
  page-0 = omega arith

  page-1 : std.page (b * 2 ^ 32 + a) 1 ≡ b
  page-1 = omega arith

  page-more : (n : ℕ) → 2 ≤ n → std.page (b * 2 ^ 32 + a) n ≡ 0
  page-more n h =
      let z : (b * 2 ^ 32 + a) / 2 ^ 64 ≡ 0 = omega arith in
      let e : 64 + (32 * n - 64) ≡ 32 * n = omega arith in
      let q : (b * 2 ^ 32 + a) / 2 ^ (32 * n) ≡ 0 / 2 ^ (32 * n - 64) = ap (λ (i : ℕ). (b * 2 ^ 32 + a) / 2 ^ i) (sym e) ∙ sym (shr-shr (b * 2 ^ 32 + a) 64 (32 * n - 64)) ∙ ap (λ (x : ℕ). x / 2 ^ (32 * n - 64)) z in
      let l : 0 / 2 ^ (32 * n - 64) ≤ 0 = shr_le 0 (32 * n - 64) in
      let y : (b * 2 ^ 32 + a) / 2 ^ (32 * n) ≡ 0 = omega arith in
      ap (λ (x : ℕ). x % 2 ^ 32) y

pages : (s : State) → Typed s → device_features s ≡ std.page (features s) s.hot.page
pages s t = go (eqb s.hot.page 0) (eqb s.hot.page 1) refl refl
  where
    small : bit_or s.config.page1 1 < 2 ^ 32
    small = or_lt 32 s.config.page1 1 t.second (omega arith)

    go : (x y : Bool) → eqb s.hot.page 0 ≡ x → eqb s.hot.page 1 ≡ y
        → pick y (bit_or (pick x s.config.page0 (pick y s.config.page1 0)) 1) (pick x s.config.page0 (pick y s.config.page1 0)) ≡ std.page (features s) s.hot.page
    go true true e f = let p = eqb-true s.hot.page 0 e in let q = eqb-true s.hot.page 1 f in absurd (apart p q)
      where
        apart : s.hot.page ≡ 0 → s.hot.page ≡ 1 → ⊥
        apart p q = omega arith
    go true false e f = rw (eqb-true s.hot.page 0 e) (sym (page-0 s.config.page0 (bit_or s.config.page1 1) t.first small))
    go false true e f = rw (eqb-true s.hot.page 1 f) (sym (page-1 s.config.page0 (bit_or s.config.page1 1) t.first small))
    go false false e f = sym (page-more s.config.page0 (bit_or s.config.page1 1) t.first small s.hot.page (past (eqb-false s.hot.page 0 e) (eqb-false s.hot.page 1 f)))
      where
        past : (s.hot.page ≡ 0 → ⊥) → (s.hot.page ≡ 1 → ⊥) → 2 ≤ s.hot.page
        past x y = omega arith

-- ---- the selected region, there or not

module _ (l : ℕ) (g : ℕ → ℕ) where
  region-length : (o : Option Region) → region_word o (λ r. g r.length) ≡ std.of_region (as_region l o) g (as_region l o).length
  region-length None = refl
  region-length (Some r) = refl

  region-based : (o : Option Region) → region_word o (λ r. g (region_base r.offset l)) ≡ std.of_region (as_region l o) g (as_region l o).base
  region-based None = refl
  region-based (Some r) = refl

-- ---- each register

module _ (s : State) (t : Typed s) (f : ℕ → ℕ) (n : List ℕ) where
  pub register-reads : (r : ReadRegister) → read_parts s r ≡ false → bytes_shown (shows s r) ≡ reply_of (place_reads (plain s f n) (read_place r))
  register-reads R.MagicValue h = refl
  register-reads R.Version h = refl
  register-reads R.DeviceId h = refl
  register-reads R.VendorId h = refl
  register-reads R.DeviceFeature h = ap (bytes_of 4) (pages s t)
  register-reads R.QueueNumMax h = ap (bytes_of 4) (maximum (ltb s.hot.queue (queues_in s)) (get_or s.config.sizes s.hot.queue 0))
    where
      maximum : (b : Bool) (m : ℕ) → pick b m 0 ≡ pick b (pick b m 0) 0
      maximum true m = refl
      maximum false m = refl
  register-reads R.QueueReady h = refl
  register-reads R.QueueNotify h = rw h
  register-reads R.InterruptStatus h = rw h
  register-reads R.Status h = refl
  register-reads R.ShmLenLow h = ap (bytes_of 4) (region-length s.config.list low_word (selected_region s))
  register-reads R.ShmLenHigh h = ap (bytes_of 4) (region-length s.config.list high_word (selected_region s))
  register-reads R.ShmBaseLow h = ap (bytes_of 4) (region-based s.config.list low_word (selected_region s))
  register-reads R.ShmBaseHigh h = ap (bytes_of 4) (region-based s.config.list high_word (selected_region s))
  register-reads R.ConfigGeneration h = refl
  register-reads R.MsiCsr h = absurd (true≢false h)
  register-reads (R.Config m) h = refl
  register-reads R.Unknown h = refl

  -- the step's reply
  pub reads-as-standard : (k o l : ℕ) → read_parts s (read_at o l) ≡ false
      → (operated s (op.Read k o l)).reply ≡ reply_of (place_reads (plain s f n) (port_place Read o l))
  reads-as-standard k o l h = register-reads (read_at o l) h
