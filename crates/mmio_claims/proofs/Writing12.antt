-- THE CLAIM on writes: at every offset and length, on every real state, the write does what the standard's meaning of the
-- register does, but where `write_parts` says otherwise; and what an accepted reset has of the standard's.
use mathlib.Core.Bool.{Bool, true, false, not, ◌&&◌, true≢false}
use mathlib.Core.Path.{◌≡◌, refl, sym, ap, fun_ext, ◌∙◌}
use mathlib.Core.List.{List, [], ◌∷◌}
use Prim.Native.Nat.{ℕ, zero, suc, ◌%◌, ◌^◌, ◌<◌}
use native.Mathlib.Omega.{arith}
use borrow.Author.Tests.{eqb-true, eqb-false, ltb-true, not-true, not-false}
use lib.Bits.{bit_or, or_self}
use lib.Dec.{eqb, ltb}
use lib.ListN.{get_or, set, length}
use lib.Seq.{get_or-set_same, get_or-set_other}
use Rattle.std.proofs.lemmas.Bool.{and_parts}
use Rattle.words.specs.Pick.{pick}
use Rattle.words.specs.Bytes.{read_le}
use Rattle.words.specs.declared.Action.{Action}
use Rattle.virtq.specs.Fields.{fit, put, no_queue}
use Rattle.virtq.specs.declared.Queue.{Queue}
use Rattle.virtq.specs.declared.Field.{Field}
use Rattle.virtq.specs.declared.Field.TheVariants as F
use Rattle.tape.specs.Actions.{write_config}
use Rattle.tape.specs.Held.{held_after}
use Rattle.tape.specs.declared.Held.{Held}
use Rattle.activation.specs.Requests.{stops}
use Rattle.activation.proofs.Every.{Every, none, more, Kinds, every-start}
use Rattle.registers.specs.Registers.{write_at}
use Rattle.registers.specs.Virtio12 as std
use Rattle.registers.specs.Virtio12.{Plain, Ring}
use Rattle.registers.specs.Apart.{Write, field_place, write_place, port_place}
use Rattle.registers.specs.declared.WriteRegister.{WriteRegister}
use Rattle.registers.specs.declared.WriteRegister.TheVariants as W
use Rattle.registers.proofs.Meaning.{low-half-written, high-half-written}
use Rattle.mmio_hot.specs.Polled.{failed}
use Rattle.mmio_config.specs.Fresh.{fresh_queues}
use Rattle.mmio_tables.specs.Tables.{size_at, updated_at}
use Rattle.mmio_state.specs.State.{State, queues_in, with_queues}
use Rattle.mmio_state.specs.Activation.{wiped, settled, queues_valid, starting, starts_at, activating, stopping, resetting}
use Rattle.mmio_state.specs.Effect.{Effect, quiet}
use Rattle.mmio_ladder.specs.Ladder.{from, down_move, other_move, move_of}
use Rattle.mmio_ladder.specs.Climbing.{marking, laddered, moved}
use Rattle.mmio_ladder.specs.Statuses.{statuses, Real}
use Rattle.mmio_ladder.specs.declared.Move.{Move}
use Rattle.mmio_ladder.specs.declared.Move.TheVariants.{Take, Start, Reset, Stay, Fail}
use Rattle.mmio_ladder.proofs.Keeping as ladder
use Rattle.mmio_access.specs.Gates.{acks_open, config_open, fields_open}
use Rattle.mmio_access.specs.Changes.{field_updated}
use Rattle.mmio_v2.specs.Registers.{does}
use Rattle.mmio_v2.specs.Operation as op
use Rattle.mmio_v2.specs.Step.{operated}
use Rattle.mmio_claims.specs.Standard.{ring, ring_of, plain, Typed, place_writes, accepted_after, whole, lays, bits_set, write_parts}

-- ---- a queue's field

-- the standard's ring with these values, and with v written to the register of a field
abbrev with : Ring → (size ready desc driver device : ℕ) → Ring
with q n r d a u = record { available = q.available; maximum = q.maximum; size = n; ready = r; desc = d; driver = a; device = u }

abbrev layed : Ring → Field → (v : ℕ) → Ring
layed q F.Size v = with q v q.ready q.desc q.driver q.device
layed q F.Ready v = with q q.size v q.desc q.driver q.device
layed q F.DescLow v = with q q.size q.ready (std.low_written q.desc v) q.driver q.device
layed q F.DescHigh v = with q q.size q.ready (std.high_written q.desc v) q.driver q.device
layed q F.AvailLow v = with q q.size q.ready q.desc (std.low_written q.driver v) q.device
layed q F.AvailHigh v = with q q.size q.ready q.desc (std.high_written q.driver v) q.device
layed q F.UsedLow v = with q q.size q.ready q.desc q.driver (std.low_written q.device v)
layed q F.UsedHigh v = with q q.size q.ready q.desc q.driver (std.high_written q.device v)

module _ (m : ℕ) (q : Queue) (hd : q.desclow < 2 ^ 32) (ha : q.availlow < 2 ^ 32) (hu : q.usedlow < 2 ^ 32) where
  same : (g : Field) (v : ℕ) → whole g v ≡ true → ring true m (put q g v) ≡ layed (ring true m q) g v
  same F.Size v h = ap (λ (x : ℕ). with (ring true m q) x (ring true m q).ready (ring true m q).desc (ring true m q).driver (ring true m q).device) small
    where
      small : v % 65536 ≡ v
      small = omega (arith, ltb-true v 65536 h)
  same F.Ready v h = ap (λ (x : ℕ). with (ring true m q) (ring true m q).size x (ring true m q).desc (ring true m q).driver (ring true m q).device) (bit (eqb v 1) refl)
    where
      bit : (t : Bool) → eqb v 1 ≡ t → pick t 1 0 ≡ v
      bit true e = sym (eqb-true v 1 e)
      bit false e = below (ltb-true v 2 h) (eqb-false v 1 e)
        where
          below : v < 2 → (v ≡ 1 → ⊥) → 0 ≡ v
          below a b = omega arith
  same F.DescLow v h = ap (λ (x : ℕ). with (ring true m q) (ring true m q).size (ring true m q).ready x (ring true m q).driver (ring true m q).device) (sym (low-half-written q.desclow q.deschigh v hd))
  same F.DescHigh v h = ap (λ (x : ℕ). with (ring true m q) (ring true m q).size (ring true m q).ready x (ring true m q).driver (ring true m q).device) (sym (high-half-written q.desclow q.deschigh v hd))
  same F.AvailLow v h = ap (λ (x : ℕ). with (ring true m q) (ring true m q).size (ring true m q).ready (ring true m q).desc x (ring true m q).device) (sym (low-half-written q.availlow q.availhigh v ha))
  same F.AvailHigh v h = ap (λ (x : ℕ). with (ring true m q) (ring true m q).size (ring true m q).ready (ring true m q).desc x (ring true m q).device) (sym (high-half-written q.availlow q.availhigh v ha))
  same F.UsedLow v h = ap (λ (x : ℕ). with (ring true m q) (ring true m q).size (ring true m q).ready (ring true m q).desc (ring true m q).driver x) (sym (low-half-written q.usedlow q.usedhigh v hu))
  same F.UsedHigh v h = ap (λ (x : ℕ). with (ring true m q) (ring true m q).size (ring true m q).ready (ring true m q).desc (ring true m q).driver x) (sym (high-half-written q.usedlow q.usedhigh v hu))

-- the state's rings after it, one by one
module _ (s : State) (t : Typed s) (g : Field) (v : ℕ) (fits : whole g v ≡ true) (there : ltb s.hot.queue (queues_in s) ≡ true) where
  abbrev sel : ℕ
  sel = s.hot.queue

  abbrev new : Queue
  new = put (get_or s.queues sel no_queue) g v

  at-selected : ring_of (with_queues s (set s.queues sel new)) sel ≡ layed (ring_of s sel) g v
  at-selected = go (ltb sel (queues_in s)) there (get_or (set s.queues sel new) sel no_queue) got
    where
      long : sel < length s.queues
      long = omega (arith, ltb-true sel (queues_in s) there, t.sixteen)

      got : get_or (set s.queues sel new) sel no_queue ≡ new
      got = get_or-set_same s.queues sel new no_queue long

      go : (b : Bool) → b ≡ true → (x : Queue) → x ≡ new → ring b (size_at s.config.sizes sel (queues_in s)) x ≡ layed (ring b (size_at s.config.sizes sel (queues_in s)) (get_or s.queues sel no_queue)) g v
      go true e x d = ap (ring true (size_at s.config.sizes sel (queues_in s))) d ∙ same (size_at s.config.sizes sel (queues_in s)) (get_or s.queues sel no_queue) (t.desc sel) (t.driver sel) (t.device sel) g v fits
      go false e x d = absurd (true≢false (sym e))

  each-ring : (j : ℕ) → ring_of (with_queues s (set s.queues sel new)) j ≡ std.at (ring_of s) sel (layed (ring_of s sel) g v) j
  each-ring j = go (eqb j sel) refl
    where
      go : (b : Bool) → eqb j sel ≡ b → ring_of (with_queues s (set s.queues sel new)) j ≡ pick b (layed (ring_of s sel) g v) (ring_of s j)
      go true e = rw (eqb-true j sel e) at-selected
      go false e = ap (ring (ltb j (queues_in s)) (size_at s.config.sizes j (queues_in s))) (get_or-set_other s.queues sel j new no_queue (eqb-false j sel e))

-- the state in the standard's terms, with these rings; and with this status
abbrev ringed : State → (ℕ → ℕ) → List ℕ → (ℕ → Ring) → Plain
ringed s f n rs = std.marking (plain s f n) f n s.hot.interrupts s.hot.status rs

abbrev statused : State → (ℕ → ℕ) → List ℕ → (status : ℕ) → Plain
statused s f n x = std.marking (plain s f n) f n s.hot.interrupts x (ring_of s)

module _ (s : State) (t : Typed s) (f : ℕ → ℕ) (n : List ℕ) where
  field-writes : (g : Field) (v : ℕ) → lays s g v ≡ true → plain (field_updated s g v) f n ≡ place_writes (plain s f n) (field_place g) v
  field-writes g v h =
      let a = and_parts (fields_open s.hot.status) _ h in
      let b = and_parts (ltb s.hot.queue (queues_in s)) _ a.1 in
      let c = and_parts (fit (get_or s.config.sizes s.hot.queue 0) g v) (whole g v) b.1 in
      ap (λ (qs : List Queue). plain (with_queues s qs) f n) (counted a.0 b.0 c.0)
      ∙ go g (ap (ringed s f n) (fun_ext (each-ring s t g v c.1 b.0)))
    where
      counted : fields_open s.hot.status ≡ true → ltb s.hot.queue (queues_in s) ≡ true → fit (get_or s.config.sizes s.hot.queue 0) g v ≡ true
          → pick (fields_open s.hot.status) (updated_at s.queues s.config.sizes s.hot.queue (queues_in s) g v) s.queues
          ≡ set s.queues s.hot.queue (put (get_or s.queues s.hot.queue no_queue) g v)
      counted o w i = rw (o, w, i)

      go : {p : Plain} (x : Field) → p ≡ ringed s f n (std.at (ring_of s) s.hot.queue (layed (ring_of s s.hot.queue) x v)) → p ≡ place_writes (plain s f n) (field_place x) v
      go F.Size e = e
      go F.Ready e = e
      go F.DescLow e = e
      go F.DescHigh e = e
      go F.AvailLow e = e
      go F.AvailHigh e = e
      go F.UsedLow e = e
      go F.UsedHigh e = e

-- ---- the status

-- what is known of the value written, where a move is met
abbrev Asked : (v status : ℕ) → Move → Type 0
Asked v status (Take w) = (v ≡ w) × ((bit_or status w ≡ w) × (eqb w 0 ≡ false))
Asked v status Start = (v ≡ 0xf) × (bit_or status 0xf ≡ 0xf)
Asked v status Reset = Unit {0}
Asked v status Stay = eqb v 0 ≡ false → v ≡ status
Asked v status Fail = Unit {0}

module _ (v status : ℕ) (active : Bool) where
  climbs : (b : ℕ) (m : Move) → (status ≡ b → Asked v status m) → Asked v status (from b status m)
  climbs b m h = go (eqb status b) refl
    where
      go : (t : Bool) → eqb status b ≡ t → Asked v status (pick t m Fail)
      go true e = h (eqb-true status b e)
      go false e = tt

  sinks : eqb v 0x0 ≡ true → Asked v status (down_move status active)
  sinks e = go (eqb status 0x0) active
    where
      go : (t a : Bool) → Asked v status (pick t Stay (pick a Reset Fail))
      go true a = λ f. absurd (true≢false (sym e ∙ f))
      go false true = tt
      go false false = tt

  stays : Asked v status (other_move v status)
  stays = go (eqb v status) refl
    where
      go : (t : Bool) → eqb v status ≡ t → Asked v status (pick t Stay Fail)
      go true e = λ f. eqb-true v status e
      go false e = tt

  asked : Asked v status (move_of v status active)
  asked = go (eqb v 0x1) (eqb v 0x3) (eqb v 0xb) (eqb v 0xf) (eqb v 0x0) refl refl refl refl refl
    where
      go : (a b c d e : Bool) → eqb v 0x1 ≡ a → eqb v 0x3 ≡ b → eqb v 0xb ≡ c → eqb v 0xf ≡ d → eqb v 0x0 ≡ e
          → Asked v status (pick a (from 0x0 status (Take 0x1)) (pick b (from 0x1 status (Take 0x3)) (pick c (from 0x3 status (Take 0xb)) (pick d (from 0xb status Start) (pick e (down_move status active) (other_move v status))))))
      go true b c d e i j k l m = climbs 0x0 (Take 0x1) (λ x. (eqb-true v 0x1 i, (rw x, refl)))
      go false true c d e i j k l m = climbs 0x1 (Take 0x3) (λ x. (eqb-true v 0x3 j, (rw x, refl)))
      go false false true d e i j k l m = climbs 0x3 (Take 0xb) (λ x. (eqb-true v 0xb k, (rw x, refl)))
      go false false false true e i j k l m = climbs 0xb Start (λ x. (eqb-true v 0xf l, rw x))
      go false false false false true i j k l m = sinks m
      go false false false false false i j k l m = stays

-- no record of a start passes features on
silent : (b n : ℕ) → Kinds (λ (x : Action). eqb x.kind 11 ≡ false) b n
silent b n =
    record {
      bell-on = λ q h. refl;
      note-on = λ q h. refl;
      bell-off = λ q. refl;
      note-off = λ q. refl;
      missing = λ q a v. refl;
      enabling = refl;
      activating = refl;
      resetting = refl;
      shutting = refl;
    }

unpassed : (xs : List Action) (f : ℕ → ℕ) → Every (λ (x : Action). eqb x.kind 11 ≡ false) xs → accepted_after xs f ≡ f
unpassed [] f none = refl
unpassed (x ∷ xs) f (more e m) = rw e (unpassed xs f m)

module _ (s : State) (r : Real s) (f : ℕ → ℕ) (n : List ℕ) where
  -- the status set by the bits written, and nothing else
  abbrev Marks : (v : ℕ) → Effect → Type 0
  Marks v e = plain e.state (accepted_after e.actions f) n ≡ std.status_written (plain s f n) v

  marks : (v x : ℕ) → eqb v 0 ≡ false → bit_or s.hot.status v ≡ x → statused s f n x ≡ std.status_written (plain s f n) v
  marks v x e h = rw (e, h)

  start-marks : (k v : ℕ) → v ≡ 0xf → bit_or s.hot.status 0xf ≡ 0xf → (s.flags.active ≡ true → ⊥) → (activating s k).ok ≡ true → Marks v (laddered s k Start)
  unfolding starting
  start-marks k v e h idle ok = go s.flags.active (starts_at s k) (held_after s.config.base s.held k (starting s k)) (starting s k) idle ok (unpassed (starting s k) f (every-start (silent s.config.base (queues_in s)) s.hot.doorbell (queues_valid s) k))
    where
      go : (a b : Bool) (hs : List Held) (xs : List Action) → (a ≡ true → ⊥) → (pick a (quiet s true) (record { state = settled s b hs; ok = b; actions = xs })).ok ≡ true → accepted_after xs f ≡ f
          → Marks v (marking (pick a (quiet s true) (record { state = settled s b hs; ok = b; actions = xs })) (pick (pick a (quiet s true) (record { state = settled s b hs; ok = b; actions = xs })).ok 0xf 0x8f))
      go true b hs xs i o u = absurd (i refl)
      go false false hs xs i o u = absurd (true≢false (sym o))
      go false true hs xs i o u = ap (λ (y : ℕ → ℕ). statused s y n 0xf) u ∙ marks v 0xf (rw e) (rw e h)

  -- FAILED set is a status above this one, and not zero
  failed-above : (bit_or s.hot.status (failed s.hot.status) ≡ failed s.hot.status) × (eqb (failed s.hot.status) 0 ≡ false)
  failed-above =
      let p = and_parts _ _ (ladder.passed (λ (x : ℕ). eqb (bit_or x (failed x)) (failed x) && not (eqb (failed x) 0)) s.hot.status statuses refl r.status) in
      (eqb-true _ _ p.0, not-true _ p.1)

  fail-marks : (v : ℕ) → eqb v (failed s.hot.status) ≡ true → statused s f n (failed s.hot.status) ≡ std.status_written (plain s f n) v
  fail-marks v h = let e = eqb-true v (failed s.hot.status) h in marks v (failed s.hot.status) (rw e failed-above.1) (rw e failed-above.0)

  status-writes : (v k : ℕ) → (m : Move) → move_of v s.hot.status s.flags.active ≡ m → Asked v s.hot.status m → bits_set v s.hot.status m (moved s k m).ok ≡ true
      → Marks v (laddered s k m)
  status-writes v k (Take w) e a h = marks v w (rw a.0 a.1.1) (rw a.0 a.1.0)
  status-writes v k Start e a h = start-marks k v a.0 a.1 (ladder.starts-idle s r v e) h
  status-writes v k Reset e a h = absurd (true≢false (sym h))
  status-writes v k Stay e a h =
      let z : eqb v 0 ≡ false = not-true (eqb v 0) h in
      marks v s.hot.status z (rw (a z) (or_self s.hot.status))
  status-writes v k Fail e a h = fail-marks v h

-- ---- each register

module _ (s : State) (r : Real s) (t : Typed s) (f : ℕ → ℕ) (n : List ℕ) where
  untold : (b : Bool) (x : Action) → eqb x.kind 11 ≡ false → accepted_after (pick b (x ∷ []) []) f ≡ f
  untold true x e = rw e
  untold false x e = refl

  pub register-writes : (v h l k : ℕ) (x : WriteRegister) → write_parts s v k x ≡ false
      → plain (does s v h l k x).state (accepted_after (does s v h l k x).actions f) n ≡ place_writes (plain s f n) (write_place x) v
  register-writes v h l k W.DeviceFeatureSel e = refl
  register-writes v h l k W.DriverFeature e = rw (not-false (acks_open s.hot.status) e)
  register-writes v h l k W.DriverFeatureSel e = refl
  register-writes v h l k W.QueueSel e = refl
  register-writes v h l k (W.QueueField g) e = field-writes s t f n g v (not-false (lays s g v) e)
  register-writes v h l k W.InterruptAck e = refl
  register-writes v h l k W.Status e =
      status-writes s r f n v k (move_of v s.hot.status s.flags.active) refl (asked v s.hot.status s.flags.active) (not-false _ e)
  register-writes v h l k W.ShmSel e = refl
  register-writes v h l k W.MsiAddressLow e = refl
  register-writes v h l k W.MsiAddressHigh e = refl
  register-writes v h l k W.MsiData e = refl
  register-writes v h l k W.MsiCsr e = absurd (true≢false e)
  register-writes v h l k W.MsiCommand e = absurd (true≢false e)
  register-writes v h l k (W.Config m) e = ap (λ (g : ℕ → ℕ). plain s g n) (untold (config_open s.hot.status) (write_config m l) refl)
  register-writes v h l k W.Unknown e = refl

  -- the step's effect, of the word written
  pub writes-as-standard : (k o : ℕ) (bs : List ℕ) → write_parts s (read_le 4 bs) k (write_at o (length bs)) ≡ false
      → plain (operated s (op.Write k o bs)).state (accepted_after (operated s (op.Write k o bs)).actions f) n
      ≡ place_writes (plain s f n) (port_place Write o (length bs)) (read_le 4 bs)
  writes-as-standard k o bs h = register-writes (read_le 4 bs) (read_le 2 bs) (length bs) k (write_at o (length bs)) h

-- ---- an accepted reset

fresh-unready : (sizes : List ℕ) (q : ℕ) → (get_or (fresh_queues sizes) q no_queue).ready ≡ false
fresh-unready [] q = refl
fresh-unready (m ∷ ms) zero = refl
fresh-unready (m ∷ ms) (suc q) = fresh-unready ms q

-- "status 0 if it was 0xf", and no queue is ready: as the standard's reset. InterruptStatus stays, which is a difference.
pub reset-as-standard : (s : State) (k : ℕ) (f : ℕ → ℕ) (n : List ℕ) → s.hot.status ≡ 0xf → (resetting s k).ok ≡ true
    → ((plain (laddered s k Reset).state f n).status ≡ (std.reset (plain s f n)).status)
    × ((q : ℕ) → ((plain (laddered s k Reset).state f n).rings q).ready ≡ ((std.reset (plain s f n)).rings q).ready)
reset-as-standard s k f n e ok = (rw (ok, e), λ q. go (stops s.flags.active k) ok (held_after s.config.base s.held k (stopping s k)) q)
  where
    unready : (b : Bool) (x : Bool) → x ≡ false → ◌≡◌ {A = ℕ} (pick b (pick x 1 0) 0) 0
    unready true x h = rw h
    unready false x h = refl

    go : (b : Bool) → b ≡ true → (hs : List Held) (q : ℕ) → (ring_of (pick b (wiped s hs) s) q).ready ≡ 0
    go true h hs q = unready (ltb q (queues_in s)) (get_or (fresh_queues s.config.sizes) q no_queue).ready (fresh-unready s.config.sizes q)
    go false h hs q = absurd (true≢false (sym h))
