-- The device follows the rules by which its log is read: each operation changes what is known, and the queues, as the
-- reading says.
use mathlib.Core.Bool.{Bool, true, false, not, ◌&&◌, true≢false}
use mathlib.Core.Path.{◌≡◌, refl, sym, ap, fun_ext, ◌∙◌}
use mathlib.Core.List.{List, [], ◌∷◌}
use Prim.Native.Nat.{ℕ, zero, suc, ◌+◌, ◌≤◌, ◌<◌}
use native.Mathlib.Omega.{arith}
use borrow.Author.Tests.{lt-ltb}
use lib.Dec.{eqb, ltb}
use lib.ListN.{length, get_or, set}
use Rattle.words.specs.Pick.{pick}
use Rattle.words.specs.Bytes.{read_le}
use Rattle.words.proofs.Lists.{length-each}
use Rattle.virtq.specs.Index.{max_queues}
use Rattle.virtq.specs.Fields.{fit, put, updated, field_of, fields_of, fresh_queue, no_queue}
use Rattle.virtq.specs.Valid.{valid, scanned}
use Rattle.virtq.specs.Events.{Holds, Set, Wipe, first, apply_all}
use Rattle.virtq.specs.declared.Queue.{Queue}
use Rattle.virtq.specs.declared.Field.{Field}
use Rattle.virtq.specs.declared.Field.TheVariants as F
use Rattle.virtq.specs.declared.Memory.{Memory}
use Rattle.std.specs.Prelude.{Option, Some}
use Rattle.virtq.specs.declared.QueueIndex.{QueueIndex}
use Rattle.tape.specs.Held.{held_after}
use Rattle.tape.specs.declared.Held.{Held}
use Rattle.activation.specs.Requests.{begins, stops}
use Rattle.registers.specs.Registers.{write_at}
use Rattle.registers.specs.declared.WriteRegister.{WriteRegister}
use Rattle.registers.specs.declared.WriteRegister.TheVariants as W
use Rattle.mmio_hot.specs.Polled.{failed}
use Rattle.mmio_hot.specs.Commands.{csr_of, command_at}
use Rattle.mmio_hot.specs.declared.Csr.{Csr}
use Rattle.mmio_hot.specs.declared.Command.{Command}
use Rattle.mmio_hot.specs.declared.Command.TheVariants.{Update, Mask, Unmask, Other}
use Rattle.mmio_config.specs.Fresh.{queue_count, maxima, accepted, fresh_queues, maximum_at}
use Rattle.mmio_config.specs.declared.Config.{Config}
use Rattle.mmio_config.specs.declared.Configuration.{Configuration}
use Rattle.mmio_tables.specs.Tables.{none_found, valid_all}
use Rattle.mmio_state.specs.State.{State, queues_in, failed_state}
use Rattle.mmio_state.specs.Effect.{quiet}
use Rattle.mmio_state.specs.Activation.{wiped, settled, starting, starts_at, stopping}
use Rattle.mmio_state.specs.Fresh.{fresh_state}
use Rattle.mmio_msi.specs.Messages as device
use Rattle.mmio_ladder.specs.Ladder.{move_of, status_after}
use Rattle.mmio_ladder.specs.Climbing.{marking, laddered}
use Rattle.mmio_ladder.specs.Statuses.{Real}
use Rattle.mmio_ladder.specs.declared.Move.{Move}
use Rattle.mmio_ladder.specs.declared.Move.TheVariants.{Take, Start, Reset, Stay, Fail}
use Rattle.mmio_ladder.proofs.Keeping.{starts-idle}
use Rattle.mmio_access.specs.Gates.{fields_open}
use Rattle.mmio_v2.specs.Fresh.{refusal}
use Rattle.mmio_v2.specs.Operation.{Operation, Read, Write, Raise}
use Rattle.mmio_v2.specs.Registers.{does}
use Rattle.mmio_claims.proofs.Keeping.{operated-real, fresh-real}
use Rattle.runs.specs.Runs.{Follows, Begins}
use Rattle.history.specs.Log.{Known, know, fresh_field, activates, accepts, wipes_at, moved_on, mode_set, commanded, known_after, events_of, rules, fresh}
use Rattle.history.specs.Run.{next}

-- what is known of a state
abbrev pub known_of : State → Known
known_of s = know s.hot.status s.flags.active s.hot.queue s.hot.doorbell s.hot.msi

-- the states of a run: real, and of this configuration
pub record Kind (c : Configuration) (s : State) : Type 0 where
  pub configured : s.config ≡ accepted c
  pub real : Real s

-- ---- the configuration stays

started-config : (s : State) (k : ℕ) (m : Move) → (laddered s k m).state.config ≡ s.config
started-config s k (Take v) = refl
started-config s k Start = go s.flags.active (starts_at s k)
  where
    inner : (b : Bool) → (settled s b (held_after s.config.base s.held k (starting s k))).config ≡ s.config
    inner true = refl
    inner false = refl

    go : (a b : Bool) → (pick a (quiet s true) (record { state = settled s b (held_after s.config.base s.held k (starting s k)); ok = b; actions = starting s k })).state.config ≡ s.config
    go true b = refl
    go false b = inner b
started-config s k Reset = go (stops s.flags.active k)
  where
    go : (b : Bool) → (pick b (wiped s (held_after s.config.base s.held k (stopping s k))) s).config ≡ s.config
    go true = refl
    go false = refl
started-config s k Stay = refl
started-config s k Fail = refl

does-config : (s : State) (v h l k : ℕ) (x : WriteRegister) → (does s v h l k x).state.config ≡ s.config
does-config s v h l k W.DeviceFeatureSel = refl
does-config s v h l k W.DriverFeature = refl
does-config s v h l k W.DriverFeatureSel = refl
does-config s v h l k W.QueueSel = refl
does-config s v h l k (W.QueueField f) = refl
does-config s v h l k W.InterruptAck = refl
does-config s v h l k W.Status = started-config s k (move_of v s.hot.status s.flags.active)
does-config s v h l k W.ShmSel = refl
does-config s v h l k W.MsiAddressLow = refl
does-config s v h l k W.MsiAddressHigh = refl
does-config s v h l k W.MsiData = refl
does-config s v h l k W.MsiCsr = go (csr_of s.hot.status h s.hot.msi)
  where
    by : (b m : Bool) → (pick b (failed_state s) (device.turned s m)).config ≡ s.config
    by true m = refl
    by false m = refl

    go : (x : Csr) → (device.controlled s k x).state.config ≡ s.config
    go Csr.Locked = refl
    go Csr.Stay = refl
    go (Csr.Turn m) = by (eqb k 0) m
does-config s v h l k W.MsiCommand = go (command_at h)
  where
    go : (x : Command) → (device.commanded s k x).state.config ≡ s.config
    go (Update w) = refl
    go (Mask w) = refl
    go (Unmask w) = refl
    go Other = refl
does-config s v h l k (W.Config n) = refl
does-config s v h l k W.Unknown = refl

-- ---- the scan looks at no queue past the count

scan-same : (m : Memory) (g h : Holds) (i n : ℕ) → ((j : ℕ) → i ≤ j → j < i + n → g j ≡ h j) → scanned m g i n ≡ scanned m h i n
unfolding scanned
scan-same m g h i zero e = refl
scan-same m g h i (suc n) e =
    ap (λ (f : Field → ℕ). pick (valid m f) (scanned m g (i + 1) n) (Some (record { 0 = i }))) (e i (omega arith) (omega arith))
    ∙ ap (λ (x : Option QueueIndex). pick (valid m (h i)) x (Some (record { 0 = i }))) (scan-same m g h (i + 1) n (λ j a b. e j (omega arith) (omega arith)))

scan-first : (m : Memory) (g : Holds) (n : ℕ) → scanned m g 0 n ≡ scanned m (first n g) 0 n
scan-first m g n = scan-same m g (first n g) 0 n (λ j a b. fun_ext (λ f. here j f b))
  where
    here : (j : ℕ) (f : Field) → j < 0 + n → g j f ≡ pick (ltb j n) (g j f) 0
    here j f h = rw (lt-ltb j n (omega arith))

-- a place stored as it was
set_back {ℓ} : {A : Type ℓ} (xs : List A) (i : ℕ) (d : A) → set xs i (get_or xs i d) ≡ xs
set_back [] i d = refl
set_back (x ∷ xs) zero d = refl
set_back (x ∷ xs) (suc i) d = ap (λ ys. x ∷ ys) (set_back xs i d)

-- ---- one operation, on a state of the configuration c

module _ (c : Configuration) (s : State) (p : Kind c s) where
  abbrev held : Holds
  held = first (queue_count c) (fields_of s.queues)

  pub counted-all : queues_in s ≡ queue_count c
  counted-all =
      let e : s.config.count ≡ queue_count c = ap (λ (x : Config). x.count) p.configured in
      omega (arith, p.real.sound.few)

  sizes-are : s.config.sizes ≡ maxima c
  sizes-are = ap (λ (x : Config). x.sizes) p.configured

  starts-read : (k : ℕ) → starts_at s k ≡ activates c (known_of s) held k
  unfolding starts_at valid_all
  starts-read k =
      let m : s.config.memory ≡ record { length = c.memory } = ap (λ (x : Config). x.memory) p.configured in
      ap (λ (n : ℕ). begins s.hot.doorbell n (none_found (scanned s.config.memory (fields_of s.queues) 0 n)) k) counted-all
      ∙ ap (λ (y : Memory). begins s.hot.doorbell (queue_count c) (none_found (scanned y (fields_of s.queues) 0 (queue_count c))) k) m
      ∙ ap (λ (x : Option QueueIndex). begins s.hot.doorbell (queue_count c) (none_found x) k) (scan-first (record { length = c.memory }) (fields_of s.queues) (queue_count c))

  -- a move: what is known after it, and the queues
  record Moved (k : ℕ) (m : Move) : Type 0 where
    known : known_of (laddered s k m).state ≡ moved_on (known_of s) m (accepts c (known_of s) held k m)
    queues : (laddered s k m).state.queues ≡ apply_all (fresh_queues (maxima c)) (pick (wipes_at m (accepts c (known_of s) held k m)) (Wipe ∷ []) []) s.queues

  start-moved : (k : ℕ) → (s.flags.active ≡ true → ⊥) → Moved k Start
  start-moved k idle = record { known = knows s.flags.active idle (starts_at s k) _ (starts-read k); queues = holds s.flags.active idle (starts_at s k) _ (starts-read k) }
    where
      hs : List Held
      hs = held_after s.config.base s.held k (starting s k)

      knows : (a : Bool) → (a ≡ true → ⊥) → (b d : Bool) → b ≡ d
          → known_of (marking (pick a (quiet s true) (record { state = settled s b hs; ok = b; actions = starting s k })) (status_after Start s.hot.status (pick a (quiet s true) (record { state = settled s b hs; ok = b; actions = starting s k })).ok)).state ≡ moved_on (known_of s) Start d
      knows true i b d e = absurd (i refl)
      knows false i true true e = refl
      knows false i true false e = absurd (true≢false e)
      knows false i false true e = absurd (true≢false (sym e))
      knows false i false false e = refl

      holds : (a : Bool) → (a ≡ true → ⊥) → (b d : Bool) → b ≡ d
          → (pick a (quiet s true) (record { state = settled s b hs; ok = b; actions = starting s k })).state.queues ≡ apply_all (fresh_queues (maxima c)) (pick (not d) (Wipe ∷ []) []) s.queues
      holds true i b d e = absurd (i refl)
      holds false i true true e = refl
      holds false i true false e = absurd (true≢false e)
      holds false i false true e = absurd (true≢false (sym e))
      holds false i false false e = ap fresh_queues sizes-are

  reset-moved : (k : ℕ) → Moved k Reset
  reset-moved k = record { known = knows (stops s.flags.active k); queues = holds (stops s.flags.active k) }
    where
      hs : List Held
      hs = held_after s.config.base s.held k (stopping s k)

      knows : (b : Bool) → known_of (marking (record { state = pick b (wiped s hs) s; ok = b; actions = stopping s k }) (status_after Reset s.hot.status b)).state ≡ moved_on (known_of s) Reset b
      knows true = refl
      knows false = refl

      holds : (b : Bool) → (pick b (wiped s hs) s).queues ≡ apply_all (fresh_queues (maxima c)) (pick b (Wipe ∷ []) []) s.queues
      holds true = ap fresh_queues sizes-are
      holds false = refl

  moved : (v k : ℕ) → Moved k (move_of v s.hot.status s.flags.active)
  moved v k = go (move_of v s.hot.status s.flags.active) refl
    where
      go : (m : Move) → move_of v s.hot.status s.flags.active ≡ m → Moved k m
      go (Take w) e = record { known = refl; queues = refl }
      go Start e = start-moved k (starts-idle s p.real v e)
      go Reset e = reset-moved k
      go Stay e = record { known = refl; queues = refl }
      go Fail e = record { known = refl; queues = refl }

  does-known : (v h l k : ℕ) (x : WriteRegister) → known_of (does s v h l k x).state ≡ known_after c (known_of s) held v h k x
  does-known v h l k W.DeviceFeatureSel = refl
  does-known v h l k W.DriverFeature = refl
  does-known v h l k W.DriverFeatureSel = refl
  does-known v h l k W.QueueSel = refl
  does-known v h l k (W.QueueField f) = refl
  does-known v h l k W.InterruptAck = refl
  does-known v h l k W.Status = (moved v k).known
  does-known v h l k W.ShmSel = refl
  does-known v h l k W.MsiAddressLow = refl
  does-known v h l k W.MsiAddressHigh = refl
  does-known v h l k W.MsiData = refl
  does-known v h l k W.MsiCsr = go (csr_of s.hot.status h s.hot.msi)
    where
      by : (b m : Bool) → known_of (pick b (failed_state s) (device.turned s m)) ≡ know (pick b (failed s.hot.status) s.hot.status) s.flags.active s.hot.queue s.hot.doorbell (pick b s.hot.msi m)
      by true m = refl
      by false m = refl

      go : (x : Csr) → known_of (device.controlled s k x).state ≡ mode_set (known_of s) k x
      go Csr.Locked = refl
      go Csr.Stay = refl
      go (Csr.Turn m) = by (eqb k 0) m
  does-known v h l k W.MsiCommand = go (command_at h)
    where
      go : (x : Command) → known_of (device.commanded s k x).state ≡ commanded (known_of s) x
      go (Update w) = refl
      go (Mask w) = refl
      go (Unmask w) = refl
      go Other = refl
  does-known v h l k (W.Config n) = refl
  does-known v h l k W.Unknown = refl

  -- a field's write, and what it leaves where it does not count
  field-queues : (f : Field) (v : ℕ) → (does s v 0 4 0 (W.QueueField f)).state.queues ≡ apply_all (fresh_queues (maxima c)) (events_of c (known_of s) held v 0 (W.QueueField f)) s.queues
  field-queues f v =
      ap (λ (n : ℕ). pick (fields_open s.hot.status) (pick (ltb s.hot.queue n) (set s.queues s.hot.queue (updated (get_or s.config.sizes s.hot.queue 0) (get_or s.queues s.hot.queue no_queue) f v)) s.queues) s.queues) counted-all
      ∙ ap (λ (z : List ℕ). pick (fields_open s.hot.status) (pick (ltb s.hot.queue (queue_count c)) (set s.queues s.hot.queue (updated (get_or z s.hot.queue 0) (get_or s.queues s.hot.queue no_queue) f v)) s.queues) s.queues) sizes-are
      ∙ go (fields_open s.hot.status) (ltb s.hot.queue (queue_count c)) (fit (get_or (maxima c) s.hot.queue 0) f v)
    where
      go : (a b d : Bool) → pick a (pick b (set s.queues s.hot.queue (pick d (put (get_or s.queues s.hot.queue no_queue) f v) (get_or s.queues s.hot.queue no_queue))) s.queues) s.queues
          ≡ apply_all (fresh_queues (maxima c)) (pick (a && (b && d)) (Set s.hot.queue f v ∷ []) []) s.queues
      go true true true = refl
      go true true false = set_back s.queues s.hot.queue no_queue
      go true false d = refl
      go false b d = refl

  pub does-queues : (v h l k : ℕ) (x : WriteRegister) → (does s v h l k x).state.queues ≡ apply_all (fresh_queues (maxima c)) (events_of c (known_of s) held v k x) s.queues
  does-queues v h l k W.DeviceFeatureSel = refl
  does-queues v h l k W.DriverFeature = refl
  does-queues v h l k W.DriverFeatureSel = refl
  does-queues v h l k W.QueueSel = refl
  does-queues v h l k (W.QueueField f) = field-queues f v
  does-queues v h l k W.InterruptAck = refl
  does-queues v h l k W.Status = (moved v k).queues
  does-queues v h l k W.ShmSel = refl
  does-queues v h l k W.MsiAddressLow = refl
  does-queues v h l k W.MsiAddressHigh = refl
  does-queues v h l k W.MsiData = refl
  does-queues v h l k W.MsiCsr = go (csr_of s.hot.status h s.hot.msi)
    where
      by : (b m : Bool) → (pick b (failed_state s) (device.turned s m)).queues ≡ s.queues
      by true m = refl
      by false m = refl

      go : (x : Csr) → (device.controlled s k x).state.queues ≡ s.queues
      go Csr.Locked = refl
      go Csr.Stay = refl
      go (Csr.Turn m) = by (eqb k 0) m
  does-queues v h l k W.MsiCommand = go (command_at h)
    where
      go : (x : Command) → (device.commanded s k x).state.queues ≡ s.queues
      go (Update w) = refl
      go (Mask w) = refl
      go (Unmask w) = refl
      go Other = refl
  does-queues v h l k (W.Config n) = refl
  does-queues v h l k W.Unknown = refl

  -- each operation: what is known after it, and the queues
  next_known : (op : Operation) → known_of (next s op) ≡ (rules c).known (known_of s) held op
  next_known (Read k o l) = refl
  next_known (Write k o bs) = does-known (read_le 4 bs) (read_le 2 bs) (length bs) k (write_at o (length bs))
  next_known (Raise b) = refl

  next-queues : (op : Operation) → (next s op).queues ≡ apply_all (fresh_queues (maxima c)) ((rules c).events (known_of s) held op) s.queues
  next-queues (Read k o l) = refl
  next-queues (Write k o bs) = does-queues (read_le 4 bs) (read_le 2 bs) (length bs) k (write_at o (length bs))
  next-queues (Raise b) = refl

pub next-config : (s : State) (op : Operation) → (next s op).config ≡ s.config
next-config s (Read k o l) = refl
next-config s (Write k o bs) = does-config s (read_le 4 bs) (read_le 2 bs) (length bs) k (write_at o (length bs))
next-config s (Raise b) = refl

-- ---- the rules are followed

fresh-queue : (sizes : List ℕ) (q : ℕ) → get_or (fresh_queues sizes) q no_queue ≡ fresh_queue (get_or sizes q 0)
fresh-queue [] q = refl
fresh-queue (m ∷ ms) zero = refl
fresh-queue (m ∷ ms) (suc q) = fresh-queue ms q

-- what the type of the configuration's sizes says: there are sixteen
module _ (c : Configuration) (made : refusal c ≡ 0) (sixteen : length c.sizes ≡ max_queues) where
  fresh-fields : (q : ℕ) (f : Field) → fields_of (fresh_queues (maxima c)) q f ≡ fresh_field c q f
  fresh-fields q f = ap (λ (x : Queue). field_of x f) (fresh-queue (maxima c) q) ∙ each-field f
    where
      each-field : (g : Field) → field_of (fresh_queue (get_or (maxima c) q 0)) g ≡ fresh_field c q g
      each-field F.Size = refl
      each-field F.Ready = refl
      each-field F.DescLow = refl
      each-field F.DescHigh = refl
      each-field F.AvailLow = refl
      each-field F.AvailHigh = refl
      each-field F.UsedLow = refl
      each-field F.UsedHigh = refl

  room : queue_count c ≤ length (fresh_queues (maxima c))
  room =
      let a : length (fresh_queues (maxima c)) ≡ length (maxima c) = length-each (λ (i m : ℕ). fresh_queue m) (maxima c) in
      let b : length (maxima c) ≡ length c.sizes = length-each (maximum_at c.dataqueues c.control) c.sizes in
      omega (arith, (fresh-real c made).sound.few)

  pub follows : Follows (rules c) next (Kind c) known_of (λ (s : State). s.queues) (fresh_queues (maxima c))
  follows =
      record {
        stays = λ s op p. record { configured = next-config s op ∙ p.configured; real = operated-real s p.real op };
        known_next = λ s op p. next_known c s p op;
        queues-next = λ s op p. next-queues c s p op;
        wiped-fresh = fresh-fields;
        enough = room;
      }

  pub starts : Begins (fresh c) (Kind c) known_of (λ (s : State). s.queues) (fresh_queues (maxima c)) (fresh_state c)
  starts =
      record {
        kind = record { configured = refl; real = fresh-real c made };
        knows_start = refl;
        holds-start = fresh-fields;
        as_long = refl;
      }
