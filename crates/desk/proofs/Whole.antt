-- All records of a good trace, with the heading and the end.
use mathlib.Core.Bool.{Bool, true, false, true≢false}
use mathlib.Core.Path.{◌≡◌, refl, ap, ap₂, sym, ◌∙◌}
use mathlib.Core.List.{List, ◌++◌}
use Prim.Native.Nat.{ℕ, ◌+◌, ◌*◌, ◌-◌, ◌≤◌, ◌<◌}
use native.Mathlib.Omega.{arith}
use borrow.Author.Tests.{eqb-true, eqb-false, ne_eqb, le-leb, lt-leb}
use lib.Dec.{eqb}
use lib.ListN.{length}
use Rattle.words.specs.Actions.{Emitted}
use Rattle.words.proofs.Actions as emitted
use Rattle.mmio_state.specs.State.{State}
use Rattle.mmio_state.specs.Fresh.{fresh_state, no_state}
use Rattle.mmio_config.specs.declared.Configuration.{Configuration}
use Rattle.mmio_v2.specs.Fresh.{device, refusal, made_device}
use Rattle.mmio_v2.specs.declared.MmioV2Device.{MmioV2Device}
use Rattle.runs.specs.Runs.{run_from}
use Rattle.history.specs.Run.{next, run}
use Rattle.text.specs.Lines.{heading_line, end_line, bad_line}
use Rattle.text.specs.Page.{Prints, PrintsLine}
use Rattle.text.specs.declared.Page.{Page}
use Rattle.text.proofs.Pages.{then, worded, within, roomed}
use Rattle.text.proofs.Pieces.{room-left}
use Rattle.trace.specs.Block.{block_at}
use Rattle.trace.specs.Verdict.{count, counted, verdict_of, Good}
use Rattle.trace.proofs.Judging.{good-accepted}
use Rattle.play.specs.Log.{log_from, records_of}
use Rattle.play.specs.Text.{log_text, replay_text}
use Rattle.play.specs.declared.Show.{Show}
use Rattle.desk.specs.Desk.{room_before, Parted, may_play, Begun, enough, Replayed}
use Rattle.desk.specs.declared.Part.{Part}

pub counted-good : (s : List ℕ) → Good s → counted s ≡ count s
counted-good s g = rw g.layout

-- a good trace's records may run
pub may : (s : List ℕ) (i : ℕ) → Good s → i ≤ count s → may_play s i ≡ true
may s i g h = rw (good-accepted s g, le-leb i (count s) h)

-- a device that is made from a configuration without refusal is fresh
made-fresh : (c : Configuration) → refusal c ≡ 0 → (made_device c).device ≡ device (fresh_state c)
unfolding made_device
made-fresh c z = rw z

-- the heading, all records, the end
module _ (o : Show) (s : List ℕ) (good : Good s) (p₀ p₁ p₂ : Page) (t g : Part) (fits : p₀.at + 128 + 10304 * count s ≤ length p₀.out.now)
    (x : Begun s p₀ p₁ t) (y : Parted o s t.device.state t.next p₁ p₂ g)
  where
    first : Prints 64 p₀ heading_line p₁
    first = roomed 64 x.text (omega arith)

    starts : t.device.state ≡ fresh_state (block_at s)
    starts = ap (λ (v : MmioV2Device). v.state) (x.fresh ∙ made-fresh (block_at s) good.config)

    -- every record had room, so all were run
    all-run : g.next ≡ count s
    all-run = go (eqb g.next (count s)) refl
      where
        go : (b : Bool) → eqb g.next (count s) ≡ b → g.next ≡ count s
        go true e = eqb-true g.next (count s) e
        go false e = absurd (true≢false (sym there ∙ y.full other))
          where
            other : g.next ≡ count s → ⊥
            other = eqb-false g.next (count s) e

            fewer : (g.next ≡ count s → ⊥) → g.next + 1 ≤ count s
            fewer z = omega (arith, y.upto)

            there : room_before o s t.device.state t.next (length p₁.out.now) p₁.at g.next ≡ true
            there =
                room-left 10304 (length p₁.out.now) (p₁.at + length (log_text o t.device.state t.next (log_from s t.next (g.next - t.next))))
                (omega (arith, fewer other, first.long, first.small, y.text.small, y.text.text.moved, x.first))

    pub end-device : g.device ≡ device (run (block_at s) (records_of s))
    end-device =
        let m : g.next - t.next ≡ count s = omega (arith, all-run, x.first) in
        y.state
        ∙ ap (λ (i : ℕ). device (run_from next t.device.state (log_from s t.next i))) m
        ∙ ap₂ (λ (u : State) (i : ℕ). device (run_from next u (log_from s i (count s)))) starts x.first

    pub end-text : (k : ℕ) {p₃ : Page} → k ≡ count s → PrintsLine 64 p₂ (end_line k) p₃ → Prints (128 + 10304 * count s) p₀ (replay_text o s) p₃
    unfolding replay_text
    end-text k j z =
        let m : g.next - t.next ≡ count s = omega (arith, all-run, x.first) in
        let here : p₂.at + 64 ≤ length p₂.out.now = omega (arith, first.long, first.small, y.text.long, y.text.small, y.upto) in
        rw (good-accepted s good)
        (within
        (worded (then (then first y.text) (roomed 64 z here))
        (ap₂ (λ (i h : ℕ). (heading_line ++ log_text o t.device.state t.next (log_from s t.next i)) ++ end_line h) m j
        ∙ ap₂ (λ (u : State) (i : ℕ). (heading_line ++ log_text o u i (log_from s i (count s))) ++ end_line (count s)) starts x.first))
        (omega (arith, y.upto)))

-- ---- the whole, on a page that is the lent buffer

module _ (o : Show) (s l : List ℕ) {l' : List ℕ} {p q : Page} (front : p.at ≡ 0) (kept : p.out.now ≡ l) (ends : l' ≡ q.out.now) where
  printed : {m : ℕ} {w : List ℕ} → Prints m p w q → Emitted l 0 w l' q.at
  printed t = rw (ends, sym kept, sym front) t.text

  pub replayed : {m : ℕ} → Good s → 128 + 10304 * count s ≤ length l → Prints m p (replay_text o s) q
      → Replayed o s l l' (record { device = device (run (block_at s) (records_of s)); len = q.at; whole = true })
  replayed good fits t =
      let e : enough s (length l) ≡ true = rw (good-accepted s good) (le-leb (128 + 10304 * count s) (length l) fits) in
      record { whole = sym e; state = rw (e, good-accepted s good); text = rw e (printed t) }

  pub bad-told : (n : ℕ) → n ≡ verdict_of s → (n ≡ 0 → ⊥) → 128 ≤ length l → PrintsLine 64 p (bad_line n) q
      → Replayed o s l l' (record { device = device no_state; len = q.at; whole = true })
  unfolding replay_text
  bad-told n is some fits t =
      let z : eqb (verdict_of s) 0 ≡ false = ne_eqb (verdict_of s) 0 (λ x. some (is ∙ x)) in
      let e : enough s (length l) ≡ true = rw z (le-leb 128 (length l) fits) in
      record {
        whole = sym e;
        state = rw (e, z);
        text = rw (e, z) (printed (worded (roomed 64 t (omega (arith, ap length kept))) (ap bad_line is)));
      }

-- ---- and where there is too little room

module _ (o : Show) (s l : List ℕ) where
  pub none_told : enough s (length l) ≡ false → Replayed o s l l (record { device = device no_state; len = 0; whole = false })
  none_told e = record { whole = sym e; state = rw e; text = rw e (emitted.still l 0) }

  pub good-no-room : Good s → length l < 128 + 10304 * count s → Replayed o s l l (record { device = device no_state; len = 0; whole = false })
  good-no-room good h = none_told (rw (good-accepted s good) (lt-leb (128 + 10304 * count s) (length l) h))

  pub bad-no-room : (n : ℕ) → n ≡ verdict_of s → (n ≡ 0 → ⊥) → length l < 128 → Replayed o s l l (record { device = device no_state; len = 0; whole = false })
  bad-no-room n is some h = none_told (rw (ne_eqb (verdict_of s) 0 (λ x. some (is ∙ x))) (lt-leb 128 (length l) h))
