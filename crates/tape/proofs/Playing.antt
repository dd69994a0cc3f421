-- Records played one after another: what is left to play from here comes to the whole.
use Rattle.std.proofs.Common.{◌≡◌, ℕ, ◌+◌, ◌*◌, ◌≤◌, Bool, true, false, List, [], ◌∷◌, ◌++◌, length, subst, sym, refl, ap, ◌∙◌, add-zero, zero-add, arith, le-leb, leb-true}
use lib.Seq.{sets, length-sets}
use Rattle.words.specs.Pick.{pick}
use Rattle.words.specs.Actions.{Emitted, fitting, words_of, words_of_all}
use Rattle.words.proofs.Actions.{fits, length-words, sets-join}
use Rattle.words.specs.declared.Action.{Action}
use Rattle.tape.specs.declared.Held.{Held}
use Rattle.tape.specs.declared.Recorder.{Recorder}
use Rattle.tape.specs.Held.{held_one, held_after, left_after}
use Rattle.std.specs.Borrow.{MutBor}
use Rattle.tape.specs.Play.{IsBegun, Sheet, sheet, room_for, one, play, Played, laid}

-- ---- one record

pub one_left : (b : ℕ) (s : Sheet) (x : Action) → (one b s x).left ≡ left_after s.left x
unfolding one
one_left b s x = refl

-- what the code does: the answers and the table are worked out, and where there is room `append` wrote w
module _ (b : ℕ) (s : Sheet) (x : Action) where
  pub one_written : (w : List ℕ) (at : ℕ) → room_for s.count (length s.words) ≡ true
      → Emitted s.words (5 * s.count) (fitting s.words (5 * s.count) (words_of x)) w at
      → record { words = w; count = s.count + 1; left = left_after s.left x; held = held_one b s.left x s.held } ≡ one b s x
  unfolding one
  one_written w at h e =
      let k : 5 * s.count + 5 ≤ length s.words = leb-true (5 * s.count + 5) (length s.words) h in
      let f : fitting s.words (5 * s.count) (words_of x) ≡ words_of x = fits s.words (5 * s.count) (words_of x) (rw (length-words x) k) in
      let q : w ≡ sets s.words (5 * s.count) (words_of x) = e.wrote ∙ rw f in
      rw (h, q)

  pub one_unwritten : room_for s.count (length s.words) ≡ false
      → record { words = s.words; count = s.count; left = left_after s.left x; held = held_one b s.left x s.held } ≡ one b s x
  unfolding one
  one_unwritten h = rw h

-- ---- several

pub play-join : (b : ℕ) (s : Sheet) (xs ys : List Action) → play b s (xs ++ ys) ≡ play b (play b s xs) ys
play-join b s [] ys = refl
play-join b s (x ∷ xs) ys = play-join b (one b s x) xs ys

-- the table is the fold, room or not
pub play-held : (b : ℕ) (s : Sheet) (xs : List Action) → (play b s xs).held ≡ held_after b s.held s.left xs
unfolding one
play-held b s [] = refl
play-held b s (x ∷ xs) = play-held b (one b s x) xs

-- with room for all of them: the words and the count
pub record Told (s : Sheet) (xs : List Action) (r : Sheet) : Type 0 where
  pub words : r.words ≡ sets s.words (5 * s.count) (words_of_all xs)
  pub count : r.count ≡ s.count + length xs

pub told : (b : ℕ) (s : Sheet) (xs : List Action) → 5 * (s.count + length xs) ≤ length s.words → Told s xs (play b s xs)
unfolding one
told b s [] h = record { words = refl; count = sym (add-zero s.count) }
told b s (x ∷ xs) h =
    let room : room_for s.count (length s.words) ≡ true = le-leb (5 * s.count + 5) (length s.words) (omega arith) in
    let w : List ℕ = sets s.words (5 * s.count) (words_of x) in
    let s' : Sheet = record { words = w; count = s.count + 1; left = left_after s.left x; held = held_one b s.left x s.held } in
    let long : length w ≡ length s.words = length-sets s.words (5 * s.count) (words_of x) in
    let r : Told s' xs (play b s' xs) = told b s' xs (omega arith) in
    let e : 5 * (s.count + 1) ≡ 5 * s.count + length (words_of x) = omega (arith, length-words x) in
    rw room
    (record {
      words = r.words ∙ ap (λ (k : ℕ). sets w k (words_of_all xs)) e ∙ sets-join (words_of x) s.words (5 * s.count) (words_of_all xs);
      count = omega (arith, r.count);
    })

-- the lent words stay as many as they were, room or not
one-long : (b : ℕ) (s : Sheet) (x : Action) → length (one b s x).words ≡ length s.words
unfolding one
one-long b s x = go (room_for s.count (length s.words))
  where
    go : (r : Bool) → length (pick r (sets s.words (5 * s.count) (words_of x)) s.words) ≡ length s.words
    go true = length-sets s.words (5 * s.count) (words_of x)
    go false = refl

pub play-long : (b : ℕ) (s : Sheet) (xs : List Action) → length (play b s xs).words ≡ length s.words
play-long b s [] = refl
play-long b s (x ∷ xs) = play-long b (one b s x) xs ∙ one-long b s x

pub same-long : (b : ℕ) (s s' : Sheet) (xs ys : List Action) → play b s xs ≡ play b s' ys → length s.words ≡ length s'.words
same-long b s s' xs ys e = sym (play-long b s xs) ∙ ap (λ (r : Sheet). length r.words) e ∙ play-long b s' ys

-- ---- as a function's contract says it

pub unplayed : (r : Recorder) → Played r [] r
unplayed r = record { same = refl; base = refl; is = refl }

module _ {r : Recorder} {xs : List Action} {r' : Recorder} (e : Played r xs r') where
  pub then : {ys : List Action} {r'' : Recorder} → Played r' ys r'' → Played r (xs ++ ys) r''
  then {ys} {r''} f =
      record {
        same = f.same ∙ e.same;
        base = f.base ∙ e.base;
        is =
            f.is
            ∙ ap (λ (b : ℕ). play b (sheet r') ys) e.base
            ∙ ap (λ (s : Sheet). play r.base s ys) e.is
            ∙ sym (play-join r.base (sheet r) xs ys);
      }

  -- the same, where the records that follow are those of the recorder's own window
  pub based : (ys : ℕ → List Action) {r'' : Recorder} → Played r' (ys r'.base) r'' → Played r (xs ++ ys r.base) r''
  based ys {r''} f = then (subst (λ (b : ℕ). Played r' (ys b) r'') e.base f)

  pub listed : {ys : List Action} → xs ≡ ys → Played r ys r'
  listed q = rw q at e

-- from the front of the lent words, with room for all
pub played : {w : MutBor (List ℕ)} {b k : ℕ} {hs : List Held} {xs : List Action} {r r' : Recorder}
    → IsBegun w b k hs r → Played r xs r' → 5 * length xs ≤ length w.now
    → (r'.words.now ≡ laid w.now xs) × ((r'.tape.count ≡ length xs) × (r'.tape.held ≡ held_after b hs k xs))
played {w} {b} {k} {hs} {xs} {r} {r'} g e h =
    let s₀ : Sheet = record { words = w.now; count = 0; left = k; held = hs } in
    let q : sheet r' ≡ play b s₀ xs = e.is ∙ ap (λ (c : ℕ). play c (sheet r) xs) g.base ∙ ap (λ (s : Sheet). play b s xs) g.is in
    let d : Told s₀ xs (play b s₀ xs) = told b s₀ xs (omega arith) in (
      ap (λ (s : Sheet). s.words) q ∙ d.words,
      (
        ap (λ (s : Sheet). s.count) q ∙ d.count ∙ zero-add (length xs),
        ap (λ (s : Sheet). s.held) q ∙ play-held b s₀ xs,
      ),
    )
