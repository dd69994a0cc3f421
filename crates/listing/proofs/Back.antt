-- Records laid over lent words are read back: their lines are those of the actions themselves. They are read as arrays of five.
use mathlib.Core.Path.{◌≡◌, refl, ap, ap₂, ◌∙◌}
use mathlib.Core.List.{List, [], ◌∷◌, ◌++◌}
use Prim.Native.Nat.{ℕ, zero, suc, ◌+◌, ◌*◌, ◌≤◌, ◌<◌}
use native.Mathlib.Omega.{arith}
use lib.ListN.{length, take, drop, get_or}
use lib.Seq.{sets, sets-eq}
use Rattle.std.specs.Simd.{first_chunks}
use Rattle.std.proofs.lemmas.List.{get_or-take, get_or-drop}
use Rattle.virtq.specs.Fields.{no_queue}
use Rattle.virtq.specs.declared.Queue.{Queue}
use Rattle.words.specs.Actions.{words_of, words_of_all}
use Rattle.words.specs.declared.Action.{Action}
use Rattle.words.proofs.Actions.{length-all}
use Rattle.text.specs.Details.{action_line}
use Rattle.listing.specs.Listing.{rows, no_action, actions_text, action_in, words_text, queues_text}

rows_same : (n : ℕ) (f g : ℕ → List ℕ) → ((i : ℕ) → i < n → f i ≡ g i) → rows n f ≡ rows n g
unfolding rows
rows_same zero f g h = refl
rows_same (suc n) f g h = ap₂ ◌++◌ (rows_same n f g (λ i k. h i (omega arith))) (h n (omega arith))

-- record i behind one more
behind : (a b c d e : ℕ) (l : List ℕ) (i : ℕ) → action_in (a ∷ b ∷ c ∷ d ∷ e ∷ l) (suc i) ≡ action_in l i
behind a b c d e l i =
    let p : 5 * suc i ≡ suc (suc (suc (suc (suc (5 * i))))) = omega arith in
    let q : 5 * suc i + 1 ≡ suc (suc (suc (suc (suc (5 * i + 1))))) = omega arith in
    let r : 5 * suc i + 2 ≡ suc (suc (suc (suc (suc (5 * i + 2))))) = omega arith in
    let s : 5 * suc i + 3 ≡ suc (suc (suc (suc (suc (5 * i + 3))))) = omega arith in
    let t : 5 * suc i + 4 ≡ suc (suc (suc (suc (suc (5 * i + 4))))) = omega arith in
    rw (q, r, s, t, p)

read-back : (xs : List Action) (rest : List ℕ) (i : ℕ) → i < length xs → action_in (words_of_all xs ++ rest) i ≡ get_or xs i no_action
unfolding words_of
read-back [] rest i h = absurd (none h)
  where
    none : i < 0 → ⊥
    none k = omega arith
read-back (x ∷ xs) rest zero h = refl
read-back (x ∷ xs) rest (suc i) h =
    behind x.kind x.a x.b x.c x.d (words_of_all xs ++ rest) i ∙ read-back xs rest i (omega arith)

-- ---- records as arrays of five words

in_chunk : (k : ℕ) (w : List ℕ) (i j : ℕ) → i < k → j < 5 → get_or (get_or (first_chunks 5 k w) i []) j 0 ≡ get_or w (5 * i + j) 0
in_chunk zero w i j h f = absurd (none h)
  where
    none : i < 0 → ⊥
    none k = omega arith
in_chunk (suc k) w zero j h f = let e : 5 * 0 + j ≡ j = omega arith in rw e (get_or-take 5 w j 0 f)
in_chunk (suc k) w (suc i) j h f =
    let e : 5 + (5 * i + j) ≡ 5 * suc i + j = omega arith in
    in_chunk k (drop 5 w) i j (omega arith) f ∙ get_or-drop 5 w (5 * i + j) 0 ∙ ap (λ (n : ℕ). get_or w n 0) e

pub chunk-action : (rs : List (List ℕ)) (k : ℕ) (w : List ℕ) (i : ℕ) → rs ≡ first_chunks 5 k w → i < k
    → record { kind = get_or (get_or rs i []) 0 0; a = get_or (get_or rs i []) 1 0; b = get_or (get_or rs i []) 2 0; c = get_or (get_or rs i []) 3 0; d = get_or (get_or rs i []) 4 0 } ≡ action_in w i
chunk-action rs k w i e h =
    let z : 5 * i + 0 ≡ 5 * i = omega arith in
    let p : get_or (get_or (first_chunks 5 k w) i []) 0 0 ≡ get_or w (5 * i) 0 = in_chunk k w i 0 h (omega arith) ∙ ap (λ (n : ℕ). get_or w n 0) z in
    rw (e, p, in_chunk k w i 1 h (omega arith), in_chunk k w i 2 h (omega arith), in_chunk k w i 3 h (omega arith), in_chunk k w i 4 h (omega arith))

-- ---- the first of them

pub words-front : (w : List ℕ) (n : ℕ) → words_text (take (5 * n) w) n ≡ words_text w n
words-front w n =
    rows_same n _ _
    (λ i h.
    ap action_line
    (rw (get_or-take (5 * n) w (5 * i) 0 (omega arith), get_or-take (5 * n) w (5 * i + 1) 0 (omega arith), get_or-take (5 * n) w (5 * i + 2) 0 (omega arith), get_or-take (5 * n) w (5 * i + 3) 0 (omega arith), get_or-take (5 * n) w (5 * i + 4) 0 (omega arith))))

pub queues-front : (qs : List Queue) (n : ℕ) → queues_text (take n qs) n ≡ queues_text qs n
queues-front qs n = rows_same n _ _ (λ i h. rw (get_or-take n qs i no_queue h))

-- ---- read back

-- words laid over the front of a list
pub front : (l w : List ℕ) → length w ≤ length l → sets l 0 w ≡ w ++ drop (length w) l
front l w h =
    let e : 0 + length w ≤ length l = omega arith in
    let z : 0 + length w ≡ length w = omega arith in
    rw z at (sets-eq w l 0 e)

pub words-text : (l : List ℕ) (xs : List Action) → 5 * length xs ≤ length l → words_text (sets l 0 (words_of_all xs)) (length xs) ≡ actions_text xs
words-text l xs h =
    ap (λ (w : List ℕ). words_text w (length xs)) (front l (words_of_all xs) (omega (arith, length-all xs)))
    ∙ rows_same (length xs) _ _ (λ i k. ap action_line (read-back xs (drop (length (words_of_all xs)) l) i k))
