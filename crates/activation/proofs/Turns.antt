-- One request after the other: refused, what follows it is left to play; accepted, the other requests are.
use mathlib.Core.Bool.{Bool, true, false}
use mathlib.Core.Path.{◌≡◌, refl, sym, ap, ◌∙◌}
use mathlib.Core.List.{List, [], ◌∷◌, ◌++◌, append_assoc, append-nil}
use Prim.Native.Nat.{ℕ, zero, suc, ◌+◌, ◌-◌, ◌<◌}
use native.Mathlib.Nat.{add-zero, zero-add, suc-add}
use native.Mathlib.Omega.{arith}
use Rattle.std.specs.Prelude.{Result, Ok, Err}
use Rattle.tape.specs.Held.{left_after}
use Rattle.tape.specs.Play.{Sheet, sheet, play, Played}
use Rattle.tape.proofs.Playing.{one_left}
use Rattle.tape.specs.declared.Recorder.{Recorder}
use Rattle.activation.specs.Requests.{Request, Bell, Note, Enable, Activate, lasts, turn, requests, record_of, asks, starts}
use Rattle.activation.specs.Ties.{request_of, undoing, turns, follow, Asked}
use Rattle.activation.specs.declared.Request.{Request as Asking}

-- ---- one request

module _ (r : Recorder) (x : Asking) (a : Recorder) (e : Played r (record_of r.base (request_of x) ∷ []) a) where
  left_is : a.tape.left ≡ r.tape.left - 1
  left_is = ap (λ (s : Sheet). s.left) e.is ∙ one_left r.base (sheet r) (record_of r.base (request_of x)) ∙ by_kind (request_of x)
    where
      by_kind : (y : Request) → left_after r.tape.left (record_of r.base y) ≡ r.tape.left - 1
      by_kind (Bell i) = refl
      by_kind (Note i) = refl
      by_kind Enable = refl
      by_kind Activate = refl

  pub refused : r.tape.left ≡ 0 → Asked r (request_of x ∷ []) a (Err x)
  refused h =
      record {
        same = e.same;
        base = e.base;
        rest = λ d n xs. ap (λ (s : Sheet). play r.base s (undoing r.base d n x)) e.is
            ∙ ap (λ (k : ℕ). play r.base (sheet r) (asks r.base d n k (request_of x ∷ xs))) (sym h);
        ends = λ xs. ap (λ (k : ℕ). starts k (request_of x ∷ xs)) (sym h);
      }

  pub accepted : (r.tape.left ≡ 0 → ⊥) → Asked r (request_of x ∷ []) a (Ok tt)
  accepted h =
      let s : suc (r.tape.left - 1) ≡ r.tape.left = omega arith in
      record {
        same = e.same;
        base = e.base;
        rest = λ d n xs. ap (λ (k : ℕ). play r.base (sheet a) (asks r.base d n k xs)) left_is
            ∙ ap (λ (q : Sheet). play r.base q (asks r.base d n (r.tape.left - 1) xs)) e.is
            ∙ ap (λ (k : ℕ). play r.base (sheet r) (asks r.base d n k (request_of x ∷ xs))) s;
        ends = λ xs. ap (λ (k : ℕ). starts k xs) left_is ∙ ap (λ (k : ℕ). starts k (request_of x ∷ xs)) s;
      }

-- ---- several

pub none : (r : Recorder) → Asked r [] r (Ok tt)
none r = record { same = refl; base = refl; rest = λ d n xs. refl; ends = λ xs. refl }

module _ {r : Recorder} {ys : List Request} {r' : Recorder} where
  -- one is refused: the others are not asked
  pub ended : {x : Asking} (zs : List Request) → Asked r ys r' (Err x) → Asked r (ys ++ zs) r' (Err x)
  ended {x} zs f =
      record {
        same = f.same;
        base = f.base;
        rest = λ d n xs. rw (append_assoc ys zs xs) (f.rest d n (zs ++ xs));
        ends = λ xs. rw (append_assoc ys zs xs) (f.ends (zs ++ xs));
      }

  pub further : {zs : List Request} {r'' : Recorder} {o : Result (Unit {0}) Asking} → Asked r ys r' (Ok tt) → Asked r' zs r'' o → Asked r (ys ++ zs) r'' o
  further {zs} {r''} {o} f g =
      record {
        same = g.same ∙ f.same;
        base = g.base ∙ f.base;
        rest = λ d n xs.
            ap (λ (b : ℕ). play b (sheet r'') (follow b d n r''.tape.left xs o)) (sym f.base)
            ∙ g.rest d n xs
            ∙ ap (λ (b : ℕ). play b (sheet r') (asks b d n r'.tape.left (zs ++ xs))) f.base
            ∙ f.rest d n (zs ++ xs)
            ∙ ap (λ (q : List Request). play r.base (sheet r) (asks r.base d n r.tape.left q)) (sym (append_assoc ys zs xs));
        ends = λ xs. g.ends xs ∙ f.ends (zs ++ xs) ∙ ap (starts r.tape.left) (sym (append_assoc ys zs xs));
      }

  pub asking : {zs : List Request} {o : Result (Unit {0}) Asking} → ys ≡ zs → Asked r ys r' o → Asked r zs r' o
  asking q f = rw q at f

-- ---- every queue's

turn-join : (d : Bool) (i : ℕ) (ys zs : List Request) → turn d i (ys ++ zs) ≡ turn d i ys ++ zs
turn-join true i ys zs = refl
turn-join false i ys zs = refl

turns-join : (d : Bool) (i m k : ℕ) → turns d i (m + k) ≡ turns d i m ++ turns d (i + m) k
turns-join d i zero k = rw (zero-add k, add-zero i) refl
turns-join d i (suc m) k =
    let e : (i + 1) + m ≡ i + suc m = omega arith in
    rw (suc-add m k) (ap (turn d i) (turns-join d (i + 1) m k ∙ ap (λ (j : ℕ). turns d (i + 1) m ++ turns d j k) e) ∙ turn-join d i (turns d (i + 1) m) (turns d (i + suc m) k))

-- the registrations of one more queue
pub turns-next : (d : Bool) (i : ℕ) → turns d 0 i ++ turn d i [] ≡ turns d 0 (i + 1)
turns-next d i = rw (zero-add i) at (sym (turns-join d 0 i 1))

-- and those of all queues past it
pub turns-others : (d : Bool) (i n : ℕ) → i < n → turns d 0 (i + 1) ++ turns d (i + 1) (n - (i + 1)) ≡ turns d 0 n
turns-others d i n h =
    let e : (i + 1) + (n - (i + 1)) ≡ n = omega arith in
    let z : 0 + (i + 1) ≡ i + 1 = omega arith in
    rw (e, z) at (sym (turns-join d 0 (i + 1) (n - (i + 1))))

pub turns-lasts : (d : Bool) (i m : ℕ) → turns d i m ++ lasts ≡ requests d i m
turns-lasts d i zero = refl
turns-lasts d i (suc m) = sym (turn-join d i (turns d (i + 1) m) lasts) ∙ ap (turn d i) (turns-lasts d (i + 1) m)

-- ---- an attempt: all accepted, or what follows the refusal played

module _ {r : Recorder} {ys : List Request} {r' : Recorder} where
  pub all-accepted : (d : Bool) (n : ℕ) → Asked r ys r' (Ok tt) → Played r (asks r.base d n r.tape.left ys) r'
  all-accepted d n f = record { same = f.same; base = f.base; is = rw (append-nil ys) at (f.rest d n []) }

  pub all-starts : Asked r ys r' (Ok tt) → true ≡ starts r.tape.left ys
  all-starts f = rw (append-nil ys) at (f.ends [])

  pub undone : (d : Bool) (n : ℕ) {x : Asking} {r'' : Recorder} → Asked r ys r' (Err x) → Played r' (undoing r'.base d n x) r'' → Played r (asks r.base d n r.tape.left ys) r''
  undone d n {x} {r''} f g =
      record {
        same = g.same ∙ f.same;
        base = g.base ∙ f.base;
        is = g.is ∙ ap (λ (b : ℕ). play b (sheet r') (undoing b d n x)) f.base ∙ (rw (append-nil ys) at (f.rest d n []));
      }

  pub not-started : {x : Asking} → Asked r ys r' (Err x) → false ≡ starts r.tape.left ys
  not-started f = rw (append-nil ys) at (f.ends [])
