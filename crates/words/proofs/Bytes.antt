-- Laws of numbers as bytes, each over the width.
use mathlib.Core.Path.{◌≡◌, refl, sym, ap, ◌∙◌}
use mathlib.Core.List.{List, [], ◌∷◌, ◌++◌}
use Prim.Native.Nat.{ℕ, zero, suc, ◌+◌, ◌*◌, ◌/◌, ◌%◌, ◌^◌, ◌≤◌, ◌<◌}
use native.Mathlib.Nat.{div-div-eq-div-mul, suc-add, pow-suc, one-le-pow}
use native.Mathlib.Omega.{arith}
use borrow.Author.Tests.{le-leb, lt-leb}
use native.Mathlib.Nat.{add-zero, add-suc}
use lib.ListN.{length, get_or, take, drop}
use lib.Seq.{sets-eq, get_or-take}
use Rattle.std.proofs.Common.{zero-add}
use Rattle.std.specs.Prelude.{slice_index}
use Rattle.std.specs.Int.{bytes_low_first, byte_worth, sum_through}
use lib.Arith.{mod-mul}
use Rattle.words.specs.Bytes.{bytes_of, number_at, read_le, write_le}

pub length-bytes : (w v : ℕ) → length (bytes_of w v) ≡ w
length-bytes zero v = refl
length-bytes (suc w) v = ap suc (length-bytes w _)

-- the w bytes of v from the byte that counts p on, as the code writes them out
abbrev pub bytes_from : (w v p : ℕ) → List ℕ
bytes_from zero v p = []
bytes_from (suc w) v p = v / p % 256 ∷ bytes_from w v (p * 256)

pub written_out : (w v p : ℕ) → bytes_from w v p ≡ bytes_of w (v / p)
written_out zero v p = refl
written_out (suc w) v p =
    ap (λ (r : List ℕ). v / p % 256 ∷ r) (written_out w v (p * 256) ∙ ap (bytes_of w) (sym (div-div-eq-div-mul v p 256)))

-- reading is not disturbed by what stands before the place
further : (w : ℕ) (x : ℕ) (s : List ℕ) (i : ℕ) → number_at w (x ∷ s) (suc i) ≡ number_at w s i
further zero x s i = refl
further (suc w) x s i = ap (λ (n : ℕ). get_or s i 0 + 256 * n) (ap (number_at w (x ∷ s)) (suc-add i 1) ∙ further w x s (i + 1))

-- the bytes of v, read again: v, less what did not fit
pub read-written : (w v : ℕ) (rest : List ℕ) → number_at w (bytes_of w v ++ rest) 0 ≡ v % 256 ^ w
read-written zero v rest = omega arith
read-written (suc w) v rest =
    ap (λ (n : ℕ). v % 256 + 256 * n) (further w (v % 256) (bytes_of w (v / 256) ++ rest) 0 ∙ read-written w (v / 256) rest)
    ∙ rw (pow-suc 256 w, mod-mul v {m = 256 ^ w} {c = 256} (one-le-pow w 256 (omega arith)) (omega arith)) (omega arith)

-- the library's bytes of a number are these
from-place : (k i v : ℕ) → bytes_low_first (suc i) k v ≡ bytes_from k v (256 ^ suc i)
from-place zero i v = refl
from-place (suc k) i v = ap (λ (r : List ℕ). v / 256 ^ suc i % 256 ∷ r) (from-place k (suc i) v ∙ ap (bytes_from k v) (pow-suc 256 (suc i)))

pub library-bytes : (k v : ℕ) → bytes_low_first 0 (suc k) v ≡ bytes_of (suc k) v
library-bytes k v = ap (λ (r : List ℕ). v % 256 ∷ r) (from-place k 0 v ∙ written_out k v 256)

-- the highest byte apart
top : (w : ℕ) (s : List ℕ) (i : ℕ) → number_at (suc w) s i ≡ number_at w s i + get_or s (i + w) 0 * 256 ^ w
top zero s i = rw (add-zero i) (omega arith)
top (suc w) s i =
    let e : i + 1 + w ≡ suc (i + w) = omega arith in
    ap (λ (n : ℕ). get_or s i 0 + 256 * n) (top w s (i + 1)) ∙ rw (pow-suc 256 w, add-suc i w, e) (omega arith)

-- the library's number of some bytes is theirs
pub library-number : (k : ℕ) (s : List ℕ) → sum_through (λ i. byte_worth i (slice_index s i)) k ≡ number_at (suc k) s 0
library-number zero s = omega arith
library-number (suc k) s = ap (λ (n : ℕ). n + get_or s (suc k) 0 * 256 ^ suc k) (library-number k s)
    ∙ ap (λ (i : ℕ). number_at (suc k) s 0 + get_or s i 0 * 256 ^ suc k) (sym (zero-add (suc k)))
    ∙ sym (top (suc k) s 0)

-- and of the front of a longer slice
pub front : (w n : ℕ) (s : List ℕ) (i : ℕ) → i + w ≤ n → number_at w (take n s) i ≡ number_at w s i
front zero n s i h = refl
front (suc w) n s i h = rw (get_or-take n s i 0 (omega arith), front w n s (i + 1) (omega arith)) refl

-- what a slice that is long enough is written and read as, and one that is not
pub written : (k : ℕ) (s b : List ℕ) (v : ℕ) → suc k ≤ length s → b ≡ bytes_low_first 0 (suc k) v → b ++ drop (suc k) s ≡ write_le (suc k) s v
unfolding write_le
written k s b v h e =
    rw (le-leb (suc k) (length s) h)
    (ap (λ (t : List ℕ). t ++ drop (suc k) s) (e ∙ library-bytes k v)
    ∙ sym (sets-eq (bytes_of (suc k) v) s 0 (rw (length-bytes (suc k) v, zero-add (suc k)) h) ∙ rw (length-bytes (suc k) v, zero-add (suc k)) refl))

pub read : (k n : ℕ) (s b : List ℕ) → suc k ≤ length s → b ≡ take (suc k) s → n ≡ sum_through (λ i. byte_worth i (slice_index b i)) k → n ≡ read_le (suc k) s
unfolding read_le
read k n s b h e q =
    q ∙ library-number k b ∙ ap (λ (t : List ℕ). number_at (suc k) t 0) e ∙ front (suc k) (suc k) s 0 (omega arith) ∙ rw (le-leb (suc k) (length s) h) refl

pub short_write : (w : ℕ) (s : List ℕ) (v : ℕ) → length s < w → s ≡ write_le w s v
unfolding write_le
short_write w s v h = simp (lt-leb w (length s) h)

pub short_read : (w : ℕ) (s : List ℕ) → length s < w → 0 ≡ read_le w s
unfolding read_le
short_read w s h = simp (lt-leb w (length s) h)
