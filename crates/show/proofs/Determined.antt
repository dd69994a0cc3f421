-- Of an input that says what it has left: any two results that the promise allows are equal, and so are the bytes that were read, where
-- it is left the same. What an input gives that doesn't say what it has left, a file or a terminal, is the system's to say.
use Rattle.std.proofs.Common.{◌≡◌, ℕ, ◌+◌, ◌≤◌, List, sym, ap, ◌∙◌, arith, length, take, length-take-le, take_at}
use lib.ListN.{length-append}
use Rattle.std.specs.Prelude.{Option, None, Some}
use Rattle.std.specs.Io.KnownBytes.{Consumes}
use Rattle.show.proofs.read_full.Reads as read-full-promise

-- of an input that had xs, and has p left, any two calls took as many bytes, and the same ones
lost : (p : Option (List ℕ)) (xs b c : List ℕ) (n m : ℕ) → n ≤ length b → m ≤ length c
    → Consumes (Some xs) p (take n b) → Consumes (Some xs) p (take m c) → (n ≡ m) × (take n b ≡ take m c)
lost None xs b c n m hb hc e f = absurd e
lost (Some ys) xs b c n m hb hc e f =
    let kb : length (take n b) ≡ n = length-take-le n b hb in
    let kc : length (take m c) ≡ m = length-take-le m c hc in
    let lb : length xs ≡ length (take n b) + length ys = ap length e ∙ length-append (take n b) ys in
    let lc : length xs ≡ length (take m c) + length ys = ap length f ∙ length-append (take m c) ys in
    let same : n ≡ m = omega (arith, kb, kc, lb, lc) in
    (same, sym (ap (take n) e ∙ take_at (take n b) ys n kb) ∙ ap (λ k. take k xs) same ∙ ap (take m) f ∙ take_at (take m c) ys m kc)

-- `reader` says what an input of the type has left; the arguments are a before the call, and s or s' after it
pub read-full-determined : (type laws reader dict κs a r r' s s' : _)
    → read-full-promise.Post type laws reader dict κs a r s → read-full-promise.Post type laws reader dict κs a r' s'
    → (xs : List ℕ) → reader.remaining a.0.now ≡ Some xs → reader.remaining s.0.now ≡ reader.remaining s'.0.now → (r ≡ r') × (take r s.1.0.now ≡ take r' s'.1.0.now)
read-full-determined type laws reader dict κs a r r' s s' p q xs h e =
    lost (reader.remaining s'.0.now) xs s.1.0.now s'.1.0.now r r' p.0 q.0 (rw (h, e) at p.1.1) (rw h at q.1.1)
