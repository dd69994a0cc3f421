use mathlib.Core.Path.{◌≡◌, refl, ap, sym, ◌∙◌}
use mathlib.Core.List.{List, ◌++◌, append_assoc}
use Prim.Native.Nat.{ℕ, ◌+◌, ◌-◌, ◌≤◌}
use lib.ListN.{length, take, drop}
use lib.Seq.{sets, sets-eq, length-sets}
use Rattle.std.proofs.lemmas.List.{drop-drop}
use native.Mathlib.Omega.{arith}
use Rattle.text.proofs.Page.put_bytes.Goals as goal

-- a part overwritten, as a copy leaves it
copied : (l w v : List ℕ) (at : ℕ) → v ≡ w → at + length w ≤ length l → take at l ++ (v ++ drop (at + length w - at) (drop at l)) ≡ sets l at w
copied l w v at e h =
    let n : at + (at + length w - at) ≡ at + length w = omega arith in
    rw (e, drop-drop (at + length w - at) at l, n) (sym (sets-eq w l at h ∙ append_assoc (take at l) w _))

pub returns : goal.returns
returns c =
    let wrote = copied c.args.self.now.out.now c.args.word.now _ c.args.self.now.at c.copy_from_slice.ensures.after c.requires in
    record { same = refl; text = record { wrote = wrote; moved = refl }; small = omega arith; long = ap length wrote ∙ length-sets _ _ c.args.word.now }
