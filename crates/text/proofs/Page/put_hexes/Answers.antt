use Prim.Native.Nat.{ℕ}
use native.Mathlib.Omega.{arith}
use Rattle.text.specs.Numerals.{hex}
use Rattle.text.specs.Lines.{spaced}
use Rattle.text.proofs.Pages.{each-more}
use Rattle.text.proofs.Page.put_hexes.Goals as goal

pub loop-n-preserved : goal.loop-n-preserved
loop-n-preserved c = each-more (λ (n : ℕ). spaced (hex n)) c.args.ns c.loop-n.invariant (omega arith) c.next_hex.ensures
