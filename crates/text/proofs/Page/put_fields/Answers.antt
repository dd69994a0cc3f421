use Rattle.text.proofs.Pages.{then, worded, within}
use Rattle.text.proofs.Pieces.{field-columns}
use native.Mathlib.Omega.{arith}
use Rattle.text.proofs.Page.put_fields.Goals as goal

pub returns : goal.returns
returns c =
    let index = rw c.from.ensures at c.next_decimal.ensures in
    let rest = rw (c.from-2.ensures, c.from-3.ensures) at c.put_hexes.ensures in
    within (worded (then (then (then c.put_bytes.ensures index) rest) c.put_newline.ensures) (field-columns _ _ _ _ _ _)) (omega arith)
