use Rattle.text.proofs.Pages.{then, within}
use Rattle.text.proofs.Numerals.{hex-short}
use native.Mathlib.Omega.{arith}
use Rattle.text.proofs.Page.next_hex.Goals as goal

pub put_number-requires : goal.put_number-requires
put_number-requires c = (omega arith, omega arith, omega (arith, hex-short c.args.n c.ranges.n.fits))

pub returns : goal.returns
returns c = within (then c.put.ensures c.put_number.ensures) (omega (arith, hex-short c.args.n c.ranges.n.fits))
