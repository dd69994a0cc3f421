use Rattle.text.proofs.Pages.{within}
use Rattle.text.proofs.Numerals.{decimal-short}
use native.Mathlib.Omega.{arith}
use Rattle.text.proofs.Page.put_decimal.Goals as goal

pub put_number-requires : goal.put_number-requires
put_number-requires c = (omega arith, omega arith, omega (arith, decimal-short c.args.n c.ranges.n.fits))

pub returns : goal.returns
returns c = within c.put_number.ensures (decimal-short c.args.n c.ranges.n.fits)
