use Rattle.text.proofs.Pages.{then, worded, within}
use Rattle.text.proofs.Numerals.{numeral-one, numeral-more, length-one, length_more}
use native.Mathlib.Nat.{div-lt_self}
use mathlib.Core.Path.{subst}
use native.Mathlib.Omega.{arith}
use Prim.Native.Nat.{ℕ, ◌<◌, ◌/◌}
use Rattle.text.proofs.Page.+put_number.Goals as goal

pub put-requires : goal.put-requires
put-requires t c = omega (arith, length-one _ _ c.if-n-base.true)

pub returns-then-n-base : goal.returns-then-n-base
returns-then-n-base t c =
    within (worded c.put.ensures (rw (numeral-one _ _ c.if-n-base.true, c.digit.ensures))) (omega (arith, length-one _ _ c.if-n-base.true))

pub put_number-requires : goal.put_number-requires
put_number-requires t c =
    let l : 1 < c.args.base = omega arith in
    let h : 0 < c.args.n = omega arith in
    (subst (λ (j : ℕ). c.args.n / c.args.base < j) c.decreases (div-lt_self h l), (c.requires.0, c.requires.1, omega (arith, length_more _ _ l c.ranges.n.fits c.if-n-base.false)))

pub put-requires-else-n-base : goal.put-requires-else-n-base
put-requires-else-n-base t c = omega (arith, length_more _ _ (omega arith) c.ranges.n.fits c.if-n-base.false)

pub returns-else-n-base : goal.returns-else-n-base
returns-else-n-base t c =
    let more = numeral-more _ _ (omega arith) c.ranges.n.fits c.if-n-base.false in
    within (worded (then c.put_number.ensures c.put-else-n-base.ensures) (rw (more, c.digit-else-n-base.ensures)))
    (omega (arith, length_more _ _ (omega arith) c.ranges.n.fits c.if-n-base.false))
