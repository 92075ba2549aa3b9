-- `range_around` meets its contract: what is left of the radius on each side is what the coefficients reach there, and no end of the range is farther from 0
-- than the span.
use native.Mathlib.Omega.{arith}
use borrow.Author.Rules.{rules}
use Rattle.affine.proofs.RangeSize.{around}
use Rattle.affine.proofs.form_range.range_around.Goals as goal

pub overflow_sub-below : goal.overflow_sub-below
overflow_sub-below c = let w = around c.args.c c.args.radius c.args.p.now c.requires in omega (arith, c.sum_squares-squares.ensures.above)

pub overflow_add-result-2 : goal.overflow_add-result-2
overflow_add-result-2 c =
    let w = around c.args.c c.args.radius c.args.p.now c.requires in
    rw (c.sum_squares-squares.ensures.above, c.sum_squares-squares.ensures.sum, w.left, w.turned_over) (search rules)

pub returns-clause-low : goal.returns-clause-low
returns-clause-low c =
    let w = around c.args.c c.args.radius c.args.p.now c.requires in
    rw (c.sum_squares-squares.ensures.above, w.left) (search rules)

pub returns-clause-high : goal.returns-clause-high
returns-clause-high c =
    let w = around c.args.c c.args.radius c.args.p.now c.requires in
    rw (c.sum_squares-squares.ensures.above, c.sum_squares-squares.ensures.sum, w.left, w.turned_over) (search rules)
