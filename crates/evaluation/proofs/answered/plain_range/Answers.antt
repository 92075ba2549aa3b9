-- Each operation on the ranges read is what the definition makes of the step by its code.
use mathlib.Core.Path.{ap, ap₂, ◌∙◌}
use mir.Syntax.{w64}
use mir.Val.{SFits}
use mir.ValLaws.{to_z-of_z}
use borrow.Author.Rules.{rules}
use Rattle.interval.specs.Interval as interval
use Rattle.evaluation.specs.Table.{range_at}
use Rattle.evaluation.specs.Ranges.{plain_step}
use Rattle.evaluation.proofs.answered.plain_range.Goals as goal

pub returns-in-Constant : goal.returns-in-Constant
unfolding plain_step
returns-in-Constant c =
    let h = c.in-Constant.ensures in
    let fits : SFits w64 c.in-Constant.value = search rules in
    rw (to_z-of_z w64 _ fits, h.by_code, h.value_is)

pub returns-in-Sum : goal.returns-in-Sum
unfolding plain_step
returns-in-Sum c =
    let h = c.in-Sum.ensures in
    let r = c.args.ranges.now in
    rw h.by_code (c.sum.ensures ∙ ap₂ interval.sum (c.get_range.ensures ∙ ap (range_at r) h.first_is) (c.get_range-in-Sum.ensures ∙ ap (range_at r) h.second_is))

pub returns-in-Difference : goal.returns-in-Difference
unfolding plain_step
returns-in-Difference c =
    let h = c.in-Difference.ensures in
    let r = c.args.ranges.now in
    rw h.by_code
    (c.difference.ensures
    ∙ ap₂ interval.difference (c.get_range-in-Difference.ensures ∙ ap (range_at r) h.first_is) (c.get_range-in-Difference-2.ensures ∙ ap (range_at r) h.second_is))

pub returns-in-Product : goal.returns-in-Product
unfolding plain_step
returns-in-Product c =
    let h = c.in-Product.ensures in
    let r = c.args.ranges.now in
    rw h.by_code
    (c.product.ensures ∙ ap₂ interval.product (c.get_range-in-Product.ensures ∙ ap (range_at r) h.first_is) (c.get_range-in-Product-2.ensures ∙ ap (range_at r) h.second_is))

pub returns-in-Reciprocal : goal.returns-in-Reciprocal
unfolding plain_step
returns-in-Reciprocal c =
    let h = c.in-Reciprocal.ensures in
    rw h.by_code (c.reciprocal.ensures ∙ ap interval.reciprocal (c.get_range-in-Reciprocal.ensures ∙ ap (range_at c.args.ranges.now) h.first_is))

pub returns-in-Root : goal.returns-in-Root
unfolding plain_step
returns-in-Root c =
    let h = c.in-Root.ensures in
    rw h.by_code (c.root.ensures ∙ ap interval.root (c.get_range-in-Root.ensures ∙ ap (range_at c.args.ranges.now) h.first_is))
