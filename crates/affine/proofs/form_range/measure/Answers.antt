-- `measure` meets its contract: the span is the centre's absolute value and the radius, and the range is told where it is within its limit.
use Rattle.std.proofs.Common.{rules, arith, ap₂, refl, ◌∙◌, ◌≡◌, ◌+◌, ◌-◌, ◌≤◌, ℕ, length, take, nat_abs, Some, to_z, of_z, w64}
use borrow.Author.Tests.{le-leb, lt-leb}
use Rattle.integer.specs.Sum.{sum_abs}
use Rattle.affine.specs.declared.Row.{Row}
use Rattle.affine.specs.Limits.{pairs, span_limit}
use Rattle.affine.specs.Row.{span, radius, low, high, NoneFrom}
use Rattle.affine.proofs.RowSize.{span_is_sum}
use Rattle.affine.proofs.Fronts.{front_sum}
use Rattle.affine.proofs.form_range.measure.Goals as goal

-- what the code has summed of the linear coefficients is what all of them sum to; the span and the radius from there
module _ (r : Row) (count : ℕ) (none : NoneFrom count r.linear) {n l p : ℕ} (e : n ≡ nat_abs r.centre) (f : l ≡ sum_abs (take count r.linear)) (g : p ≡ sum_abs r.pair) where
  linear_is : l ≡ sum_abs r.linear
  linear_is = f ∙ front_sum count r.linear none

  span_is : n + (l + p) ≡ span r
  span_is = omega (arith, e, linear_is, g, span_is_sum r)

  radius_is : l + p ≡ radius r
  unfolding radius
  radius_is = ap₂ ◌+◌ linear_is g

pub absolutes-requires : goal.absolutes-requires
absolutes-requires c =
    let r = c.args.row.now in
    omega (arith, c.requires.small, span_is_sum r, front_sum c.args.count r.linear c.requires.none.1)

pub absolutes-requires-2 : goal.absolutes-requires-2
absolutes-requires-2 c = omega (arith, c.requires.small, span_is_sum c.args.row.now)

pub overflow_add-radius : goal.overflow_add-radius
overflow_add-radius c =
    let r = c.args.row.now in
    record { fits = omega (arith, c.absolutes.ensures, front_sum c.args.count r.linear c.requires.none.1, c.absolutes-2.ensures, c.requires.small, span_is_sum r) }

pub overflow_add-unsigned_abs : goal.overflow_add-unsigned_abs
overflow_add-unsigned_abs c =
    let r = c.args.row.now in
    let read : to_z w64 (of_z w64 r.centre) ≡ r.centre = search rules in
    let n = (rw read at c.unsigned_abs.ensures.value) in
    record { fits = omega (arith, span_is r c.args.count c.requires.none.1 n c.absolutes.ensures c.absolutes-2.ensures, c.requires.small) }

pub range_around-requires : goal.range_around-requires
range_around-requires c =
    let r = c.args.row.now in
    let read : to_z w64 (of_z w64 r.centre) ≡ r.centre = search rules in
    let long : length r.pair ≡ pairs = search rules in
    let n = (rw read at c.unsigned_abs.ensures.value) in
    let e = span_is r c.args.count c.requires.none.1 n c.absolutes.ensures c.absolutes-2.ensures in
    let within : span r ≤ span_limit = (rw e at c.if-unsigned_abs-radius-le-SPAN_LIMIT.true) in
    let linear = linear_is r c.args.count c.requires.none.1 n c.absolutes.ensures c.absolutes-2.ensures in
    (long, omega (arith, c.absolutes-2.ensures), rw read (omega (arith, within, linear, c.absolutes-2.ensures, span_is_sum r)))

pub returns-then-unsigned_abs-radius-le-SPAN_LIMIT : goal.returns-then-unsigned_abs-radius-le-SPAN_LIMIT
unfolding low high
returns-then-unsigned_abs-radius-le-SPAN_LIMIT c =
    let r = c.args.row.now in
    let read : to_z w64 (of_z w64 r.centre) ≡ r.centre = search rules in
    let n = (rw read at c.unsigned_abs.ensures.value) in
    let e = span_is r c.args.count c.requires.none.1 n c.absolutes.ensures c.absolutes-2.ensures in
    let linear = linear_is r c.args.count c.requires.none.1 n c.absolutes.ensures c.absolutes-2.ensures in
    let radius_told = radius_is r c.args.count c.requires.none.1 n c.absolutes.ensures c.absolutes-2.ensures in
    let below : span r ≤ span_limit = (rw e at c.if-unsigned_abs-radius-le-SPAN_LIMIT.true) in
    let left : (c.absolutes.result + c.absolutes-2.result) - sum_abs r.pair ≡ sum_abs r.linear = omega (arith, linear, c.absolutes-2.ensures) in
    let low_is = (rw (read, left) at c.range_around.ensures.low) in
    let high_is = (rw (read, left) at c.range_around.ensures.high) in
    rw (le-leb (span r) span_limit below)
    (λ i. Some (record { radius = radius_told i; range = record { low = low_is i; high = high_is i } }))

pub returns-else-unsigned_abs-radius-le-SPAN_LIMIT : goal.returns-else-unsigned_abs-radius-le-SPAN_LIMIT
returns-else-unsigned_abs-radius-le-SPAN_LIMIT c =
    let r = c.args.row.now in
    let read : to_z w64 (of_z w64 r.centre) ≡ r.centre = search rules in
    let n = (rw read at c.unsigned_abs.ensures.value) in
    let e = span_is r c.args.count c.requires.none.1 n c.absolutes.ensures c.absolutes-2.ensures in
    rw (lt-leb (span r) span_limit (rw e at c.if-unsigned_abs-radius-le-SPAN_LIMIT.false)) refl
