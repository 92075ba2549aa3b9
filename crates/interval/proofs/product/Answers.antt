-- `product` meets its contract: no product of ends wraps, nor does the greatest with its sign turned; the code chooses among them as the definition does.
use mathlib.Core.Path.{◌≡◌, ap, ◌∙◌}
use Prim.Native.Nat.{◌*◌, ◌≤◌}
use native.Mathlib.Omega.{arith}
use lib.IntN.{ℤ, pos, neg_ℤ, nat_abs, +ℤ_idl, ◌-ℤ◌, ◌*ℤ◌}
use mir.Syntax.{w64}
use mir.Val.{SFits, to_z, of_z}
use Rattle.integer.specs.Floor.{floor_quotient}
use Rattle.integer.proofs.Absolute.{nat_abs_neg, fits_within}
use Rattle.integer.proofs.Floor.{nat_abs_quotient}
use Rattle.integer.proofs.Machine.{back, back_as, operation_gives}
use Rattle.affine.specs.declared.Range.{Range}
use Rattle.affine.specs.Limits.{unit, span_limit}
use Rattle.interval.specs.Interval.{RangeWithin, least_product, greatest_product}
use Rattle.interval.proofs.Ends.{lesser_given, greater_given}
use Rattle.interval.proofs.Sizes.{product_fits, greatest_within}
use Rattle.interval.proofs.product.Goals as goal

-- ---- a product of ends, as the machine gives it
given : (a b : ℤ) → nat_abs a ≤ span_limit → nat_abs b ≤ span_limit → to_z w64 (of_z w64 (to_z w64 (of_z w64 a) *ℤ to_z w64 (of_z w64 b))) ≡ a *ℤ b
given a b p q = operation_gives ◌*ℤ◌ (fits_within a span_limit p (omega arith)) (fits_within b span_limit q (omega arith)) (product_fits a b p q)

-- ---- the greatest
greatest_is : (c : goal.After-floor_quotient_4096-low) → to_z w64 (of_z w64 c.max-greatest.result) ≡ greatest_product c.args.x c.args.y
unfolding greatest_product
greatest_is c =
    let x = c.args.x in
    let y = c.args.y in
    let r = c.requires in
    back c.max-greatest.type_inv
    ∙ greater_given c.max-greatest.ensures.value
    (back c.max.type_inv ∙ greater_given c.max.ensures.value (given x.low y.low r.0.low_in r.1.low_in) (given x.low y.high r.0.low_in r.1.high_in))
    (back c.max-2.type_inv ∙ greater_given c.max-2.ensures.value (given x.high y.low r.0.high_in r.1.low_in) (given x.high y.high r.0.high_in r.1.high_in))

-- ---- the greatest with its sign turned
turned : (c : goal.After-floor_quotient_4096-low) → pos 0 -ℤ to_z w64 (of_z w64 c.max-greatest.result) ≡ neg_ℤ (greatest_product c.args.x c.args.y)
turned c = +ℤ_idl (neg_ℤ (to_z w64 (of_z w64 c.max-greatest.result))) ∙ ap neg_ℤ (greatest_is c)

turned_fits : (x y : Range) → RangeWithin span_limit x → RangeWithin span_limit y → SFits w64 (neg_ℤ (greatest_product x y))
turned_fits x y p q = fits_within _ (span_limit * span_limit) (omega (arith, nat_abs_neg (greatest_product x y), greatest_within p q)) (omega arith)

pub overflow_sub-greatest : goal.overflow_sub-greatest
overflow_sub-greatest c = rw (turned c) (turned_fits c.args.x c.args.y c.requires.0 c.requires.1)

-- ---- its quotient, and that with its sign turned back
abbrev quotient : Range → Range → ℤ
quotient x y = floor_quotient (neg_ℤ (greatest_product x y)) (pos unit)

turned_back : (c : goal.After-floor_quotient_4096-low) (q : ℤ) → to_z w64 (of_z w64 q) ≡ q
    → q ≡ floor_quotient (to_z w64 (of_z w64 (pos 0 -ℤ to_z w64 (of_z w64 c.max-greatest.result)))) (pos unit)
    → pos 0 -ℤ to_z w64 (of_z w64 q) ≡ neg_ℤ (quotient c.args.x c.args.y)
turned_back c q b e =
    +ℤ_idl (neg_ℤ (to_z w64 (of_z w64 q)))
    ∙ ap neg_ℤ (b ∙ e ∙ ap (λ z. floor_quotient z (pos unit)) (back_as (turned c) (turned_fits c.args.x c.args.y c.requires.0 c.requires.1)))

back_fits : (x y : Range) → RangeWithin span_limit x → RangeWithin span_limit y → SFits w64 (neg_ℤ (quotient x y))
back_fits x y p q =
    let g = greatest_product x y in
    fits_within _ (span_limit * span_limit)
    (omega (arith, nat_abs_neg (quotient x y), nat_abs_quotient (neg_ℤ g) (pos unit), nat_abs_neg g, greatest_within p q)) (omega arith)

pub overflow_sub-high : goal.overflow_sub-high
overflow_sub-high c =
    let h = c.floor_quotient_4096-high in
    rw (turned_back c.before h.result (back h.type_inv) h.ensures.value)
    (back_fits c.args.x c.args.y c.requires.0 c.requires.1)

pub returns : goal.returns
unfolding least_product
returns c =
    let x = c.args.x in
    let y = c.args.y in
    let r = c.requires in
    let q = c.floor_quotient_4096-low in
    let h = c.floor_quotient_4096-high in
    let least : c.min-least.result ≡ least_product x y =
    lesser_given c.min-least.ensures.value
    (back c.min.type_inv ∙ lesser_given c.min.ensures.value (given x.low y.low r.0.low_in r.1.low_in) (given x.low y.high r.0.low_in r.1.high_in))
    (back c.min-2.type_inv ∙ lesser_given c.min-2.ensures.value (given x.high y.low r.0.high_in r.1.low_in) (given x.high y.high r.0.high_in r.1.high_in))
    in
    λ i. record {
      low = (back q.type_inv ∙ q.ensures.value ∙ ap (λ z. floor_quotient z (pos unit)) (back c.min-least.type_inv ∙ least)) i;
      high = back_as (turned_back c.before h.result (back h.type_inv) h.ensures.value) (back_fits x y r.0 r.1) i;
    }
