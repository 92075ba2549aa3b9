-- Ends that are within the span limit: their sums, differences and products fit, and so does the greatest product.
use Prim.Native.Nat.{◌+◌, ◌*◌, ◌≤◌}
use native.Mathlib.Omega.{arith}
use lib.IntN.{ℤ, nat_abs, ◌+ℤ◌, ◌-ℤ◌, ◌*ℤ◌}
use lib.Signed.{le_z}
use mir.Syntax.{w64}
use mir.Val.{SFits}
use Rattle.integer.proofs.Absolute.{nat_abs_add_within, nat_abs_sub_within, nat_abs_mul_within, fits_within}
use Rattle.affine.specs.declared.Range.{Range}
use Rattle.affine.specs.Limits.{span_limit}
use Rattle.affine.proofs.Lists.{pick_elim}
use Rattle.interval.specs.Interval.{greater, greatest_product, RangeWithin}

-- two numbers within the span limit
module _ (a b : ℤ) (ha : nat_abs a ≤ span_limit) (hb : nat_abs b ≤ span_limit) where
  pub sum_fits : SFits w64 (a +ℤ b)
  sum_fits = fits_within (a +ℤ b) (span_limit + span_limit) (nat_abs_add_within a b ha hb) (omega arith)

  pub difference_fits : SFits w64 (a -ℤ b)
  difference_fits = fits_within (a -ℤ b) (span_limit + span_limit) (nat_abs_sub_within a b ha hb) (omega arith)

  pub product_fits : SFits w64 (a *ℤ b)
  product_fits = fits_within (a *ℤ b) (span_limit * span_limit) (nat_abs_mul_within a b ha hb) (omega arith)

-- the greatest product of ends
module _ {x y : Range} (hx : RangeWithin span_limit x) (hy : RangeWithin span_limit y) where
  within : (a b : ℤ) → nat_abs a ≤ span_limit * span_limit → nat_abs b ≤ span_limit * span_limit → nat_abs (greater a b) ≤ span_limit * span_limit
  within a b ha hb = pick_elim (λ z. nat_abs z ≤ span_limit * span_limit) (le_z a b) b a (λ e. hb) (λ e. ha)

  pub greatest_within : nat_abs (greatest_product x y) ≤ span_limit * span_limit
  unfolding greatest_product
  greatest_within =
      let a = x.low *ℤ y.low in
      let b = x.low *ℤ y.high in
      let c = x.high *ℤ y.low in
      let d = x.high *ℤ y.high in
      within (greater a b) (greater c d)
      (within a b (nat_abs_mul_within x.low y.low hx.low_in hy.low_in) (nat_abs_mul_within x.low y.high hx.low_in hy.high_in))
      (within c d (nat_abs_mul_within x.high y.low hx.high_in hy.low_in) (nat_abs_mul_within x.high y.high hx.high_in hy.high_in))
