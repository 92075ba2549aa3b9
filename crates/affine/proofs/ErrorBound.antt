-- B, the bound of operand times candidate less 1: the sum of its four parts, and its size.
use mathlib.Core.Path.{◌≡◌, ap, ap₂, ◌∙◌}
use mir.Syntax.{w64}
use mir.Val.{SFits, to_z, of_z}
use mir.ValLaws.{to_z-of_z}
use lib.ListN.{take}
use Rattle.integer.proofs.Absolute.{fits_within}
use Rattle.affine.proofs.Totals.{dropped_of_radii}
use Rattle.affine.proofs.Magnitude.{centre_product_within}
use Prim.Native.Nat.{ℕ, ◌+◌, ◌-◌, ◌*◌, ◌^◌, ◌≤◌, ◌<◌}
use native.Mathlib.Omega.{arith}
use lib.IntN.{ℤ, pos, nat_abs, ◌-ℤ◌, ◌*ℤ◌}
use Rattle.integer.specs.Sum.{sum_abs}
use Rattle.integer.proofs.Absolute.{nat_abs_sub}
use Rattle.affine.specs.declared.Row.{Row}
use Rattle.affine.specs.Limits.{symbols, unit_squared, span_limit}
use Rattle.affine.specs.Lists.{tabulate}
use Rattle.affine.specs.PairOrder.{over_used}
use Rattle.affine.specs.Row.{span, radius}
use Rattle.affine.specs.Product.{linear_total, linear_totals, pair_total, pair_totals, totals, dropped}
use Rattle.affine.specs.Reciprocal.{less_one, error_bound}
use Rattle.affine.proofs.RowSize.{span_is_sum}
use Rattle.affine.proofs.Magnitude.{totals_within}
use Rattle.affine.proofs.ProductRow.{read_product, product_is}

module _ (squares : ℕ) (x z : Row) where
  -- the centre's total less N
  abbrev pub centre_less : ℤ
  centre_less = x.centre *ℤ z.centre -ℤ pos unit_squared

  pub error_bound_is_sum : nat_abs centre_less + sum_abs (linear_totals x z) + sum_abs (pair_totals squares x z) + dropped squares x z ≡ error_bound squares x z
  unfolding error_bound
  error_bound_is_sum = omega (arith, span_is_sum (less_one (totals squares x z)))

  pub error_bound_within : {n : ℕ} → span x ≤ n → span z ≤ n → error_bound squares x z ≤ n * n + unit_squared
  error_bound_within hx hz =
      omega (arith, error_bound_is_sum, totals_within squares x z hx hz, nat_abs_sub (x.centre *ℤ z.centre) (pos unit_squared))

-- ---- the bound as code comes to it: N is taken from the product of the centres; c, l and p are the absolute totals, d is the dropped part
module _ (x z : Row) (hx : span x ≤ span_limit) (hz : span z ≤ span_limit) where
  centre_less_fits : SFits w64 (centre_less 0 x z)
  centre_less_fits =
      fits_within (centre_less 0 x z) (span_limit * span_limit + unit_squared)
      (omega (arith, nat_abs_sub (x.centre *ℤ z.centre) (pos unit_squared), centre_product_within 0 x z hx hz)) (omega arith)

  pub less_fits : SFits w64 (read_product x z -ℤ pos unit_squared)
  less_fits = rw (product_is x z hx hz) centre_less_fits

  less_is : to_z w64 (of_z w64 (read_product x z -ℤ pos unit_squared)) ≡ x.centre *ℤ z.centre -ℤ pos unit_squared
  less_is = rw (product_is x z hx hz) (to_z-of_z w64 (x.centre *ℤ z.centre -ℤ pos unit_squared) centre_less_fits)

  pub linear_small : sum_abs (tabulate symbols (linear_total x z)) < 2 ^ 64
  unfolding linear_totals
  linear_small = let h = totals_within 0 x z hx hz in omega arith

  pub pair_small : (squares : ℕ) → sum_abs (over_used squares (pair_total x z)) < 2 ^ 64
  unfolding pair_totals
  pair_small squares = let h = totals_within squares x z hx hz in omega arith

  pub error_is : (squares : ℕ) {m n c l p d : ℕ} → m ≡ radius x → n ≡ radius z → c ≡ nat_abs (to_z w64 (of_z w64 (read_product x z -ℤ pos unit_squared)))
      → l ≡ sum_abs (tabulate symbols (linear_total x z)) → p ≡ sum_abs (over_used squares (pair_total x z))
      → d ≡ m * n - sum_abs (take squares x.linear) * sum_abs (take squares z.linear)
      → c + l + p + d ≡ error_bound squares x z
  unfolding linear_totals pair_totals
  error_is squares mx nz ec el ep ed =
      ap₂ ◌+◌ (ap₂ ◌+◌ (ap₂ ◌+◌ (ec ∙ ap nat_abs less_is) el) ep) (ed ∙ dropped_of_radii squares x z mx nz)
      ∙ error_bound_is_sum squares x z

  pub error_small : (squares : ℕ) {n : ℕ} → n ≡ error_bound squares x z → n ≤ span_limit * span_limit + unit_squared
  error_small squares e = rw e (error_bound_within squares x z hx hz)
