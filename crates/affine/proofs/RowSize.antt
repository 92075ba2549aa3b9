-- The numbers of a row against its span: the span is the centre's, the linear and the pair absolutes added up.
use mathlib.Core.Path.{◌≡◌, ap}
use Prim.Native.Nat.{ℕ, ◌+◌, ◌≤◌}
use native.Mathlib.Omega.{arith}
use mathlib.Core.List.{List}
use lib.IntN.{ℤ, nat_abs}
use Rattle.integer.specs.Sum.{sum_abs}
use Rattle.integer.proofs.Sum.{sum_abs_append, sum_abs_element}
use Rattle.affine.specs.declared.Row.{Row}
use Rattle.affine.specs.Lists.{at}
use Rattle.affine.specs.Row.{span, radius}

pub span_is_sum : (r : Row) → span r ≡ nat_abs r.centre + (sum_abs r.linear + sum_abs r.pair)
unfolding span
span_is_sum r = ap (λ n. nat_abs r.centre + n) (sum_abs_append r.linear r.pair)

pub element_within : {n : ℕ} (xs : List ℤ) → sum_abs xs ≤ n → (i : ℕ) → nat_abs (at xs i) ≤ n
element_within xs h i = omega (arith, sum_abs_element xs i)

pub linear_within_radius : (r : Row) → sum_abs r.linear ≤ radius r
unfolding radius
linear_within_radius r = omega arith

-- of a row whose span is at most n
module _ {n : ℕ} (r : Row) (h : span r ≤ n) where
  pub centre_within : nat_abs r.centre ≤ n
  centre_within = omega (arith, span_is_sum r)

  pub linear_within : sum_abs r.linear ≤ n
  linear_within = omega (arith, span_is_sum r)

  pub pair_within : sum_abs r.pair ≤ n
  pair_within = omega (arith, span_is_sum r)

  pub parts_within : sum_abs r.linear + sum_abs r.pair ≤ n
  parts_within = omega (arith, span_is_sum r)

  pub radius_within : radius r ≤ n
  unfolding radius
  radius_within = parts_within

  pub linear_at_within : (i : ℕ) → nat_abs (at r.linear i) ≤ n
  linear_at_within = element_within r.linear linear_within

  pub pair_at_within : (k : ℕ) → nat_abs (at r.pair k) ≤ n
  pair_at_within = element_within r.pair pair_within

-- a radius that is told, against the linear coefficients and the span
pub radius_told : (r : Row) {m n : ℕ} → m ≡ radius r → span r ≤ n → (sum_abs r.linear ≤ m) × (m ≤ n)
radius_told r e h = (omega (arith, e, linear_within_radius r), omega (arith, e, radius_within r h))
