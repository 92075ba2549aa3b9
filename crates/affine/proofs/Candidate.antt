-- The numbers of a reciprocal's candidate: how many they are, and their size and span where the centre outweighs the linear coefficients.
use mathlib.Core.Path.{◌≡◌}
use Prim.Native.Nat.{ℕ, ◌+◌, ◌*◌, ◌^◌, ◌≤◌, ◌<◌}
use native.Mathlib.Omega.{arith}
use lib.IntN.{ℤ, pos, nat_abs, ◌*ℤ◌, *ℤ-zero}
use Rattle.integer.specs.Sum.{sum_abs}
use Rattle.integer.proofs.Floor.{nat_abs_quotient, zero_quotient}
use Rattle.integer.proofs.Sum.{sum_abs_element}
use Rattle.affine.specs.declared.Row.{Row}
use Rattle.affine.specs.Limits.{symbols, pairs, unit_squared, span_limit}
use Rattle.affine.specs.Lists.{at}
use Rattle.affine.specs.PairOrder.{first_of, second_of, in_use}
use Rattle.affine.specs.Row.{span}
use Rattle.affine.specs.Product.{meeting}
use Rattle.affine.specs.Reciprocal.{slope, candidate_linear, curve, candidate_pair, candidate}
use Rattle.affine.proofs.Lists.{pick_elim, at_tabulate_all}
use Rattle.affine.proofs.SumLaws.{sum_abs_tabulate_each}
use Rattle.affine.proofs.RowSize.{span_is_sum, linear_at_within, pair_at_within}
use Rattle.affine.proofs.Magnitude.{meeting_within}
use Rattle.affine.proofs.CandidateSize.{slope_within_unit, curve_at_most}

pub slope_zero : (c : ℤ) → slope c (pos 0) ≡ pos 0
slope_zero c = rw *ℤ-zero (zero_quotient (c *ℤ c))

module _ (x : Row) (some : 0 < nat_abs x.centre) (h : sum_abs x.linear ≤ nat_abs x.centre) where
  slope_within : (i : ℕ) → nat_abs (slope x.centre (at x.linear i)) ≤ unit_squared
  slope_within i = slope_within_unit x.centre (at x.linear i) some (omega (arith, sum_abs_element x.linear i))

  pub candidate_linear_within : (i : ℕ) → nat_abs (at (candidate_linear x) i) ≤ unit_squared
  unfolding candidate_linear
  candidate_linear_within =
      at_tabulate_all (λ z. nat_abs z ≤ unit_squared) symbols (λ i. slope x.centre (at x.linear i)) (omega arith) slope_within

  pub candidate_meeting_within : span x ≤ span_limit → (i j : ℕ) → nat_abs (meeting (candidate_linear x) x.linear i j) ≤ 2 * (unit_squared * span_limit)
  candidate_meeting_within within = meeting_within (candidate_linear x) x.linear candidate_linear_within (linear_at_within x within)

-- ---- its span
module _ (squares : ℕ) (x : Row) (some : 0 < nat_abs x.centre) (h : sum_abs x.linear ≤ nat_abs x.centre) (within : span x ≤ span_limit) where
  linear_sum : sum_abs (candidate_linear x) ≤ unit_squared * symbols
  unfolding candidate_linear
  linear_sum = sum_abs_tabulate_each symbols unit_squared (λ i. slope x.centre (at x.linear i)) (slope_within x some h)

  -- the slope's part, and the products that meet
  abbrev curve_most : ℕ
  curve_most = unit_squared * span_limit + 2 * (unit_squared * span_limit)

  curve_within : (k : ℕ) → nat_abs (curve x k) ≤ curve_most
  curve_within k =
      let met = meeting (candidate_linear x) x.linear (first_of k) (second_of k) in
      curve_at_most x.centre (at x.pair k) met (pair_at_within x within k) (candidate_meeting_within x some h within (first_of k) (second_of k))

  pair_sum : sum_abs (candidate_pair squares x) ≤ curve_most * pairs
  unfolding candidate_pair
  pair_sum =
      sum_abs_tabulate_each pairs curve_most _
      (λ k. pick_elim (λ z. nat_abs z ≤ curve_most) (in_use squares k) _ (pos 0) (λ e. curve_within k) (λ e. omega arith))

  pub span_candidate : span (candidate squares x) < 2 ^ 64
  span_candidate =
      omega (arith, span_is_sum (candidate squares x), nat_abs_quotient (pos unit_squared) x.centre, linear_sum, pair_sum)
