-- What functions give by an index: numbers that leave nothing, totals of which nothing is taken, and totals divided under the rounding rule of a product.
use mathlib.Core.Path.{◌≡◌}
use Prim.Native.Nat.{ℕ, ◌*◌, ◌^◌, ◌≤◌, ◌<◌}
use native.Mathlib.Omega.{arith}
use lib.IntN.{ℤ, pos, nat_abs}
use Rattle.integer.specs.Sum.{sum_abs}
use Rattle.affine.specs.Limits.{symbols, pairs, unit}
use Rattle.affine.specs.Lists.{tabulate}
use Rattle.affine.specs.PairOrder.{in_use, over_used}
use Rattle.affine.specs.Product.{product_rounding}
use Rattle.affine.specs.ByIndex.{Parting}
use Rattle.affine.proofs.Lists.{pick_elim}
use Rattle.affine.proofs.SumLaws.{sum_abs_tabulate_each}
use Rattle.affine.proofs.Rounding.{product_rounds, quotient_zero, remainder_zero}

abbrev pub exactly : (ℕ → ℤ) → Parting
exactly f = record { number = f; remainder = λ i. pos 0 }

abbrev pub whole : (ℕ → ℤ) → Parting
whole f = record { number = f; remainder = f }

abbrev pub divided : (ℕ → ℤ) → Parting
divided f = record { number = λ i. product_rounding.quotient (f i); remainder = λ i. product_rounding.remainder (f i) }

-- a number of 0 leaves nothing under any of them
pub divided_none : {t : ℤ} → t ≡ pos 0 → (product_rounding.quotient t ≡ pos 0) × (product_rounding.remainder t ≡ pos 0)
divided_none e = rw e (quotient_zero, remainder_zero)

-- ---- sums of numbers that are at most m
pub used_each : (squares m : ℕ) (f : ℕ → ℤ) → ((k : ℕ) → nat_abs (f k) ≤ m) → sum_abs (over_used squares f) ≤ m * pairs
used_each squares m f h =
    sum_abs_tabulate_each pairs m _ (λ k. pick_elim (λ z. nat_abs z ≤ m) (in_use squares k) (f k) (pos 0) (λ t. h k) (λ t. omega arith))

module _ (f : ℕ → ℤ) where
  pub nothing_left : (n : ℕ) → sum_abs (tabulate n (exactly f).remainder) < 2 ^ 64
  nothing_left n = omega (arith, sum_abs_tabulate_each n 0 (exactly f).remainder (λ i. omega arith))

  pub nothing_left_used : (squares : ℕ) → sum_abs (over_used squares (exactly f).remainder) < 2 ^ 64
  nothing_left_used squares = omega (arith, used_each squares 0 (exactly f).remainder (λ i. omega arith))

  pub remainders_small : sum_abs (tabulate symbols (divided f).remainder) ≤ unit * symbols
  remainders_small = sum_abs_tabulate_each symbols unit _ (λ i. omega (arith, product_rounds.remainder_small (f i)))

  pub remainders_small_used : (squares : ℕ) → sum_abs (over_used squares (divided f).remainder) ≤ unit * pairs
  remainders_small_used squares = used_each squares unit _ (λ i. omega (arith, product_rounds.remainder_small (f i)))
