-- What a product's own coefficient has to cover, the dropped part and all remainders: the sum of its parts, and its size.
use mathlib.Core.Path.{◌≡◌}
use Prim.Native.Nat.{ℕ, ◌+◌, ◌*◌, ◌≤◌}
use native.Mathlib.Omega.{arith}
use lib.IntN.{nat_abs, ◌*ℤ◌}
use Rattle.integer.specs.Sum.{sum_abs}
use Rattle.affine.specs.declared.Row.{Row}
use Rattle.affine.specs.Limits.{symbols, pairs, unit}
use Rattle.affine.specs.Row.{span}
use Rattle.affine.specs.Steps.{map_row}
use Rattle.affine.specs.Product.{linear_totals, pair_totals, totals, dropped, product_rounding}
use Rattle.affine.proofs.RowSize.{span_is_sum}
use Rattle.affine.proofs.Magnitude.{totals_within}
use Rattle.affine.proofs.Totals.{length_linear_totals, length_pair_totals}
use Rattle.affine.proofs.Rounding.{product_rounds}
use Rattle.affine.proofs.Divided.{remainders, remainders_within}

module _ (squares : ℕ) (x y : Row) where
  -- the remainders of all totals
  abbrev pub all_remainders : ℕ
  all_remainders = span (map_row product_rounding.remainder (totals squares x y))

  pub remainders_are_sum : nat_abs (product_rounding.remainder (x.centre *ℤ y.centre)) + sum_abs (remainders (linear_totals x y)) + sum_abs (remainders (pair_totals squares x y)) ≡ all_remainders
  remainders_are_sum = omega (arith, span_is_sum (map_row product_rounding.remainder (totals squares x y)))

  pub error_within : {n : ℕ} → span x ≤ n → span y ≤ n → dropped squares x y + all_remainders ≤ n * n + unit * (1 + symbols + pairs)
  error_within hx hy =
      omega (
        arith,
        remainders_are_sum,
        totals_within squares x y hx hy,
        product_rounds.remainder_small (x.centre *ℤ y.centre),
        remainders_within (linear_totals x y),
        remainders_within (pair_totals squares x y),
        length_linear_totals x y,
        length_pair_totals squares x y,
      )
