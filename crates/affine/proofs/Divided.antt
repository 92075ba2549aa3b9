-- Totals divided under the rounding rule of a product: the remainders are small, and the totals of all symbols, or of all pairs in use, are divided each by itself.
use mathlib.Core.Path.{◌≡◌}
use mathlib.Core.List.{List, [], ◌∷◌, map}
use Prim.Native.Nat.{ℕ, ◌*◌, ◌≤◌}
use native.Mathlib.Omega.{arith}
use lib.IntN.{ℤ, pos}
use lib.ListN.{length}
use Rattle.integer.specs.Sum.{sum_abs}
use Rattle.affine.specs.declared.Row.{Row}
use Rattle.affine.specs.Limits.{symbols, unit}
use Rattle.affine.specs.Lists.{tabulate}
use Rattle.affine.specs.PairOrder.{over_used}
use Rattle.affine.specs.Product.{linear_total, linear_totals, pair_total, pair_totals, product_rounding}
use Rattle.affine.proofs.Lists.{map_tabulate}
use Rattle.affine.proofs.Columns.{map_used}
use Rattle.affine.proofs.Rounding.{product_rounds}

abbrev pub remainders : List ℤ → List ℤ
remainders t = map product_rounding.remainder t

pub remainders_within : (t : List ℤ) → sum_abs (remainders t) ≤ unit * length t
remainders_within [] = omega arith
remainders_within (x ∷ t) = let h = remainders_within t in omega (arith, product_rounds.remainder_small x)

-- ---- each total by itself, by a function that leaves 0
module _ (h : ℤ → ℤ) (x y : Row) where
  pub map_linear_totals : map h (linear_totals x y) ≡ tabulate symbols (λ i. h (linear_total x y i))
  unfolding linear_totals
  map_linear_totals = map_tabulate h symbols (linear_total x y)

  pub map_pair_totals : h (pos 0) ≡ pos 0 → (squares : ℕ) → map h (pair_totals squares x y) ≡ over_used squares (λ k. h (pair_total x y k))
  unfolding pair_totals
  map_pair_totals z squares = map_used h z squares (pair_total x y)
