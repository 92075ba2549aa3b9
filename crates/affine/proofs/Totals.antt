-- The totals of a product: how many they are, from the parts of the two rows, and where they are 0; the dropped part from the radii of the rows.
use mathlib.Core.Path.{◌≡◌}
use Prim.Native.Nat.{ℕ, ◌-◌, ◌*◌, ◌≤◌}
use lib.IntN.{pos, *ℤ-zero}
use lib.ListN.{length, take}
use Rattle.integer.specs.Sum.{sum_abs}
use Rattle.affine.specs.declared.Row.{Row}
use Rattle.affine.specs.Limits.{symbols, pairs}
use Rattle.affine.specs.Row.{radius, NoneFrom}
use Rattle.affine.specs.Product.{linear_total, linear_totals, pair_totals, squared_radius, dropped}
use Rattle.affine.proofs.Lists.{length_tabulate}

pub length_linear_totals : (x y : Row) → length (linear_totals x y) ≡ symbols
unfolding linear_totals
length_linear_totals x y = length_tabulate symbols _

pub length_pair_totals : (squares : ℕ) (x y : Row) → length (pair_totals squares x y) ≡ pairs
unfolding pair_totals
length_pair_totals squares x y = length_tabulate pairs _

-- the dropped part, from the radii that are handed on
pub dropped_of_radii : (squares : ℕ) (x y : Row) {m n : ℕ} → m ≡ radius x → n ≡ radius y
    → m * n - sum_abs (take squares x.linear) * sum_abs (take squares y.linear) ≡ dropped squares x y
unfolding dropped squared_radius
dropped_of_radii squares x y e f = rw (e, f)

-- symbols of which neither row has a coefficient
pub linear_total_none : (x y : Row) (own : ℕ) → NoneFrom own x.linear → NoneFrom own y.linear → (i : ℕ) → own ≤ i → linear_total x y i ≡ pos 0
linear_total_none x y own hx hy i l = rw (hx i l, hy i l) (simp *ℤ-zero)
