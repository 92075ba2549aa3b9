-- How the code measures a new row: the span test, and the range of its form from the same sum of absolute coefficients. From that sum it comes to the ends
-- by going from pair (i,i) to pair (i,i), whose products reach to one side of 0 only. (Not of the specification.)
use Rattle.std.specs.Prelude.{Bool, true, List, Option, Some, None, ℕ, zero, suc, ◌+◌, ℤ}
use Rattle.affine.specs.declared.Row.{Row}
use Rattle.affine.specs.declared.form_range.Size.{Size}
use Rattle.affine.specs.Limits.{paired}
use Rattle.affine.specs.Lists.{pick, at}
use Rattle.affine.specs.Row.{pair_below, pair_above, radius, within_span, form_range}

-- how far the term of a pair (i,i) goes above 0, or below it
abbrev pub square_reach : Bool → ℤ → ℕ
square_reach above v = pick above (pair_above true v) (pair_below true v)

-- those of the last n symbols, of which the first has its pair at index k: its pairs with the later ones stand before the next such pair
unfoldable pub squares_from : Bool → List ℤ → ℕ → ℕ → ℕ
squares_from above p zero k = 0
squares_from above p (suc n) k = square_reach above (at p k) + squares_from above p n (k + suc n)

abbrev pub squares_reach : Bool → List ℤ → ℕ
squares_reach above p = squares_from above p paired 0

-- of a row within the span limit, its radius and the range of its form
abbrev pub measured : Row → Option Size
measured r = pick (within_span r) (Some (record { radius = radius r; range = form_range r })) None
