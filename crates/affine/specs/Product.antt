-- "What each row becomes": multiply (manual, section 5.7).
use Rattle.std.specs.Prelude.{List, ℕ, ◌+◌, ◌*◌, ◌-◌, eqb, ℤ, pos, negsuc, ◌+ℤ◌, ◌*ℤ◌, ◌≤ℤ◌, take}
use Rattle.integer.specs.Floor.{ceiling_quotient}
use Rattle.integer.specs.Nearest.{nearest_quotient, nearest_remainder, IsNearest}
use Rattle.integer.specs.Sum.{sum_abs}
use Rattle.affine.specs.declared.Row.{Row}
use Rattle.affine.specs.Answer.{Answer}
use Rattle.affine.specs.Limits.{symbols, unit}
use Rattle.affine.specs.Lists.{pick, at, tabulate}
use Rattle.affine.specs.PairOrder.{first_of, second_of, over_used}
use Rattle.affine.specs.Row.{span, radius}
use Rattle.affine.specs.Steps.{with_own, map_row, checked}

-- "the linear products that meet in that pair (one for (i,i), two otherwise)"
abbrev pub meeting : List ℤ → List ℤ → ℕ → ℕ → ℤ
meeting a b i j = pick (eqb i j) (at a i *ℤ at b j) (at a i *ℤ at b j +ℤ at a j *ℤ at b i)

-- c times the second's number plus d times the first's
abbrev pub crosswise : ℤ → ℤ → ℤ → ℤ → ℤ
crosswise c b d a = c *ℤ b +ℤ d *ℤ a

-- "With c and d the centres, form these totals: centre cd; for symbol i, c times the second's coefficient plus d times the first's;
abbrev pub linear_total : Row → Row → ℕ → ℤ
linear_total x y i = crosswise x.centre (at y.linear i) y.centre (at x.linear i)

unfoldable pub linear_totals : Row → Row → List ℤ
linear_totals x y = tabulate symbols (linear_total x y)

-- for each pair in use, c and d times the pair coefficients crosswise, plus the linear products that meet in that pair"
abbrev pub pair_total : Row → Row → ℕ → ℤ
pair_total x y k =
    crosswise x.centre (at y.pair k) y.centre (at x.pair k) +ℤ meeting x.linear y.linear (first_of k) (second_of k)

unfoldable pub pair_totals : ℕ → Row → Row → List ℤ
pair_totals squares x y = over_used squares (pair_total x y)

abbrev pub totals : ℕ → Row → Row → Row
totals squares x y =
    record { centre = x.centre *ℤ y.centre; linear = linear_totals x y; pair = pair_totals squares x y }

-- "linear absolutes of the first "squares" symbols"
unfoldable pub squared_radius : ℕ → Row → ℕ
squared_radius squares r = sum_abs (take squares r.linear)

-- "Dropped part: (all linear and pair absolutes of the first) × (the same of the second), less (linear absolutes of the first "squares"
-- symbols of the first) × (the same of the second)."
unfoldable pub dropped : ℕ → Row → Row → ℕ
dropped squares x y = radius x * radius y - squared_radius squares x * squared_radius squares y

-- The rounding rule of a division by the unit: a quotient, and what is left.
pub record Rounding : Type 0 where
  pub quotient : ℤ → ℤ
  pub remainder : ℤ → ℤ

-- "A multiply's totals are divided to the nearest whole number, exact halves upward, ..
abbrev pub product_rounding : Rounding
product_rounding =
    record { quotient = λ t. nearest_quotient t unit; remainder = λ t. nearest_remainder t unit }

-- .. and remainders run from -2048 to 2047": a claim, which `remainders_run` in `proofs/Rounding.antt` proves
abbrev pub RemaindersRun : Type 0
RemaindersRun = (t : ℤ) → (negsuc 2047 ≤ℤ product_rounding.remainder t) × (product_rounding.remainder t ≤ℤ pos 2047)

-- a claim of every total, which `rounds_to_nearest` there proves: quotient and remainder are the pair of division to the nearest, exact halves upward
abbrev pub RoundsToNearest : Type 0
RoundsToNearest = (t : ℤ) → IsNearest t unit (product_rounding.quotient t) (product_rounding.remainder t)

-- "Own coefficient: (dropped part + all remainders) / 4096, up." "their absolute values are summed"
unfoldable pub product_own : ℕ → Row → Row → ℕ
product_own squares x y =
    ceiling_quotient (dropped squares x y + span (map_row product_rounding.remainder (totals squares x y))) unit

unfoldable pub product_row : ℕ → ℕ → Row → Row → Row
product_row squares own x y =
    with_own own (pos (product_own squares x y)) (map_row product_rounding.quotient (totals squares x y))

abbrev pub product : ℕ → ℕ → Row → Row → Answer
product squares own x y = checked (product_row squares own x y)
