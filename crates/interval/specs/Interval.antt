-- Plain interval arithmetic on ranges (manual, section 5.15): "Each row also gets a plain range by section 2.1 of source document 000, low ends rounded
-- down and high ends up, the root's two ends rounded down". The formulas are those of that section; ends are in units of 1/4096.
use Rattle.std.specs.Prelude.{ℕ, ◌≤◌, ℤ, pos, nat_abs, ◌+ℤ◌, ◌-ℤ◌, ◌*ℤ◌}
use Rattle.std.specs.Int.Signed.{le_z}
use Rattle.integer.specs.Floor.{floor_quotient, rounded_up}
use Rattle.affine.specs.declared.Range.{Range}
use Rattle.affine.specs.Limits.{unit, unit_squared}
use Rattle.affine.specs.Lists.{pick}
use Rattle.affine.specs.Steps.{ends_range}
use Rattle.affine.specs.Root.{unit_root}

-- the lesser and the greater of two numbers
abbrev pub lesser : ℤ → ℤ → ℤ
lesser a b = pick (le_z a b) a b

abbrev pub greater : ℤ → ℤ → ℤ
greater a b = pick (le_z a b) b a

-- a constant: its value at both ends
abbrev pub exactly : ℤ → Range
exactly v = ends_range v v

-- [a, b] + [c, d] = [a + c, b + d]
abbrev pub sum : Range → Range → Range
sum x y = ends_range (x.low +ℤ y.low) (x.high +ℤ y.high)

-- [a, b] - [c, d] = [a - d, b - c]
abbrev pub difference : Range → Range → Range
difference x y = ends_range (x.low -ℤ y.high) (x.high -ℤ y.low)

-- [a, b] · [c, d] = [min {ac, ad, bc, bd}, max {ac, ad, bc, bd}], in units over 4096. A row times itself has no rule of its own.
unfoldable pub least_product : Range → Range → ℤ
least_product x y = lesser (lesser (x.low *ℤ y.low) (x.low *ℤ y.high)) (lesser (x.high *ℤ y.low) (x.high *ℤ y.high))

unfoldable pub greatest_product : Range → Range → ℤ
greatest_product x y = greater (greater (x.low *ℤ y.low) (x.low *ℤ y.high)) (greater (x.high *ℤ y.low) (x.high *ℤ y.high))

abbrev pub product : Range → Range → Range
product x y = ends_range (floor_quotient (least_product x y) (pos unit)) (rounded_up (greatest_product x y) (pos unit))

-- 1 / [c, d] = [1/d, 1/c] where 0 is not in [c, d], in units N over the ends, of either sign
abbrev pub reciprocal : Range → Range
reciprocal x = ends_range (floor_quotient (pos unit_squared) x.high) (rounded_up (pos unit_squared) x.low)

-- "the root's two ends rounded down": the whole-number roots of 4096 × both ends
abbrev pub root : Range → Range
root x = ends_range (pos (unit_root x.low)) (pos (unit_root x.high))

-- "The answered and printed range is the overlap with the row's own."
abbrev pub overlap : Range → Range → Range
overlap x y = ends_range (greater x.low y.low) (lesser x.high y.high)

-- ---- what the code asks of a range (not of the specification): both ends at most n from 0
pub record RangeWithin (n : ℕ) (range : Range) : Type 0 where
  pub low_in : nat_abs range.low ≤ n
  pub high_in : nat_abs range.high ≤ n
