-- "What each row becomes": root (manual, section 5.9). "Emitters that follow the root of pressure": in units of 1/4096 the root of X units is the
-- root of 4096 × X.
use Rattle.std.specs.Prelude.{Bool, List, ℕ, ◌+◌, ℤ, pos, ◌-ℤ◌, ◌*ℤ◌, ◌≤ℤ◌}
use Rattle.std.specs.Int.Signed.{lt_z}
use Rattle.integer.specs.Floor.{floor_quotient, ceiling_quotient}
use Rattle.integer.specs.Root.{integer_root}
use Rattle.affine.specs.declared.Row.{Row}
use Rattle.affine.specs.declared.Range.{Range}
use Rattle.affine.specs.Answer.{SpanPassed, NoRoot}
use Rattle.affine.specs.Answer.{Answer}
use Rattle.affine.specs.Limits.{symbols, pairs, unit, half_unit}
use Rattle.affine.specs.Lists.{pick, at, tabulate}
use Rattle.affine.specs.PairOrder.{over_used}
use Rattle.affine.specs.Row.{span, within_span, low}
use Rattle.affine.specs.Steps.{with_own, refused, checked}
use Rattle.affine.specs.Product.{linear_total, pair_total, dropped}
use Rattle.affine.specs.Reciprocal.{ApartOutweighs}

-- "the whole-number root of 4096 × X, rounded down"
unfoldable pub unit_root : ℤ → ℕ
unit_root v = integer_root (pos unit *ℤ v)

-- "each other number is 2048 × the operand's, divided by z"
abbrev pub root_slope : ℕ → ℤ → ℤ
root_slope z v = floor_quotient (pos half_unit *ℤ v) (pos z)

-- "With centre c the candidate's centre z is that root of 4096 × c"
abbrev pub root_candidate : Row → Row
root_candidate x =
    record {
      centre = pos (unit_root x.centre);
      linear = tabulate symbols (λ i. root_slope (unit_root x.centre) (at x.linear i));
      pair = tabulate pairs (λ k. root_slope (unit_root x.centre) (at x.pair k));
    }

-- "4096 × operand less candidate times candidate", number by number: what a total misses
abbrev pub missed : ℤ → ℤ → ℤ
missed v t = pos unit *ℤ v -ℤ t

abbrev pub linear_miss : Row → Row → ℕ → ℤ
linear_miss x z i = missed (at x.linear i) (linear_total z z i)

unfoldable pub linear_misses : Row → Row → List ℤ
linear_misses x z = tabulate symbols (linear_miss x z)

abbrev pub pair_miss : Row → Row → ℕ → ℤ
pair_miss x z k = missed (at x.pair k) (pair_total z z k)

unfoldable pub pair_misses : ℕ → Row → Row → List ℤ
pair_misses squares x z = over_used squares (pair_miss x z)

abbrev pub misses : ℕ → Row → Row → Row
misses squares x z =
    record { centre = missed x.centre (z.centre *ℤ z.centre); linear = linear_misses x z; pair = pair_misses squares x z }

-- "B bounds 4096 × operand less candidate times candidate, totals and dropped part as for a reciprocal."
unfoldable pub square_error : ℕ → Row → Row → ℕ
square_error squares x z = span (misses squares x z) + dropped squares z z

-- "Own coefficient is B divided by the root of 4096 × low, up, plus 1."
unfoldable pub root_own : ℕ → Row → ℤ → ℕ
root_own squares x least = ceiling_quotient (square_error squares x (root_candidate x)) (unit_root least) + 1

unfoldable pub root_row : ℕ → ℕ → Row → ℤ → Row
root_row squares own x least = with_own own (pos (root_own squares x least)) (root_candidate x)

-- "low below 1"
abbrev pub below_one : Range → Bool
below_one own = lt_z own.low (pos 1)

-- "the candidate's own range starts below 0"
abbrev pub starts_below_zero : Row → Bool
starts_below_zero z = lt_z (low z) (pos 0)

-- "A candidate over the span limit gives 6 before its range is looked at."
abbrev pub root_from : ℕ → ℕ → Row → ℤ → Answer
root_from squares own x least =
    pick (within_span (root_candidate x))
    (pick (starts_below_zero (root_candidate x)) (refused NoRoot) (checked (root_row squares own x least)))
    (refused SpanPassed)

-- "12: low below 1, or the candidate's own range starts below 0": of an operand x with its own range
abbrev pub square_root : ℕ → ℕ → Row → Range → Answer
square_root squares own x range = pick (below_one range) (refused NoRoot) (root_from squares own x range.low)

-- ---- what the code asks of an operand and its range (not of the specification), for a reciprocal and for a root
pub record Centred (range : Range) (x : Row) : Type 0 where
  pub outweighs : ApartOutweighs range x
  pub low_below : range.low ≤ℤ x.centre
