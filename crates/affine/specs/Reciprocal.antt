-- "What each row becomes": reciprocal (manual, section 5.8), "after method 3 of source document 000 (section 5.3) with its error taken from x times
-- candidate less 1, as in (19)".
use Rattle.std.specs.Prelude.{Bool, false, List, ◌≡◌, ℕ, ◌+◌, ◌≤◌, ◌<◌, ℤ, pos, neg_ℤ, nat_abs, ◌+ℤ◌, ◌-ℤ◌, ◌*ℤ◌}
use Rattle.std.specs.Int.Signed.{le_z, lt_z}
use Rattle.integer.specs.Floor.{floor_quotient, ceiling_quotient}
use Rattle.integer.specs.Sum.{sum_abs}
use Rattle.affine.specs.declared.Row.{Row}
use Rattle.affine.specs.declared.Range.{Range}
use Rattle.affine.specs.Answer.{SpanPassed, ZeroInRange}
use Rattle.affine.specs.Answer.{Answer}
use Rattle.affine.specs.Limits.{symbols, unit_squared}
use Rattle.affine.specs.Lists.{pick, at, tabulate}
use Rattle.affine.specs.PairOrder.{first_of, second_of, over_used}
use Rattle.affine.specs.Row.{span, within_span}
use Rattle.affine.specs.Steps.{with_own, refused, checked}
use Rattle.affine.specs.Product.{meeting, totals, dropped}

-- "reciprocal where low is at most 0 and high at least 0"
abbrev pub zero_in_range : Range → Bool
zero_in_range own = pick (le_z own.low (pos 0)) (le_z (pos 0) own.high) false

-- "a the distance of its range from 0": "an input row's range is its own low and high, and a reciprocal takes its distance from 0 from that"
abbrev pub distance : Range → ℕ
distance own = pick (lt_z (pos 0) own.low) (nat_abs own.low) (nat_abs own.high)

-- "for each symbol, (-N × coefficient) / c²"
abbrev pub slope : ℤ → ℤ → ℤ
slope c v = floor_quotient (neg_ℤ (pos unit_squared) *ℤ v) (c *ℤ c)

unfoldable pub candidate_linear : Row → List ℤ
candidate_linear x = tabulate symbols (λ i. slope x.centre (at x.linear i))

-- "for each pair in use, (-N × pair coefficient) / c², plus the following, divided by c: for (i,i) minus the candidate's i coefficient
-- times the operand's; for (i,j) minus both cross products."
abbrev pub curve : Row → ℕ → ℤ
curve x k =
    slope x.centre (at x.pair k)
    +ℤ floor_quotient (neg_ℤ (meeting (candidate_linear x) x.linear (first_of k) (second_of k))) x.centre

unfoldable pub candidate_pair : ℕ → Row → List ℤ
candidate_pair squares x = over_used squares (curve x)

-- "Candidate: centre N / c"
abbrev pub candidate : ℕ → Row → Row
candidate squares x =
    record {
      centre = floor_quotient (pos unit_squared) x.centre;
      linear = candidate_linear x;
      pair = candidate_pair squares x;
    }

-- a row whose centre is less by N
abbrev pub less_one : Row → Row
less_one r = record { centre = r.centre -ℤ pos unit_squared; linear = r.linear; pair = r.pair }

-- "Form the totals of operand times candidate, before any division, and take N from the centre's total. B is the sum of absolute totals
-- plus the dropped part."
unfoldable pub error_bound : ℕ → Row → Row → ℕ
error_bound squares x z = span (less_one (totals squares x z)) + dropped squares x z

-- "Own coefficient: B / a, up."
unfoldable pub reciprocal_own : ℕ → Row → ℕ → ℕ
reciprocal_own squares x a = ceiling_quotient (error_bound squares x (candidate squares x)) a

unfoldable pub reciprocal_row : ℕ → ℕ → Row → ℕ → Row
reciprocal_row squares own x a = with_own own (pos (reciprocal_own squares x a)) (candidate squares x)

-- "span passed, by a new row, by a candidate alone"; a is the distance
abbrev pub reciprocal_apart : ℕ → ℕ → Row → ℕ → Answer
reciprocal_apart squares own x a =
    pick (within_span (candidate squares x)) (checked (reciprocal_row squares own x a)) (refused SpanPassed)

-- "7 before 6": of an operand x with its own range
abbrev pub reciprocal : ℕ → ℕ → Row → Range → Answer
reciprocal squares own x range =
    pick (zero_in_range range) (refused ZeroInRange) (reciprocal_apart squares own x (distance range))

-- ---- what the code asks of an operand (not of the specification): where its range does not hold 0, its centre is not 0 and no smaller than its
-- linear coefficients together
pub record Outweighs (x : Row) : Type 0 where
  pub some : 0 < nat_abs x.centre
  pub within : sum_abs x.linear ≤ nat_abs x.centre

abbrev pub ApartOutweighs : Range → Row → Type 0
ApartOutweighs range x = zero_in_range range ≡ false → Outweighs x
