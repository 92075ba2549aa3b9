-- Division of whole numbers to the nearest, exact halves upward, by a divisor above 0; what it leaves; and what makes a pair of both the right one.
use Rattle.std.specs.Prelude.{◌≡◌, ℕ, ◌/◌, ◌≤◌, ◌<◌, ℤ, pos, neg_ℤ, nat_abs, ◌+ℤ◌, ◌-ℤ◌, ◌*ℤ◌, ◌≤ℤ◌, ◌<ℤ◌}
use Rattle.integer.specs.Floor.{floor_quotient, left_over}

-- half a divisor; of an odd one, which leaves no exact halves, half of the one below it
abbrev pub half : ℕ → ℕ
half d = d / 2

-- a over d, to the nearest, exact halves upward: half a divisor is added, and the quotient rounded down
unfoldable pub nearest_quotient : ℤ → ℕ → ℤ
nearest_quotient a d = floor_quotient (a +ℤ pos (half d)) (pos d)

-- what that quotient leaves of a
unfoldable pub nearest_remainder : ℤ → ℕ → ℤ
nearest_remainder a d = a -ℤ nearest_quotient a d *ℤ pos d

-- q and r are quotient and remainder of a by d, and twice the remainder runs from -d up to below d
pub record IsNearest (a : ℤ) (d : ℕ) (q r : ℤ) : Type 0 where
  pub total : q *ℤ pos d +ℤ r ≡ a
  pub from : neg_ℤ (pos d) ≤ℤ (pos 2 *ℤ r)
  pub below : (pos 2 *ℤ r) <ℤ pos d

-- ---- the claims, of any number and divisor; what a function of src/division.rt answers by 4096, its contract says
-- quotient and remainder are such a pair, ..
abbrev pub QuotientIsNearest : Type 0
QuotientIsNearest = (a : ℤ) (d : ℕ) → 0 < d → IsNearest a d (nearest_quotient a d) (nearest_remainder a d)

-- .. and the only one;
abbrev pub NearestUnique : Type 0
NearestUnique = (a : ℤ) (d : ℕ) (q r : ℤ) → 0 < d → IsNearest a d q r → (q ≡ nearest_quotient a d) × (r ≡ nearest_remainder a d)

-- no whole number leaves less of a, ..
abbrev pub NoneNearer : Type 0
NoneNearer = (a : ℤ) (d : ℕ) (p : ℤ) → 0 < d → nat_abs (nearest_remainder a d) ≤ nat_abs (left_over a (pos d) p)

-- .. and one that leaves as much is not above: exact halves go upward.
abbrev pub HalvesUpward : Type 0
HalvesUpward = (a : ℤ) (d : ℕ) (p : ℤ) → 0 < d → nat_abs (left_over a (pos d) p) ≡ nat_abs (nearest_remainder a d) → p ≤ℤ nearest_quotient a d
