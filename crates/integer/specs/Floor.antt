-- Division of whole numbers rounded down, toward minus infinity, by a divisor of either sign; what is left; and division rounded up.
-- Quotient and remainder are the right pair, and the only one: a claim below, and promised by the functions of src/division.rt.
-- Floor quotient and remainder are shut, so that goals name them: an example that computes says `unfolding floor_quotient floor_remainder`.
-- The quotient rounded up unfolds everywhere, since `omega` reads it where d is a numeral.
use Rattle.std.specs.Prelude.{◌≡◌, ◌≢◌, ℕ, suc, ◌+◌, ◌-◌, ◌/◌, ◌<◌, ℤ, pos, negsuc, neg_ℤ, nat_abs, ◌+ℤ◌, ◌-ℤ◌, ◌*ℤ◌, ◌≤ℤ◌}

-- a over d, rounded down. In blocks of d numbers, n lies in block n / d from 0 up, and -(n + 1) in the same block from -1 down
abbrev pub floor_by : ℤ → ℕ → ℤ
floor_by (pos n) d = pos (n / d)
floor_by (negsuc n) d = negsuc (n / d)

-- a over d, rounded down; by a negative divisor, both signs are turned first
unfoldable pub floor_quotient : ℤ → ℤ → ℤ
floor_quotient a (pos d) = floor_by a d
floor_quotient a (negsuc d) = floor_by (neg_ℤ a) (suc d)

-- what a quotient q by d leaves of a
abbrev pub left_over : ℤ → ℤ → ℤ → ℤ
left_over a d q = a -ℤ q *ℤ d

-- q and r are quotient and remainder of a by d, rounded down: the remainder is 0 or on d's side of 0, and below d in size
pub record IsFloor (a d q r : ℤ) : Type 0 where
  pub total : q *ℤ d +ℤ r ≡ a
  pub side : pos 0 ≤ℤ (r *ℤ d)
  pub small : nat_abs r < nat_abs d

-- what the rounded quotient leaves of a
unfoldable pub floor_remainder : ℤ → ℤ → ℤ
floor_remainder a d = a -ℤ floor_quotient a d *ℤ d

-- a over d, rounded up: the quotient of -a rounded down, with its sign turned back
abbrev pub rounded_up : ℤ → ℤ → ℤ
rounded_up a d = neg_ℤ (floor_quotient (neg_ℤ a) d)

-- n over d, rounded up, of natural numbers
abbrev pub ceiling_quotient : ℕ → ℕ → ℕ
ceiling_quotient n d = (n + (d - 1)) / d

-- ---- the claims, of any numbers
-- quotient and remainder are such a pair, ..
abbrev pub FloorDivides : Type 0
FloorDivides = (a d : ℤ) → d ≢ pos 0 → IsFloor a d (floor_quotient a d) (floor_remainder a d)

-- .. and the only one
abbrev pub FloorUnique : Type 0
FloorUnique = (a d q r : ℤ) → d ≢ pos 0 → IsFloor a d q r → (q ≡ floor_quotient a d) × (r ≡ floor_remainder a d)

-- of natural numbers both ways to round up are one
abbrev pub UpsAgree : Type 0
UpsAgree = (n d : ℕ) → 0 < d → rounded_up (pos n) (pos d) ≡ pos (ceiling_quotient n d)
