-- The whole-number root, rounded down: of a natural number, of a whole number, and of a fraction; that it is the greatest whole number whose square is
-- not above, and the only one.
use Rattle.std.specs.Prelude.{Bool, true, false, ◌≡◌, ℕ, zero, suc, ◌*◌, ◌/◌, ◌≤◌, ◌<◌, leb, ℤ, pos, negsuc}
use Rattle.integer.specs.Floor.{floor_quotient}
use Rattle.integer.specs.Fraction.{Fraction, ◌≤ℚ◌, ◌<ℚ◌, whole}

-- r is the root of n: r² ≤ n < (r + 1)²
pub record IsRoot (n r : ℕ) : Type 0 where
  pub not_above : r * r ≤ n
  pub next_above : n < suc r * suc r

-- r, or one more where that is not too much
abbrev pub one_more : Bool → ℕ → ℕ
one_more true r = suc r
one_more false r = r

-- twice the root of a quarter of n, or one more; so many rounds
unfoldable pub root_in : ℕ → ℕ → ℕ
root_in zero n = 0
root_in (suc k) zero = 0
root_in (suc k) (suc m) = let r = 2 * root_in k (suc m / 4) in one_more (leb (suc r * suc r) (suc m)) r

-- the root of n: n rounds are enough
unfoldable pub root : ℕ → ℕ
root n = root_in n n

-- of a whole number; one below 0 has none, and gets 0
abbrev pub integer_root : ℤ → ℕ
integer_root (pos n) = root n
integer_root (negsuc n) = 0

-- the greatest whole number r with r² ≤ x: the squares not above a fraction are those not above its whole part
unfoldable pub floor_root : Fraction → ℕ
floor_root x = integer_root (floor_quotient x.upper x.lower)

-- ---- the claims
-- the root of any natural number is one, ..
abbrev pub RootIsRoot : Type 0
RootIsRoot = (n : ℕ) → IsRoot n (root n)

-- .. and the only one
abbrev pub RootUnique : Type 0
RootUnique = (n r : ℕ) → IsRoot n r → r ≡ root n

-- of a fraction x that is not below 0: r² ≤ x < (r + 1)²
abbrev pub FloorRootIsRoot : Type 0
FloorRootIsRoot =
    (x : Fraction) → whole (pos 0) ≤ℚ x → let r = floor_root x in (whole (pos (r * r)) ≤ℚ x) × (x <ℚ whole (pos (suc r * suc r)))
