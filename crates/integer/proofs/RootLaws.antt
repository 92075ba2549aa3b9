-- The whole-number root: r² ≤ n < (r + 1)² holds of it, and of no other number; the gap that a search halves; and the root of a fraction.
use mathlib.Core.Path.{◌≡◌, refl}
use mathlib.Core.Bool.{Bool, true, false}
use Prim.Native.Nat.{ℕ, zero, suc, ◌+◌, ◌*◌, ◌/◌, ◌^◌, ◌≤◌, ◌<◌}
use native.Mathlib.Nat.{le_refl, mul-le-mul, pow-le-pow_right, div-add-mod', lt-div-mul-add}
use native.Mathlib.Numerals.{unary_clauses}
use native.Mathlib.Omega.{arith}
use borrow.Author.Tests.{leb-true, leb-false, ltb-true, ltb-false}
use lib.Dec.{leb, ltb}
use lib.IntN.{ℤ, pos, negsuc, ◌*ℤ◌}
use lib.Signed.{◌≤ℤ◌, ◌<ℤ◌}
use Rattle.integer.specs.Floor.{floor_quotient}
use Rattle.integer.specs.Fraction.{Fraction, ◌≤ℚ◌, ◌<ℚ◌, whole}
use Rattle.integer.specs.Root.{IsRoot, one_more, root_in, root, integer_root, floor_root, FloorRootIsRoot}
use Rattle.integer.proofs.Ring.{con, ◌⊗◌}
use Rattle.integer.proofs.Linear.{lin_ℤ, ◌⊴◌, ◌⇒◌, so}
use Rattle.integer.proofs.Order.{pos-≤ℤ, pos-<ℤ, ≤_of_pos, <_of_pos}
use Rattle.integer.proofs.Fraction.{ordered_fractions, not_below_of-≤ℚ, ≤ℤ_of_whole}
use Rattle.integer.proofs.Bound.{le_trans, whole_le}

-- ---- one root
pub below_of_squares : (r s : ℕ) → r * r < s * s → r < s
below_of_squares r s h = by_test (ltb r s) refl
  where
    by_test : (t : Bool) → ltb r s ≡ t → r < s
    by_test true e = ltb-true r s e
    by_test false e = let l = ltb-false r s e in absurd (omega (arith, mul-le-mul l l))

roots_agree : {n r s : ℕ} → IsRoot n r → IsRoot n s → r ≡ s
roots_agree {n} {r} {s} a b =
    let l = below_of_squares r (suc s) (omega (arith, a.not_above, b.next_above)) in
    let m = below_of_squares s (suc r) (omega (arith, b.not_above, a.next_above)) in
    omega arith

-- ---- the definition gives it
quarter_root : (n s : ℕ) → IsRoot (n / 4) s → IsRoot n (one_more (leb (suc (2 * s) * suc (2 * s)) n) (2 * s))
quarter_root n s h = by_test (leb (suc (2 * s) * suc (2 * s)) n) refl
  where
    by_test : (t : Bool) → leb (suc (2 * s) * suc (2 * s)) n ≡ t → IsRoot n (one_more t (2 * s))
    by_test true e = record { not_above = leb-true _ n e; next_above = omega (arith, h.next_above) }
    by_test false e = record { not_above = omega (arith, h.not_above); next_above = leb-false _ n e }

root_in_lem : (k n : ℕ) → n ≤ k → IsRoot n (root_in k n)
unfolding root_in
root_in_lem zero zero h = record { not_above = omega arith; next_above = omega arith }
root_in_lem zero (suc m) h = absurd (omega arith)
root_in_lem (suc k) zero h = record { not_above = omega arith; next_above = omega arith }
root_in_lem (suc k) (suc m) h = quarter_root (suc m) (root_in k (suc m / 4)) (root_in_lem k (suc m / 4) (omega arith))

pub is_root : (n : ℕ) → IsRoot n (root n)
unfolding root
is_root n = root_in_lem n n (omega arith)

pub root_unique : (n r : ℕ) → IsRoot n r → r ≡ root n
root_unique n r h = roots_agree h (is_root n)

pub root_as : {n r : ℕ} → r ≡ root n → IsRoot n r
root_as {n} e = rw e (is_root n)

-- ---- a search that halves its gap, so many more times: the root lies from r up, below r and 2 to their number
pub record Gap (n r rounds : ℕ) : Type 0 where
  pub from : r * r ≤ n
  pub to : n < (r + 2 ^ rounds) * (r + 2 ^ rounds)
  pub room : r + 2 ^ rounds ≤ 2 ^ 32

power_of_4 : (k : ℕ) → 4 ^ k ≡ 2 ^ k * 2 ^ k
power_of_4 zero = refl
power_of_4 (suc k) = let e = power_of_4 k in simp unary_clauses (omega arith)

pub gap_whole : {n k : ℕ} → k ≤ 32 → n < 4 ^ k → Gap n 0 k
gap_whole {n} {k} h l = record { from = omega arith; to = omega (arith, power_of_4 k); room = omega (arith, pow-le-pow_right {n = 2} (omega arith) h) }

pub gap_closed : {n r k : ℕ} → Gap n r k → k ≡ 0 → r ≡ root n
gap_closed {n} {r} {k} g e = let t = rw e at g.to in root_unique n r (record { not_above = g.from; next_above = omega (arith, t) })

-- ---- the root of a fraction that is not below 0
floor_parts : (u d : ℕ) → 0 < d → (u / d * d ≤ u) × (u < suc (u / d) * d)
floor_parts u d h = (omega (arith, div-add-mod' u d), omega (arith, lt-div-mul-add {a = u} {b = d} h))

root_below : (u d : ℕ) → 0 < d → root (u / d) * root (u / d) * d ≤ u
root_below u d h = omega (arith, mul-le-mul (is_root (u / d)).not_above (le_refl d), (floor_parts u d h).0)

root_above : (u d : ℕ) → 0 < d → u < suc (root (u / d)) * suc (root (u / d)) * d
root_above u d h = omega (arith, mul-le-mul (is_root (u / d)).next_above (le_refl d), (floor_parts u d h).1)

-- the same of whole numbers
root_below_ℤ : (u d : ℤ) → pos 0 ≤ℤ u → pos 0 <ℤ d → let r = integer_root (floor_quotient u d) in (pos (r * r) *ℤ d) ≤ℤ (u *ℤ pos 1)
unfolding floor_quotient
root_below_ℤ (pos u) (pos d) h k = pos-≤ℤ (omega (arith, root_below u d (<_of_pos 0 d k)))
root_below_ℤ (pos u) (negsuc d) h k = absurd k.lt
root_below_ℤ (negsuc u) d h k = absurd h.le

root_above_ℤ : (u d : ℤ) → pos 0 ≤ℤ u → pos 0 <ℤ d → let r = integer_root (floor_quotient u d) in (u *ℤ pos 1) <ℤ (pos (suc r * suc r) *ℤ d)
unfolding floor_quotient
root_above_ℤ (pos u) (pos d) h k = pos-<ℤ (omega (arith, root_above u d (<_of_pos 0 d k)))
root_above_ℤ (pos u) (negsuc d) h k = absurd k.lt
root_above_ℤ (negsuc u) d h k = absurd h.le

upper_nonneg : {x : Fraction} → whole (pos 0) ≤ℚ x → pos 0 ≤ℤ x.upper
upper_nonneg {x} h = lin_ℤ 2 (λ u d. con (pos 0) ⊗ d ⊴ u ⊗ con (pos 1) ⇒ so (con (pos 0) ⊴ u)) x.upper x.lower (omega arith) h.cross

-- the greatest whole number r with r² ≤ x
pub is_floor_root : FloorRootIsRoot
unfolding floor_root
is_floor_root x h =
    let nonneg = upper_nonneg h in
    (record { cross = root_below_ℤ x.upper x.lower nonneg x.above }, record { cross = root_above_ℤ x.upper x.lower nonneg x.above })

-- a whole number whose square is not above x is not above the root
between_wholes : {x : Fraction} (a b : ℕ) → whole (pos a) ≤ℚ x → x <ℚ whole (pos b) → a < b
between_wholes a b h k = by_test (ltb a b) refl
  where
    by_test : (t : Bool) → ltb a b ≡ t → a < b
    by_test true e = ltb-true a b e
    by_test false e = absurd (not_below_of-≤ℚ (le_trans ordered_fractions (whole_le ordered_fractions (pos-≤ℤ (ltb-false a b e))) h) k)

pub floor_root_greatest : (x : Fraction) (s : ℕ) → whole (pos 0) ≤ℚ x → whole (pos (s * s)) ≤ℚ x → s ≤ floor_root x
floor_root_greatest x s h k =
    let l = below_of_squares s (suc (floor_root x)) (between_wholes (s * s) (suc (floor_root x) * suc (floor_root x)) k (is_floor_root x h).1) in
    omega arith

-- the root of a fraction that is not above a whole number is not above that number's root
pub floor_root_at_most : (x : Fraction) (z : ℤ) → whole (pos 0) ≤ℚ x → x ≤ℚ whole z → floor_root x ≤ integer_root z
floor_root_at_most x (pos n) h k =
    let square = le_trans ordered_fractions (is_floor_root x h).0 k in
    let l = below_of_squares (floor_root x) (suc (root n)) (omega (arith, ≤_of_pos _ n (≤ℤ_of_whole _ (pos n) square), (is_root n).next_above)) in
    omega arith
floor_root_at_most x (negsuc n) h k = absurd (≤ℤ_of_whole (pos 0) (negsuc n) (le_trans ordered_fractions h k)).le
