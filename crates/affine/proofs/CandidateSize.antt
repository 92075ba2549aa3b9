-- How large the numbers of a reciprocal's candidate get: a quotient is as small as its divisor is large.
use mathlib.Core.Path.{◌≡◌, ap}
use mathlib.Core.Logic.{◌≢◌}
use Prim.Native.Nat.{ℕ, suc, ◌+◌, ◌*◌, ◌≤◌, ◌<◌}
use native.Mathlib.Nat.{mul_assoc, add-mul, mul-pos, lt_of_mul-lt-mul_right}
use native.Mathlib.Omega.{arith}
use lib.IntN.{ℤ, pos, neg_ℤ, nat_abs, ◌+ℤ◌, ◌-ℤ◌, ◌*ℤ◌, +ℤ_idl}
use mir.Syntax.{w64}
use mir.Val.{SFits, to_z, of_z}
use mir.ValLaws.{to_z-of_z}
use Rattle.integer.specs.Floor.{floor_quotient}
use Rattle.integer.proofs.Absolute.{nat_abs_neg, nat_abs_mul, nat_abs_mul_within, nat_abs_add_within, fits_within}
use Rattle.integer.proofs.Floor.{nat_abs_quotient, nat_abs_quotient_product}
use Rattle.affine.specs.Limits.{unit_squared, span_limit}
use Rattle.affine.specs.Reciprocal.{slope}

pub not_zero : (c : ℤ) → 0 < nat_abs c → c ≢ pos 0
not_zero c h e = let z = ap nat_abs e in omega arith

pub square_not_zero : (c : ℤ) → 0 < nat_abs c → c *ℤ c ≢ pos 0
square_not_zero c h = not_zero (c *ℤ c) (rw nat_abs_mul (mul-pos h h))

-- minus N times v over the square of c; the products that meet in a pair over c; and both together
pub slope_at_most : (c v : ℤ) {n : ℕ} → nat_abs v ≤ n → nat_abs (slope c v) ≤ unit_squared * n
slope_at_most c v {n} h =
    let t : nat_abs (neg_ℤ (pos unit_squared) *ℤ v) ≤ unit_squared * n = nat_abs_mul_within (neg_ℤ (pos unit_squared)) v (omega arith) h in
    omega (arith, nat_abs_quotient (neg_ℤ (pos unit_squared) *ℤ v) (c *ℤ c))

bend_at_most : (c met : ℤ) {m : ℕ} → nat_abs met ≤ m → nat_abs (floor_quotient (neg_ℤ met) c) ≤ m
bend_at_most c met h = omega (arith, nat_abs_quotient (neg_ℤ met) c, nat_abs_neg met)

pub curve_at_most : (c p met : ℤ) {n m : ℕ} → nat_abs p ≤ n → nat_abs met ≤ m
    → nat_abs (slope c p +ℤ floor_quotient (neg_ℤ met) c) ≤ unit_squared * n + m
curve_at_most c p met h k =
    nat_abs_add_within (slope c p) (floor_quotient (neg_ℤ met) c) (slope_at_most c p h) (bend_at_most c met k)

-- as the machine works them
pub top_given : (v : ℤ) → nat_abs v ≤ span_limit
    → to_z w64 (of_z w64 (neg_ℤ (pos unit_squared) *ℤ to_z w64 (of_z w64 v))) ≡ neg_ℤ (pos unit_squared) *ℤ v
top_given v h =
    let t = nat_abs_mul_within (neg_ℤ (pos unit_squared)) v {m = unit_squared} (omega arith) h in
    rw (to_z-of_z w64 v (fits_within v span_limit h (omega arith)))
    (to_z-of_z w64 _ (fits_within (neg_ℤ (pos unit_squared) *ℤ v) (unit_squared * span_limit) t (omega arith)))

pub turned_given : (met : ℤ) → nat_abs met ≤ 2 * (unit_squared * span_limit) → to_z w64 (of_z w64 (pos 0 -ℤ to_z w64 (of_z w64 met))) ≡ neg_ℤ met
turned_given met h =
    rw (to_z-of_z w64 met (fits_within met _ h (omega arith)), +ℤ_idl (neg_ℤ met))
    (to_z-of_z w64 _ (fits_within (neg_ℤ met) (2 * (unit_squared * span_limit)) (rw nat_abs_neg h) (omega arith)))

pub slope_fits : (c v : ℤ) → nat_abs v ≤ span_limit → SFits w64 (slope c v)
slope_fits c v h = fits_within (slope c v) (unit_squared * span_limit) (slope_at_most c v h) (omega arith)

pub bend_fits : (c met : ℤ) → nat_abs met ≤ 2 * (unit_squared * span_limit) → SFits w64 (floor_quotient (neg_ℤ met) c)
bend_fits c met h = fits_within (floor_quotient (neg_ℤ met) c) (2 * (unit_squared * span_limit)) (bend_at_most c met h) (omega arith)

pub curve_fits : (c p met : ℤ) → nat_abs p ≤ span_limit → nat_abs met ≤ 2 * (unit_squared * span_limit)
    → SFits w64 (slope c p +ℤ floor_quotient (neg_ℤ met) c)
curve_fits c p met h k = fits_within _ (3 * (unit_squared * span_limit)) (omega (arith, curve_at_most c p met h k)) (omega arith)

-- ---- where the coefficient is at most the centre
slope_product : (c v : ℤ) → 0 < nat_abs c → nat_abs v ≤ nat_abs c → nat_abs (slope c v) * nat_abs c < unit_squared + nat_abs c
slope_product c v some h =
    let n = nat_abs c in
    let q = nat_abs (slope c v) in
    let top : nat_abs (neg_ℤ (pos unit_squared) *ℤ v) ≤ unit_squared * n = nat_abs_mul_within (neg_ℤ (pos unit_squared)) v (omega arith) h in
    let f = rw (nat_abs_mul c c) at (nat_abs_quotient_product (neg_ℤ (pos unit_squared) *ℤ v) (c *ℤ c) (square_not_zero c some)) in
    let g : q * n * n < (unit_squared + n) * n = rw (mul_assoc q n n, add-mul) (omega arith) in
    lt_of_mul-lt-mul_right n g

pub slope_within_unit : (c v : ℤ) → 0 < nat_abs c → nat_abs v ≤ nat_abs c → nat_abs (slope c v) ≤ unit_squared
slope_within_unit c v some h =
    let p = slope_product c v some h in
    let g : nat_abs (slope c v) * nat_abs c < suc unit_squared * nat_abs c = omega arith in
    let l : nat_abs (slope c v) < suc unit_squared = lt_of_mul-lt-mul_right (nat_abs c) g in
    omega arith
