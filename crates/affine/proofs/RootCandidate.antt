-- The candidate for the root of a row: its centre is above 0, its coefficients are 0 where the operand's are, and its span does not wrap.
use mathlib.Core.Path.{◌≡◌, refl, ap, ◌∙◌}
use mathlib.Core.List.{List}
use Prim.Native.Nat.{ℕ, suc, ◌*◌, ◌^◌, ◌≤◌, ◌<◌}
use native.Mathlib.Nat.{le_refl, mul-le-mul}
use native.Mathlib.Omega.{arith}
use lib.IntN.{ℤ, pos, negsuc, nat_abs, ◌*ℤ◌, *ℤ-zero}
use lib.Signed.{◌≤ℤ◌}
use Rattle.integer.specs.Root.{root}
use Rattle.integer.specs.Sum.{sum_abs}
use mir.Syntax.{w64}
use mir.Val.{SFits, to_z, of_z}
use mir.ValLaws.{to_z-of_z}
use Rattle.integer.proofs.Absolute.{nat_abs_mul_within, fits_within}
use Rattle.integer.proofs.Floor.{nat_abs_quotient, zero_quotient}
use Rattle.integer.proofs.Order.{pos-≤ℤ, ≤_of_pos}
use Rattle.integer.proofs.RootLaws.{is_root, below_of_squares}
use Rattle.affine.specs.declared.Row.{Row}
use Rattle.affine.specs.Limits.{symbols, pairs, unit, half_unit, span_limit}
use Rattle.affine.specs.Lists.{at, tabulate}
use Rattle.affine.specs.Row.{span, NoneFrom}
use Rattle.affine.specs.Root.{unit_root, root_slope, root_candidate}
use Rattle.affine.proofs.Lists.{at_tabulate_zero}
use Rattle.affine.proofs.SumLaws.{sum_abs_tabulate_within, sum_abs_tabulate_at}
use Rattle.affine.proofs.RowSize.{span_is_sum, centre_within}

-- ---- its centre: the root of 4096 times a number above 0
pub unit_root_is : {v : ℤ} → pos 1 ≤ℤ v → unit_root v ≡ root (unit * nat_abs v)
unfolding unit_root
unit_root_is {v = pos n} h = refl
unit_root_is {v = negsuc n} h = absurd h.le

above_zero : {v : ℤ} → pos 1 ≤ℤ v → 0 < nat_abs v
above_zero {v = pos n} h = ≤_of_pos 1 n h
above_zero {v = negsuc n} h = absurd h.le

-- a low end above 0 that is not above the centre is no larger
pub least_within : {l c : ℤ} {n : ℕ} → pos 1 ≤ℤ l → l ≤ℤ c → nat_abs c ≤ n → nat_abs l ≤ n
least_within {l = pos a} {c = pos b} h k m = omega (arith, ≤_of_pos a b k)
least_within {l = pos a} {c = negsuc b} h k m = absurd k.le
least_within {l = negsuc a} {c} h k m = absurd h.le

pub unit_root_some : {v : ℤ} → pos 1 ≤ℤ v → 0 < unit_root v
unit_root_some {v} h =
    let n = unit * nat_abs v in
    let l = below_of_squares 1 (suc (root n)) (omega (arith, above_zero h, (is_root n).next_above)) in
    rw (unit_root_is h) (omega arith)

-- its square is at most 4096 times the number
unit_root_square : {v : ℤ} {n : ℕ} → pos 1 ≤ℤ v → nat_abs v ≤ n → unit_root v * unit_root v ≤ unit * n
unit_root_square {v} h k = rw (unit_root_is h) (omega (arith, (is_root (unit * nat_abs v)).not_above))

-- the same of whole numbers
pub unit_root_not_above : {v : ℤ} → pos 1 ≤ℤ v → pos (unit_root v * unit_root v) ≤ℤ (pos unit *ℤ v)
unfolding unit_root
unit_root_not_above {v = pos n} h = pos-≤ℤ (is_root (unit * n)).not_above
unit_root_not_above {v = negsuc n} h = absurd h.le

unit_root_within : {v : ℤ} {n : ℕ} → pos 1 ≤ℤ v → nat_abs v ≤ n → unit_root v ≤ unit * n
unit_root_within {v} h k = let r = unit_root v in omega (arith, unit_root_square h k, mul-le-mul {n₁ = 1} {m₁ = r} (unit_root_some h) (le_refl r))

pub unit_root_limit : {v : ℤ} → pos 1 ≤ℤ v → nat_abs v ≤ span_limit → unit_root v ≤ span_limit
unit_root_limit {v} h k = let l = below_of_squares (unit_root v) (suc span_limit) (omega (arith, unit_root_square h k)) in omega arith

-- ---- its coefficients
pub root_slope_zero : (z : ℕ) → root_slope z (pos 0) ≡ pos 0
root_slope_zero z = rw *ℤ-zero (zero_quotient (pos z))

pub root_candidate_none : (x : Row) (own : ℕ) → NoneFrom own x.linear → NoneFrom own (root_candidate x).linear
root_candidate_none x own h i l =
    let z = unit_root x.centre in
    at_tabulate_zero symbols _ i (λ m. ap (root_slope z) (h i l) ∙ root_slope_zero z)

-- 2048 times a number that is at most n
pub half_unit_within : (v : ℤ) {n : ℕ} → nat_abs v ≤ n → nat_abs (pos half_unit *ℤ v) ≤ half_unit * n
half_unit_within v h = nat_abs_mul_within (pos half_unit) v (omega arith) h

pub root_slope_within : (z : ℕ) (v : ℤ) → nat_abs (root_slope z v) ≤ half_unit * nat_abs v
root_slope_within z v = omega (arith, nat_abs_quotient (pos half_unit *ℤ v) (pos z), half_unit_within v (le_refl (nat_abs v)))

pub half_unit_given : (v : ℤ) → nat_abs v ≤ span_limit
    → to_z w64 (of_z w64 (pos half_unit *ℤ to_z w64 (of_z w64 v))) ≡ pos half_unit *ℤ v
half_unit_given v h =
    rw (to_z-of_z w64 v (fits_within v span_limit h (omega arith)))
    (to_z-of_z w64 _ (fits_within (pos half_unit *ℤ v) (half_unit * span_limit) (half_unit_within v h) (omega arith)))

pub root_slope_fits : (z : ℕ) (v : ℤ) → nat_abs v ≤ span_limit → SFits w64 (root_slope z v)
root_slope_fits z v h = fits_within (root_slope z v) (half_unit * span_limit) (omega (arith, root_slope_within z v)) (omega arith)

-- ---- its span
slopes_within : (z n : ℕ) (a : List ℤ) → sum_abs (tabulate n (λ i. root_slope z (at a i))) ≤ half_unit * sum_abs a
slopes_within z n a =
    omega (
      arith,
      sum_abs_tabulate_within n (λ i. root_slope z (at a i)) (at a) (at a) half_unit 0 (λ i. omega (arith, root_slope_within z (at a i))),
      sum_abs_tabulate_at n a,
    )

pub span_root_candidate : (x : Row) → pos 1 ≤ℤ x.centre → span x ≤ span_limit → span (root_candidate x) < 2 ^ 64
span_root_candidate x h within =
    let z = unit_root x.centre in
    omega (
      arith,
      span_is_sum (root_candidate x),
      span_is_sum x,
      unit_root_within h (centre_within x within),
      slopes_within z symbols x.linear,
      slopes_within z pairs x.pair,
    )
