-- Absolute values as natural numbers: sums, products, their two ends in ℤ, and what fits an i64. By cases on the signs.
use mathlib.Core.Path.{◌≡◌, refl, ap}
use mathlib.Core.Bool.{Bool, true, false, not, cond}
use Prim.Native.Nat.{ℕ, zero, suc, ◌+◌, ◌-◌, ◌*◌, ◌^◌, ◌≤◌, ◌<◌, zero-le}
use native.Mathlib.Nat.{mul-le-mul, le_of_suc-le-suc}
use native.Mathlib.Omega.{arith}
use lib.Dec.{T, ltb, ltb→lt, leb→le, le→leb}
use lib.IntN.{ℤ, pos, negsuc, neg_ℤ, nat_abs, sub_ℕ, ◌+ℤ◌, ◌-ℤ◌, ◌*ℤ◌}
use lib.Signed.{◌≤ℤ◌, le_z_yes, yes_non_neg, pos-nat_abs}
use mir.Syntax.{w64}
use mir.Val.{SFits}

pub nat_abs_neg : (z : ℤ) → nat_abs (neg_ℤ z) ≡ nat_abs z
nat_abs_neg (pos zero) = refl
nat_abs_neg (pos (suc n)) = refl
nat_abs_neg (negsuc n) = refl

pub nat_abs_mul : (a b : ℤ) → nat_abs (a *ℤ b) ≡ nat_abs a * nat_abs b
nat_abs_mul (pos a) (pos b) = refl
nat_abs_mul (pos a) (negsuc b) = nat_abs_neg (pos (a * suc b))
nat_abs_mul (negsuc a) (pos b) = nat_abs_neg (pos (suc a * b))
nat_abs_mul (negsuc a) (negsuc b) = refl

nat_abs_sub_ℕ : (a b : ℕ) → nat_abs (sub_ℕ a b) ≤ a + b
nat_abs_sub_ℕ a b = by_test (ltb a b) (λ t. let h = ltb→lt a b t in omega arith) (λ t. omega arith)
  where
    by_test : (c : Bool) → (T c → nat_abs (negsuc (b - suc a)) ≤ a + b) → (T (not c) → nat_abs (pos (a - b)) ≤ a + b)
        → nat_abs (cond c (negsuc (b - suc a)) (pos (a - b))) ≤ a + b
    by_test true f g = f tt
    by_test false f g = g tt

-- the triangle inequality
pub nat_abs_add : (a b : ℤ) → nat_abs (a +ℤ b) ≤ nat_abs a + nat_abs b
nat_abs_add (pos a) (pos b) = omega arith
nat_abs_add (pos a) (negsuc b) = nat_abs_sub_ℕ a (suc b)
nat_abs_add (negsuc a) (pos b) = let h = nat_abs_sub_ℕ b (suc a) in omega arith
nat_abs_add (negsuc a) (negsuc b) = omega arith

pub nat_abs_sub : (a b : ℤ) → nat_abs (a -ℤ b) ≤ nat_abs a + nat_abs b
nat_abs_sub a b = rw nat_abs_neg at (nat_abs_add a (neg_ℤ b))

-- of numbers that are bounded
pub nat_abs_add_within : (a b : ℤ) {m n : ℕ} → nat_abs a ≤ m → nat_abs b ≤ n → nat_abs (a +ℤ b) ≤ m + n
nat_abs_add_within a b h k = let t = nat_abs_add a b in omega arith

pub nat_abs_sub_within : (a b : ℤ) {m n : ℕ} → nat_abs a ≤ m → nat_abs b ≤ n → nat_abs (a -ℤ b) ≤ m + n
nat_abs_sub_within a b h k = let t = nat_abs_sub a b in omega arith

pub nat_abs_mul_within : (a b : ℤ) {m n : ℕ} → nat_abs a ≤ m → nat_abs b ≤ n → nat_abs (a *ℤ b) ≤ m * n
nat_abs_mul_within a b h k = rw nat_abs_mul (mul-le-mul h k)

-- ---- the two ends, in ℤ
pub nat_abs_of_nonneg : {z : ℤ} → pos 0 ≤ℤ z → pos (nat_abs z) ≡ z
nat_abs_of_nonneg {z} h = pos-nat_abs z (yes_non_neg h)

pub nat_abs_zero : (z : ℤ) → nat_abs z ≡ 0 → z ≡ pos 0
nat_abs_zero (pos n) e = ap pos e
nat_abs_zero (negsuc n) e = absurd (omega arith)

pub above_low_end : (z : ℤ) (n : ℕ) → nat_abs z ≤ n → neg_ℤ (pos n) ≤ℤ z
above_low_end (pos a) zero h = le_z_yes (le→leb 0 a zero-le)
above_low_end (pos a) (suc n) h = le_z_yes tt
above_low_end (negsuc a) zero h = absurd (omega arith)
above_low_end (negsuc a) (suc n) h = le_z_yes (le→leb a n (le_of_suc-le-suc h))

pub below_high_end : (z : ℤ) (n : ℕ) → nat_abs z ≤ n → z ≤ℤ pos n
below_high_end (pos a) n h = le_z_yes (le→leb a n h)
below_high_end (negsuc a) n h = le_z_yes tt

pub nat_abs_within : (z : ℤ) (n : ℕ) → neg_ℤ (pos n) ≤ℤ z → z ≤ℤ pos n → nat_abs z ≤ n
nat_abs_within (pos a) n h k = leb→le a n k.le
nat_abs_within (negsuc a) zero h k = absurd h.le
nat_abs_within (negsuc a) (suc n) h k = let l = leb→le a n h.le in omega arith

-- ---- what fits an i64
pub fits_of_nat_abs : (z : ℤ) → nat_abs z < 2 ^ 63 → SFits w64 z
fits_of_nat_abs (pos n) h = record { sfits = h }
fits_of_nat_abs (negsuc n) h = record { sfits = omega arith }

pub fits_within : (z : ℤ) (n : ℕ) → nat_abs z ≤ n → n < 2 ^ 63 → SFits w64 z
fits_within z n h k = fits_of_nat_abs z (omega arith)

pub nat_abs_of_fits : (z : ℤ) → SFits w64 z → nat_abs z ≤ 2 ^ 63
nat_abs_of_fits (pos n) f = let h : n < 2 ^ 63 = f.sfits in omega arith
nat_abs_of_fits (negsuc n) f = f.sfits
