-- Fractions: "A fraction is two whole numbers, the lower part above 0; whether two are equal, or one is below the other, goes by the
-- cross products." None is reduced. That they are an ordered field is shown in `proofs/Fraction.antt`; nothing else looks inside the
-- operations, which therefore stay shut.
use Rattle.std.specs.Prelude.{◌≡◌, ℕ, zero, suc, ◌*◌, T, ltb, ℤ, pos, negsuc, neg_ℤ, ◌+ℤ◌, ◌*ℤ◌, ◌≤ℤ◌, ◌<ℤ◌}
use Rattle.std.proofs.Common.{lt→ltb, ltb→lt}
use Rattle.std.proofs.Math.Nat.{mul-pos, zero-lt-suc}
use Rattle.std.specs.Int.Signed.{lt_z_yes}

pub record Fraction : Type 0 where
  pub upper : ℤ
  pub lower : ℤ
  pub above : pos 0 <ℤ lower

infix 4 ◌≈◌ ◌≤ℚ◌ ◌<ℚ◌
infixl 6 ◌+ℚ◌ ◌-ℚ◌
infixl 7 ◌*ℚ◌ ◌/ℚ◌
-- equal
pub record ◌≈◌ (x y : Fraction) : Type 0 where
  pub cross : x.upper *ℤ y.lower ≡ y.upper *ℤ x.lower

-- not above
pub record ◌≤ℚ◌ (x y : Fraction) : Type 0 where
  pub cross : (x.upper *ℤ y.lower) ≤ℤ (y.upper *ℤ x.lower)

-- below
pub record ◌<ℚ◌ (x y : Fraction) : Type 0 where
  pub cross : (x.upper *ℤ y.lower) <ℤ (y.upper *ℤ x.lower)

-- the product of two lower parts is one again
pub product_above : {a b : ℤ} → pos 0 <ℤ a → pos 0 <ℤ b → pos 0 <ℤ (a *ℤ b)
product_above {a = pos m} {b = pos n} h k = lt_z_yes (lt→ltb 0 (m * n) (mul-pos (ltb→lt 0 m h.lt) (ltb→lt 0 n k.lt)))
product_above {a = pos m} {b = negsuc n} h k = absurd k.lt
product_above {a = negsuc m} {b = b} h k = absurd h.lt

unfoldable pub ◌+ℚ◌ : Fraction → Fraction → Fraction
x +ℚ y =
    record {
      upper = x.upper *ℤ y.lower +ℤ y.upper *ℤ x.lower;
      lower = x.lower *ℤ y.lower;
      above = product_above x.above y.above;
    }

unfoldable pub ◌*ℚ◌ : Fraction → Fraction → Fraction
x *ℚ y =
    record {
      upper = x.upper *ℤ y.upper;
      lower = x.lower *ℤ y.lower;
      above = product_above x.above y.above;
    }

unfoldable pub neg_ℚ : Fraction → Fraction
neg_ℚ x = record { upper = neg_ℤ x.upper; lower = x.lower; above = x.above }

-- a whole number over d, as `over z 4096 tt`
abbrev pub over : ℤ → (d : ℕ) → T (ltb 0 d) → Fraction
over z d t = record { upper = z; lower = pos d; above = lt_z_yes t }

-- a whole number meaning itself
abbrev pub whole : ℤ → Fraction
whole z = over z 1 tt

-- u over d turned to d over u, with both signs turned where u is negative. 0 has no reciprocal, and gets 0
unfoldable pub exchange : ℤ → ℤ → Fraction
exchange (pos zero) d = whole (pos 0)
exchange (pos (suc n)) d = over d (suc n) (lt→ltb 0 (suc n) (zero-lt-suc n))
exchange (negsuc n) d = over (neg_ℤ d) (suc n) (lt→ltb 0 (suc n) (zero-lt-suc n))

unfoldable pub reciprocal : Fraction → Fraction
reciprocal x = exchange x.upper x.lower

-- difference and quotient
abbrev pub ◌-ℚ◌ : Fraction → Fraction → Fraction
x -ℚ y = x +ℚ neg_ℚ y

abbrev pub ◌/ℚ◌ : Fraction → Fraction → Fraction
x /ℚ y = x *ℚ reciprocal y
