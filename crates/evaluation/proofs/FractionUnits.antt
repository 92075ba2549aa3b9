-- Values in fractions against values in units: 4096 times a form's value is its units, and order and equality pass between the two.
use mathlib.Core.Path.{◌≡◌}
use mathlib.Core.Logic.{◌≢◌}
use mathlib.Core.List.{[], ◌∷◌}
use Prim.Native.Nat.{ℕ}
use native.Mathlib.Omega.{arith}
use lib.IntN.{ℤ, pos}
use Rattle.integer.specs.Fraction.{Fraction, ◌≈◌, ◌≤ℚ◌, ◌*ℚ◌, whole}
use Rattle.integer.proofs.Certificate.{certify, hyp, ◌⊠◌, ◌≼◌, ◌⊢◌}
use Rattle.integer.proofs.Ring.{con, ◌⊗◌}
use Rattle.integer.proofs.Fraction.{ring_of_fractions, ordered_fractions, ≈_refl, ≈_sym, ≈_trans, +ℚ_cong, *ℚ_cong, times_quotient, times_over, ≤ℚ_antisym, not_below_of-≤ℚ}
use Rattle.integer.proofs.Bound.{cancel_le, le_cong, le_refl, whole_le}
use Rattle.integer.proofs.Order.{pos-≤ℤ}
use Rattle.integer.proofs.Sum.{weighted_sum_is_dot}
use Rattle.affine.specs.declared.Row.{Row}
use Rattle.affine.specs.Limits.{unit}
use Rattle.affine.specs.Form.{form_value}
use Rattle.affine.proofs.Form.{units}
use Rattle.evaluation.specs.Values.{in_units, Within}

-- 4096 times a fraction
abbrev pub scaled : Fraction → Fraction
scaled v = whole (pos unit) *ℚ v

unit_nonzero : (whole (pos unit)).upper ≢ pos 0
unit_nonzero e = let n : ◌≡◌ {A = ℕ} unit 0 = cc in omega arith

pub one_le_unit : whole (pos 1) ≤ℚ whole (pos unit)
one_le_unit = whole_le ordered_fractions (pos-≤ℤ (omega arith))

pub scaled_form : (r : Row) (ε : ℕ → Fraction) → scaled (form_value r ε) ≈ units ring_of_fractions r ε
unfolding form_value
scaled_form r ε =
    ≈_trans (times_quotient _ (whole (pos unit)) unit_nonzero)
    (+ℚ_cong (≈_refl _) (+ℚ_cong (weighted_sum_is_dot r.linear ε) (weighted_sum_is_dot r.pair _)))

pub scaled_in_units : (z : ℤ) → scaled (in_units z) ≈ whole z
scaled_in_units z = times_over z unit tt

pub scaled_cong : {u v : Fraction} → u ≈ v → scaled u ≈ scaled v
scaled_cong e = *ℚ_cong (≈_refl _) e

pub ≤_of_scaled : {u v : Fraction} → scaled u ≤ℚ scaled v → u ≤ℚ v
≤_of_scaled h = cancel_le ordered_fractions one_le_unit h

pub ≈_of_scaled : {u v : Fraction} → scaled u ≈ scaled v → u ≈ v
≈_of_scaled e =
    ≤ℚ_antisym (≤_of_scaled (le_cong ordered_fractions (≈_refl _) e (le_refl ordered_fractions _)))
    (≤_of_scaled (le_cong ordered_fractions (≈_refl _) (≈_sym e) (le_refl ordered_fractions _)))

-- within two ends, in units
pub scaled_above : {low : ℤ} {v : Fraction} → in_units low ≤ℚ v → whole low ≤ℚ scaled v
scaled_above {low} {v} h =
    le_cong ordered_fractions (scaled_in_units low) (≈_refl _)
    (certify ordered_fractions 3 (λ u a b. (con (pos 0) ≼ u) ∷ (a ≼ b) ∷ [] ⊢ (u ⊗ a ≼ u ⊗ b)) 0 (hyp 0 ⊠ hyp 1) tt (whole (pos unit)) (in_units low) v (whole_le ordered_fractions (pos-≤ℤ (omega arith))) h)

pub scaled_below : {high : ℤ} {v : Fraction} → v ≤ℚ in_units high → scaled v ≤ℚ whole high
scaled_below {high} {v} h =
    le_cong ordered_fractions (≈_refl _) (scaled_in_units high)
    (certify ordered_fractions 3 (λ u a b. (con (pos 0) ≼ u) ∷ (a ≼ b) ∷ [] ⊢ (u ⊗ a ≼ u ⊗ b)) 0 (hyp 0 ⊠ hyp 1) tt (whole (pos unit)) v (in_units high) (whole_le ordered_fractions (pos-≤ℤ (omega arith))) h)

pub within_of_scaled : {low high : ℤ} {v : Fraction} → whole low ≤ℚ scaled v → scaled v ≤ℚ whole high → Within low v high
within_of_scaled {low} {high} {v} l h =
    record {
      not_below = not_below_of-≤ℚ (≤_of_scaled (le_cong ordered_fractions (≈_sym (scaled_in_units low)) (≈_refl _) l));
      not_above = not_below_of-≤ℚ (≤_of_scaled (le_cong ordered_fractions (≈_refl _) (≈_sym (scaled_in_units high)) h));
    }
