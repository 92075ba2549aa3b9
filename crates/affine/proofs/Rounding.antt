-- All that the proofs ask of the rounding rule of a product: a total is 4096 times its quotient plus its remainder, the quotient is no larger than the total, and the
-- remainder is below 4096 in size. So a total of 0 has quotient 0 and leaves nothing. And how far the remainders run.
use mathlib.Core.Path.{◌≡◌, sym, ap, ◌∙◌}
use Prim.Native.Nat.{◌≤◌, ◌<◌}
use native.Mathlib.Omega.{arith}
use lib.IntN.{ℤ, pos, nat_abs, ◌+ℤ◌, ◌*ℤ◌, *ℤ_comm}
use Rattle.integer.specs.Nearest.{nearest_quotient, nearest_remainder}
use Rattle.integer.proofs.Ring.{con, ◌⊕◌, ◌⊗◌}
use Rattle.integer.proofs.Linear.{lin_ℤ, ◌≗◌, ◌⇒◌, so}
use Rattle.integer.proofs.Absolute.{nat_abs_zero}
use Rattle.integer.proofs.NearestLaws.{is_nearest, remainder_runs, nat_abs_nearest_quotient, nat_abs_nearest_remainder}
use Rattle.affine.specs.Limits.{unit}
use Rattle.affine.specs.Product.{Rounding, product_rounding, RoundsToNearest, RemaindersRun}

pub rounds_to_nearest : RoundsToNearest
rounds_to_nearest t = is_nearest t unit (omega arith)

pub record Rounds (ρ : Rounding) : Type 0 where
  pub parts : (t : ℤ) → t ≡ pos unit *ℤ ρ.quotient t +ℤ ρ.remainder t
  pub quotient_within : (t : ℤ) → nat_abs (ρ.quotient t) ≤ nat_abs t
  pub remainder_small : (t : ℤ) → nat_abs (ρ.remainder t) < unit

pub product_rounds : Rounds product_rounding
product_rounds =
    record {
      parts = λ t. sym (rounds_to_nearest t).total ∙ ap (λ q. q +ℤ nearest_remainder t unit) (*ℤ_comm (nearest_quotient t unit) (pos unit));
      quotient_within = λ t. nat_abs_nearest_quotient t unit (omega arith);
      remainder_small = λ t. omega (arith, nat_abs_nearest_remainder t unit (omega arith));
    }

pub remainders_run : RemaindersRun
remainders_run t = remainder_runs (rounds_to_nearest t)

-- ---- a total of 0
pub quotient_zero : product_rounding.quotient (pos 0) ≡ pos 0
quotient_zero = nat_abs_zero _ (omega (arith, product_rounds.quotient_within (pos 0)))

pub remainder_zero : product_rounding.remainder (pos 0) ≡ pos 0
remainder_zero =
    lin_ℤ 2 (λ q r. con (pos 0) ≗ con (pos unit) ⊗ q ⊕ r ⇒ q ≗ con (pos 0) ⇒ so (r ≗ con (pos 0)))
    (product_rounding.quotient (pos 0)) (product_rounding.remainder (pos 0)) (omega arith) (product_rounds.parts (pos 0)) quotient_zero
