-- The plain range of a root holds the whole-number root of 4096 times every value in a range from 1 on.
use Prim.Native.Nat.{◌*◌, ◌≤◌}
use native.Mathlib.Omega.{arith}
use mathlib.Core.List.{[], ◌∷◌}
use lib.IntN.{pos, negsuc, ◌*ℤ◌}
use lib.Signed.{◌≤ℤ◌}
use Rattle.integer.specs.Fraction.{Fraction, ◌≤ℚ◌, ◌*ℚ◌, whole}
use Rattle.integer.specs.Root.{floor_root}
use Rattle.integer.proofs.Ring.{con, ◌⊗◌}
use Rattle.integer.proofs.Certificate.{certify, hyp, eqn, ◌⊞◌, ◌⊠◌, ◌≼◌, ◌≋◌, ◌⊢◌}
use Rattle.integer.proofs.Order.{pos-≤ℤ}
use Rattle.integer.proofs.Fraction.{ordered_fractions, whole-*ℚ}
use Rattle.integer.proofs.Bound.{le_trans, whole_le, whole_nonneg}
use Rattle.integer.proofs.RootLaws.{floor_root_greatest, floor_root_at_most}
use Rattle.affine.specs.declared.Range.{Range}
use Rattle.affine.specs.Limits.{unit}
use Rattle.affine.specs.Root.{unit_root}
use Rattle.affine.proofs.RootCandidate.{unit_root_not_above}
use Rattle.interval.specs.Interval.{root}
use Rattle.interval.proofs.Holds.{Lies}

module _ {X : Fraction} {x : Range} (some : pos 1 ≤ℤ x.low) (l : Lies ordered_fractions X x) where
  -- that of which a root is taken
  abbrev radicand : Fraction
  radicand = whole (pos unit) *ℚ X

  from_low : whole (pos unit *ℤ x.low) ≤ℚ radicand
  from_low =
      certify ordered_fractions 4 (λ m u l X. (m ≋ u ⊗ l) ∷ (l ≼ X) ∷ (con (pos 0) ≼ u) ∷ [] ⊢ (m ≼ u ⊗ X)) 0 (eqn (con (negsuc 0)) 0 ⊞ hyp 2 ⊠ hyp 1) tt
      _ (whole (pos unit)) (whole x.low) X (whole-*ℚ (pos unit) x.low) l.from (whole_nonneg ordered_fractions unit)

  to_high : radicand ≤ℚ whole (pos unit *ℤ x.high)
  to_high =
      certify ordered_fractions 4 (λ m u h X. (m ≋ u ⊗ h) ∷ (X ≼ h) ∷ (con (pos 0) ≼ u) ∷ [] ⊢ (u ⊗ X ≼ m)) 0 (eqn (con (pos 1)) 0 ⊞ hyp 2 ⊠ hyp 1) tt
      _ (whole (pos unit)) (whole x.high) X (whole-*ℚ (pos unit) x.high) l.to (whole_nonneg ordered_fractions unit)

  least : whole (pos (unit_root x.low * unit_root x.low)) ≤ℚ radicand
  least = le_trans ordered_fractions (whole_le ordered_fractions (unit_root_not_above some)) from_low

  pub radicand_nonneg : whole (pos 0) ≤ℚ radicand
  radicand_nonneg = le_trans ordered_fractions (whole_le ordered_fractions (pos-≤ℤ (omega arith))) least

  pub root_not_below : unit_root x.low ≤ floor_root radicand
  root_not_below = floor_root_greatest radicand (unit_root x.low) radicand_nonneg least

  root_not_above : floor_root radicand ≤ unit_root x.high
  unfolding unit_root
  root_not_above = floor_root_at_most radicand (pos unit *ℤ x.high) radicand_nonneg to_high

  pub root_holds : Lies ordered_fractions (whole (pos (floor_root radicand))) (root x)
  root_holds = record { from = whole_le ordered_fractions (pos-≤ℤ root_not_below); to = whole_le ordered_fractions (pos-≤ℤ root_not_above) }
