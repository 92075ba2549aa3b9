-- The numbers of a row as code reads them from their bits: within the span limit they fit, and are what they were.
use mathlib.Core.Path.{◌≡◌}
use Prim.Native.Nat.{ℕ, ◌≤◌}
use native.Mathlib.Omega.{arith}
use mir.Syntax.{w64}
use mir.Val.{SFits, to_z, of_z}
use mir.ValLaws.{to_z-of_z}
use Rattle.integer.proofs.Absolute.{fits_within}
use Rattle.affine.specs.declared.Row.{Row}
use Rattle.affine.specs.Limits.{span_limit}
use Rattle.affine.specs.Lists.{at}
use Rattle.affine.specs.Row.{span}
use Rattle.affine.proofs.RowSize.{centre_within, linear_at_within, pair_at_within}

module _ (r : Row) (h : span r ≤ span_limit) where
  pub centre_fits : SFits w64 r.centre
  centre_fits = fits_within r.centre span_limit (centre_within r h) (omega arith)

  pub read_centre : to_z w64 (of_z w64 r.centre) ≡ r.centre
  read_centre = to_z-of_z w64 r.centre centre_fits

  pub read_linear : (i : ℕ) → to_z w64 (of_z w64 (at r.linear i)) ≡ at r.linear i
  read_linear i = to_z-of_z w64 (at r.linear i) (fits_within (at r.linear i) span_limit (linear_at_within r h i) (omega arith))

  pub read_pair : (k : ℕ) → to_z w64 (of_z w64 (at r.pair k)) ≡ at r.pair k
  read_pair k = to_z-of_z w64 (at r.pair k) (fits_within (at r.pair k) span_limit (pair_at_within r h k) (omega arith))
