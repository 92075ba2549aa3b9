-- How large the span of a new row gets, from those of its operands: the plain sum of its absolute values does not wrap.
use mathlib.Core.Path.{◌≡◌}
use Prim.Native.Nat.{ℕ, ◌+◌, ◌^◌, ◌≤◌, ◌<◌}
use native.Mathlib.Omega.{arith}
use lib.IntN.{ℤ, nat_abs}
use mir.Syntax.{w64}
use mir.Val.{SFits}
use Rattle.integer.proofs.Absolute.{nat_abs_of_fits}
use Rattle.affine.specs.declared.Row.{Row}
use Rattle.affine.specs.Limits.{symbols, pairs}
use Rattle.affine.specs.Row.{span}
use Rattle.affine.specs.Steps.{constant_row, with_own, zip_rows, map_row}
use Rattle.affine.proofs.RowSize.{span_is_sum}
use Rattle.affine.proofs.SumLaws.{sum_abs_set, sum_abs_map, sum_abs_zeros}
use Rattle.affine.proofs.Termwise.{joined_within}

-- the row that the code made is the one that was meant
pub span_as : {r s : Row} {n : ℕ} → r ≡ s → span s < n → span r < n
span_as e h = rw e h

pub span_constant : (v : ℤ) → span (constant_row v) ≡ nat_abs v
span_constant v = omega (arith, span_is_sum (constant_row v), sum_abs_zeros symbols, sum_abs_zeros pairs)

pub constant_spans : (v : ℤ) → SFits w64 v → span (constant_row v) < 2 ^ 64
constant_spans v f = omega (arith, span_constant v, nat_abs_of_fits v f)

pub span_own : (own : ℕ) (v : ℤ) (r : Row) → span (with_own own v r) ≤ span r + nat_abs v
span_own own v r = omega (arith, span_is_sum (with_own own v r), span_is_sum r, sum_abs_set r.linear own v)

-- a sum or a difference
pub span_zip : (op : ℤ → ℤ → ℤ) → ((x y : ℤ) → nat_abs (op x y) ≤ nat_abs x + nat_abs y) → (x y : Row) → span (zip_rows op x y) ≤ span x + span y
span_zip op triangle x y =
    omega (
      arith,
      span_is_sum (zip_rows op x y),
      span_is_sum x,
      span_is_sum y,
      triangle x.centre y.centre,
      joined_within op triangle symbols x.linear y.linear,
      joined_within op triangle pairs x.pair y.pair,
    )

pub span_map : (f : ℤ → ℤ) → ((z : ℤ) → nat_abs (f z) ≤ nat_abs z) → (r : Row) → span (map_row f r) ≤ span r
span_map f h r = omega (arith, span_is_sum (map_row f r), span_is_sum r, h r.centre, sum_abs_map f h r.linear, sum_abs_map f h r.pair)
