-- What the pairs (i,i) passed go above 0, and the sum of their coefficients.
use Prim.Native.Nat.{◌-◌}
use Rattle.affine.specs.Limits.{paired}
use Rattle.affine.proofs.RangeSize.{Balanced}
use Rattle.affine.proofs.form_range.sum_squares.Given as goal

abbrev pub invariant-loop-i : goal.invariant-loop-i
invariant-loop-i l = Balanced l.p l.above l.sum l.k (paired - l.i)
