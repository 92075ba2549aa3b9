-- `print_floor` is safe: the divisor is tested to be not 0, and the quotient fits but where the least number meets -1.
use Rattle.std.proofs.Common.{◌≡◌, ◌≢◌, ◌-◌, ◌^◌, ◌<◌, ap, arith, nat_abs, ℤ, pos, negsuc, w64, of_z, FitsSigned}
use mir.ValLaws.{to_z-of_z}
use Rattle.integer.specs.Floor.{floor_quotient}
use Rattle.integer.proofs.Absolute.{fits_of_nat_abs}
use Rattle.integer.proofs.Floor.{nat_abs_quotient}
use Rattle.integer.proofs.Truncated.{floor_quotient_fits}
use Rattle.integer_edges.proofs.print_floor.Goals as goal
use Rattle.integer_edges.proofs.print_floor.Goals.{else-a-via-then-a+else-d, else-a-via-else-a}

not_least : (a : ℤ) → FitsSigned w64 a → (of_z w64 a ≡ 2 ^ 63 → ⊥) → nat_abs a < 2 ^ 63
not_least (pos n) f h = f.sfits
not_least (negsuc n) f h = let k : n < 2 ^ 63 = f.sfits in let l : n ≢ 2 ^ 63 - 1 = λ e. h (omega arith) in omega arith

pub floor_quotient-requires : goal.floor_quotient-requires
floor_quotient-requires g c =
    let a = c.args.a in
    let d = c.args.d in
    let fits : FitsSigned w64 (floor_quotient a d) =
    elim c.else-a.branch [
      | else-a-via-then-a+else-d w ↦ floor_quotient_fits a d (λ e. w.if-d.false (ap (of_z w64) e)) c.ranges.a
      | else-a-via-else-a w ↦ let h = not_least a c.ranges.a w.if-a.false in let k = nat_abs_quotient a d in fits_of_nat_abs (floor_quotient a d) (omega arith)
    ]
    in
    rw (to_z-of_z w64 _ c.ranges.a, to_z-of_z w64 _ c.ranges.d) (λ e. c.if-d-eq0.false (ap (of_z w64) e), fits)
