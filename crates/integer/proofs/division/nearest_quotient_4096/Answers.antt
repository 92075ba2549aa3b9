-- `nearest_quotient_4096` meets its contract: a shift is the division rounded down; a number of halves leaves room for one more.
use mathlib.Core.Path.{sym, ap, ◌∙◌}
use mathlib.Core.Logic.{◌≢◌}
use Prim.Native.Nat.{◌≤◌}
use native.Mathlib.Omega.{arith}
use lib.IntN.{ℤ, pos, nat_abs, ◌+ℤ◌}
use lib.Signed.{shr_z, mag_shr}
use mir.Syntax.{w64}
use mir.Val.{SFits}
use mir.ValLaws.{to_z-of_z, sfits_le}
use Rattle.integer.specs.Floor.{floor_quotient}
use Rattle.integer.proofs.Absolute.{nat_abs_add, nat_abs_of_fits, fits_of_nat_abs}
use Rattle.integer.proofs.Floor.{nat_abs_quotient_product, shift_is_floor}
use Rattle.integer.proofs.NearestLaws.{nearest_by_halves, nearest_unique, nearest_as, none_left_less, not_above, remainder_runs}
use Rattle.integer.proofs.division.nearest_quotient_4096.Goals as goal

halves_fit : (a : ℤ) → SFits w64 a → SFits w64 (shr_z a 2048)
halves_fit a f = sfits_le (mag_shr a 2048) f

half : pos 2048 ≢ pos 0
half e = let n = ap nat_abs e in omega arith

-- what is added to the halves
abbrev more : ℤ
more = pos 1

-- for one more there is room, and for none: that the sum fits does not rest on what is added
added_fits : (a k : ℤ) → nat_abs k ≤ 1 → SFits w64 a → SFits w64 (shr_z a 2048 +ℤ k)
added_fits a k h f =
    rw (shift_is_floor a 2048)
    (fits_of_nat_abs (floor_quotient a (pos 2048) +ℤ k)
    (omega (arith, h, nat_abs_add (floor_quotient a (pos 2048)) k, nat_abs_quotient_product a (pos 2048) half, nat_abs_of_fits a f)))

pub overflow_add-result : goal.overflow_add-result
overflow_add-result c = let f = c.ranges.a in rw (to_z-of_z w64 _ f, to_z-of_z w64 _ (halves_fit c.args.a f)) (added_fits c.args.a _ (omega arith) f)

pub returns-clause-value : goal.returns-clause-value
returns-clause-value c =
    let a = c.args.a in
    let f = c.ranges.a in
    let fits = added_fits a more (omega arith) f in
    rw (to_z-of_z w64 _ f, to_z-of_z w64 _ (halves_fit a f), to_z-of_z w64 _ fits, to_z-of_z w64 _ (sfits_le (mag_shr (shr_z a 2048 +ℤ more) 2) fits))
    (shift_is_floor _ 2 ∙ ap (λ z. floor_quotient (z +ℤ more) (pos 2)) (shift_is_floor a 2048) ∙ nearest_by_halves a 2048 (omega arith))

pub returns-clause-nearest : goal.returns-clause-nearest
returns-clause-nearest c = nearest_as (omega arith) (returns-clause-value c)

pub returns-clause-only : goal.returns-clause-only
returns-clause-only c = λ q r n. (nearest_unique c.args.a 4096 q r (omega arith) n).0 ∙ sym (returns-clause-value c)

pub returns-clause-none_nearer : goal.returns-clause-none_nearer
returns-clause-none_nearer c = λ p. none_left_less (returns-clause-nearest c) p (omega arith)

pub returns-clause-halves_upward : goal.returns-clause-halves_upward
returns-clause-halves_upward c = λ p. not_above (returns-clause-nearest c) p (omega arith)

pub returns-clause-remainder : goal.returns-clause-remainder
returns-clause-remainder c = remainder_runs (returns-clause-nearest c)
