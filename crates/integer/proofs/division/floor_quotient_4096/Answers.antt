-- `floor_quotient_4096` meets its contract: the shift is the division rounded down, and is no larger than what is shifted.
use mathlib.Core.Logic.{◌≢◌}
use mathlib.Core.Path.{ap, sym, ◌∙◌}
use native.Mathlib.Omega.{arith}
use lib.IntN.{pos, nat_abs}
use lib.Signed.{mag_shr}
use mir.Syntax.{w64}
use mir.ValLaws.{to_z-of_z, sfits_le}
use Rattle.integer.proofs.Floor.{shift_is_floor, floor_as, floor_unique}
use Rattle.integer.proofs.division.floor_quotient_4096.Goals as goal

some : pos 4096 ≢ pos 0
some e = let n = ap nat_abs e in omega arith

pub returns-clause-value : goal.returns-clause-value
returns-clause-value c =
    let a = c.args.a in
    rw (to_z-of_z w64 _ c.ranges.a, to_z-of_z w64 _ (sfits_le (mag_shr a 4096) c.ranges.a)) (shift_is_floor a 4096)

pub returns-clause-floor : goal.returns-clause-floor
returns-clause-floor c = floor_as some (returns-clause-value c)

pub returns-clause-only : goal.returns-clause-only
returns-clause-only c = λ q r f. (floor_unique some f).0 ∙ sym (returns-clause-value c)
