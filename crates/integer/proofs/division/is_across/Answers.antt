-- `is_across` meets its contract: by the divisor's sign, the test of the other one's.
use mir.Syntax.{w64}
use mir.ValLaws.{to_z-of_z}
use Rattle.integer.proofs.Machine.{<ℤ_of_test, ≥ℤ_of_test}
use Rattle.integer.proofs.Truncated.{across_positive, across_negative}
use Rattle.integer.proofs.division.is_across.Goals as goal

pub returns-then-d-gt0 : goal.returns-then-d-gt0
returns-then-d-gt0 c = rw (to_z-of_z w64 _ c.ranges.r) (across_positive c.args.r c.args.d (<ℤ_of_test (rw (to_z-of_z w64 _ c.ranges.d) at c.if-d-gt0.true)))

pub returns-else-d-gt0 : goal.returns-else-d-gt0
returns-else-d-gt0 c = rw (to_z-of_z w64 _ c.ranges.r) (across_negative c.args.r c.args.d c.requires (≥ℤ_of_test (rw (to_z-of_z w64 _ c.ranges.d) at c.if-d-gt0.false)))
