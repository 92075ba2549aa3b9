-- `floor_quotient` meets its contract: the machine's quotient and remainder, and by their signs the four laws of `Truncated`.
use mathlib.Core.Path.{sym, ◌∙◌}
use lib.IntN.{ℤ}
use lib.Signed.{quot_z}
use mir.Syntax.{w64}
use mir.Val.{SFits}
use mir.ValLaws.{to_z-of_z}
use borrow.Author.Rules.{rules}
use Rattle.integer.specs.Floor.{floor_quotient}
use Rattle.integer.proofs.Floor.{floor_as, floor_unique}
use Rattle.integer.proofs.Machine.{back_as, <ℤ_of_test, ≥ℤ_of_test, bits_above_zero}
use Rattle.integer.proofs.Truncated.{quotient_fits, quotient_gives, remainder_gives, kept_by_positive, moved_by_positive, kept_by_negative, moved_by_negative}
use Rattle.integer.proofs.division.floor_quotient.Goals as goal

-- only the quotient of the least number by -1 does not fit, and there it is the quotient rounded down
q_fits : (a d : ℤ) → SFits w64 a → SFits w64 (floor_quotient a d) → SFits w64 (quot_z a d)
q_fits a d f g = quotient_fits a d f (λ e. g)

pub nonzero_div-q : goal.nonzero_div-q
nonzero_div-q c =
    let r = c.ranges in
    rw (to_z-of_z w64 _ r.a, to_z-of_z w64 _ r.d) (bits_above_zero c.args.d c.requires.0 r.d, q_fits c.args.a c.args.d r.a c.requires.1)

pub nonzero_rem-r : goal.nonzero_rem-r
nonzero_rem-r c =
    let r = c.ranges in
    rw (to_z-of_z w64 _ r.a, to_z-of_z w64 _ r.d) (bits_above_zero c.args.d c.requires.0 r.d, q_fits c.args.a c.args.d r.a c.requires.1)

pub overflow_sub-result-then-r-gt0 : goal.overflow_sub-result-then-r-gt0
overflow_sub-result-then-r-gt0 c = search rules

-- ---- by a positive divisor
pub returns-then-r-lt0-clause-value : goal.returns-then-r-lt0-clause-value
returns-then-r-lt0-clause-value c =
    let a = c.args.a in
    let d = c.args.d in
    let r = c.ranges in
    let moved =
    moved_by_positive a d (<ℤ_of_test (rw (to_z-of_z w64 _ r.d) at c.if-d-gt0.true)) (<ℤ_of_test (rw (remainder_gives r.a r.d) at c.if-r-lt0.true))
    in
    rw (quotient_gives r.a r.d (q_fits a d r.a c.requires.1)) (back_as moved.quotient c.requires.1)

pub returns-then-r-lt0-clause-floor : goal.returns-then-r-lt0-clause-floor
returns-then-r-lt0-clause-floor c = floor_as c.requires.0 (returns-then-r-lt0-clause-value c)

pub returns-then-r-lt0-clause-only : goal.returns-then-r-lt0-clause-only
returns-then-r-lt0-clause-only c = λ q r f. (floor_unique c.requires.0 f).0 ∙ sym (returns-then-r-lt0-clause-value c)

pub returns-else-r-lt0-clause-value : goal.returns-else-r-lt0-clause-value
returns-else-r-lt0-clause-value c =
    let a = c.args.a in
    let d = c.args.d in
    let r = c.ranges in
    let kept =
    kept_by_positive a d (<ℤ_of_test (rw (to_z-of_z w64 _ r.d) at c.if-d-gt0.true)) (≥ℤ_of_test (rw (remainder_gives r.a r.d) at c.if-r-lt0.false))
    in
    rw (quotient_gives r.a r.d (q_fits a d r.a c.requires.1)) kept.quotient

pub returns-else-r-lt0-clause-floor : goal.returns-else-r-lt0-clause-floor
returns-else-r-lt0-clause-floor c = floor_as c.requires.0 (returns-else-r-lt0-clause-value c)

pub returns-else-r-lt0-clause-only : goal.returns-else-r-lt0-clause-only
returns-else-r-lt0-clause-only c = λ q r f. (floor_unique c.requires.0 f).0 ∙ sym (returns-else-r-lt0-clause-value c)

-- ---- by a negative one
pub returns-then-r-gt0-clause-value : goal.returns-then-r-gt0-clause-value
returns-then-r-gt0-clause-value c =
    let a = c.args.a in
    let d = c.args.d in
    let r = c.ranges in
    let below = ≥ℤ_of_test (rw (to_z-of_z w64 _ r.d) at c.if-d-gt0.false) in
    let moved = moved_by_negative a d c.requires.0 below (<ℤ_of_test (rw (remainder_gives r.a r.d) at c.if-r-gt0.true)) in
    rw (quotient_gives r.a r.d (q_fits a d r.a c.requires.1)) (back_as moved.quotient c.requires.1)

pub returns-then-r-gt0-clause-floor : goal.returns-then-r-gt0-clause-floor
returns-then-r-gt0-clause-floor c = floor_as c.requires.0 (returns-then-r-gt0-clause-value c)

pub returns-then-r-gt0-clause-only : goal.returns-then-r-gt0-clause-only
returns-then-r-gt0-clause-only c = λ q r f. (floor_unique c.requires.0 f).0 ∙ sym (returns-then-r-gt0-clause-value c)

pub returns-else-r-gt0-clause-value : goal.returns-else-r-gt0-clause-value
returns-else-r-gt0-clause-value c =
    let a = c.args.a in
    let d = c.args.d in
    let r = c.ranges in
    let below = ≥ℤ_of_test (rw (to_z-of_z w64 _ r.d) at c.if-d-gt0.false) in
    let kept = kept_by_negative a d c.requires.0 below (≥ℤ_of_test (rw (remainder_gives r.a r.d) at c.if-r-gt0.false)) in
    rw (quotient_gives r.a r.d (q_fits a d r.a c.requires.1)) kept.quotient

pub returns-else-r-gt0-clause-floor : goal.returns-else-r-gt0-clause-floor
returns-else-r-gt0-clause-floor c = floor_as c.requires.0 (returns-else-r-gt0-clause-value c)

pub returns-else-r-gt0-clause-only : goal.returns-else-r-gt0-clause-only
returns-else-r-gt0-clause-only c = λ q r f. (floor_unique c.requires.0 f).0 ∙ sym (returns-else-r-gt0-clause-value c)
