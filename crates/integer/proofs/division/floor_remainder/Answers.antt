-- `floor_remainder` meets its contract: the machine's remainder, or one divisor more where it lies across 0 from the divisor.
use mathlib.Core.Path.{◌≡◌, sym, ◌∙◌, subst}
use Prim.Native.Nat.{◌^◌, ◌<◌}
use lib.IntN.{ℤ}
use lib.Signed.{mag, rem_z}
use mir.Syntax.{w64}
use mir.Val.{SFits, to_z, of_z}
use mir.ValLaws.{to_z-of_z}
use Rattle.integer.specs.Floor.{floor_quotient, IsFloor}
use Rattle.integer.proofs.Floor.{floor_divides, floor_unique}
use Rattle.integer.proofs.Machine.{back, back_as}
use Rattle.integer.proofs.Truncated.{remainder_fits, moved, kept}
use Rattle.integer.proofs.division.floor_remainder.Goals as goal

wrapped_gives : {a d r : ℤ} → SFits w64 a → SFits w64 d → mag r < 2 ^ 63 → r ≡ rem_z (to_z w64 (of_z w64 a)) (to_z w64 (of_z w64 d)) → to_z w64 (of_z w64 r) ≡ rem_z a d
wrapped_gives f g l e = back l ∙ (rw (to_z-of_z w64 _ f, to_z-of_z w64 _ g) at e)

pub returns-then-is_across-clause-value : goal.returns-then-is_across-clause-value
returns-then-is_across-clause-value c =
    let a = c.args.a in
    let d = c.args.d in
    let r = c.ranges in
    let left = wrapped_gives r.a r.d c.wrapping_rem-r.type_inv c.wrapping_rem-r.ensures in
    let down = moved a d _ c.requires (rw (left, to_z-of_z w64 _ r.d) at c.is_across.ensures) c.if-is_across.true in
    rw (left, to_z-of_z w64 _ r.d) (back_as down.remainder (remainder_fits a d c.requires r.d))

pub returns-then-is_across-clause-floor : goal.returns-then-is_across-clause-floor
returns-then-is_across-clause-floor c = subst (λ r. IsFloor c.args.a c.args.d (floor_quotient c.args.a c.args.d) r) (sym (returns-then-is_across-clause-value c)) (floor_divides c.args.a c.args.d c.requires)

pub returns-then-is_across-clause-only : goal.returns-then-is_across-clause-only
returns-then-is_across-clause-only c = λ q r f. (floor_unique c.requires f).1 ∙ sym (returns-then-is_across-clause-value c)

pub returns-else-is_across-clause-value : goal.returns-else-is_across-clause-value
returns-else-is_across-clause-value c =
    let a = c.args.a in
    let d = c.args.d in
    let r = c.ranges in
    let rest = wrapped_gives r.a r.d c.wrapping_rem-r.type_inv c.wrapping_rem-r.ensures in
    rw rest (kept a d _ c.requires (rw (rest, to_z-of_z w64 _ r.d) at c.is_across.ensures) c.if-is_across.false).remainder

pub returns-else-is_across-clause-floor : goal.returns-else-is_across-clause-floor
returns-else-is_across-clause-floor c = subst (λ r. IsFloor c.args.a c.args.d (floor_quotient c.args.a c.args.d) r) (sym (returns-else-is_across-clause-value c)) (floor_divides c.args.a c.args.d c.requires)

pub returns-else-is_across-clause-only : goal.returns-else-is_across-clause-only
returns-else-is_across-clause-only c = λ q r f. (floor_unique c.requires f).1 ∙ sym (returns-else-is_across-clause-value c)
