-- The answer of an operation, by its span test; whatever the test says, the answer's row is within the span.
use mathlib.Core.Path.{◌≡◌, refl}
use Prim.Native.Nat.{◌≤◌}
use native.Mathlib.Omega.{arith}
use borrow.Author.Tests.{leb-true}
use lib.IntN.{pos}
use Rattle.affine.specs.declared.Row.{Row}
use Rattle.affine.specs.declared.Range.{Range}
use Rattle.affine.specs.Answer.{Answer}
use Rattle.affine.specs.Answer.{Accepted, SpanPassed}
use Rattle.affine.specs.Limits.{span_limit}
use Rattle.affine.specs.Row.{span, radius, within_span}
use Rattle.affine.specs.Steps.{constant_row, accepted, refused, checked_with}
use Rattle.affine.proofs.Lists.{pick_elim}

-- the row of any answer is within the span: so it may be an operand
pub answer_within : (r : Row) (own : Range) → span (checked_with r own).row ≤ span_limit
unfolding span
answer_within r own =
    pick_elim (λ a. span a.row ≤ span_limit) (within_span r) (accepted r own) (refused SpanPassed) (λ e. leb-true (span r) span_limit e) (λ e. omega arith)

-- what holds of a row, and of the row of zeros, holds of the row of its answer
pub answer_row : (P : Row → Type 0) (r : Row) (own : Range) → P r → P (constant_row (pos 0)) → P (checked_with r own).row
answer_row P r own h z = pick_elim (λ (a : Answer). P a.row) (within_span r) (accepted r own) (refused SpanPassed) (λ e. h) (λ e. z)

-- the radius of any answer is that of its row
pub zeros_radius : 0 ≡ radius (constant_row (pos 0))
unfolding radius
zeros_radius = refl

pub answer_radius : (r : Row) (own : Range) → (checked_with r own).radius ≡ radius (checked_with r own).row
answer_radius r own =
    pick_elim (λ (a : Answer). a.radius ≡ radius a.row) (within_span r) (accepted r own) (refused SpanPassed) (λ e. refl) (λ e. zeros_radius)

-- an accepted answer is the row that was checked, with its own range
pub checked_accepted : (r : Row) (own : Range) → (checked_with r own).status ≡ Accepted → checked_with r own ≡ accepted r own
checked_accepted r own =
    pick_elim (λ a. a.status ≡ Accepted → a ≡ accepted r own) (within_span r) (accepted r own) (refused SpanPassed) (λ t e. refl) (λ t e. cc)
