-- An answer tells its result: results that tell the same answer are the same.
use mathlib.Core.Path.{◌≡◌, refl, ap, sym}
use mathlib.Core.Logic.{◌≢◌}
use Rattle.std.specs.Prelude.{Result, Ok, Err}
use Rattle.affine.specs.declared.Made.{Made}
use Rattle.affine.specs.declared.NoRow.{NoRow}
use Rattle.affine.specs.declared.NoRow.TheVariants as Why
use Rattle.affine.specs.Answer.{Answer, Accepted}
use Rattle.affine.specs.Told.{status_of, answer_of}

-- a refusal's status is not that of an accepted row
pub status_of_refusal : (w : NoRow) → status_of w ≢ Accepted
status_of_refusal Why.SpanPassed e = cc
status_of_refusal Why.ZeroInRange e = cc
status_of_refusal Why.NoRoot e = cc

same_status : (v w : NoRow) → status_of v ≡ status_of w → v ≡ w
same_status Why.SpanPassed Why.SpanPassed e = refl
same_status Why.SpanPassed Why.ZeroInRange e = absurd (cc)
same_status Why.SpanPassed Why.NoRoot e = absurd (cc)
same_status Why.ZeroInRange Why.SpanPassed e = absurd (cc)
same_status Why.ZeroInRange Why.ZeroInRange e = refl
same_status Why.ZeroInRange Why.NoRoot e = absurd (cc)
same_status Why.NoRoot Why.SpanPassed e = absurd (cc)
same_status Why.NoRoot Why.ZeroInRange e = absurd (cc)
same_status Why.NoRoot Why.NoRoot e = refl

-- results that tell the same are the same
pub told_same : (a b : Result Made NoRow) → answer_of a ≡ answer_of b → a ≡ b
told_same (Ok m) (Ok n) e = ap (λ b. Ok (record { row = b.row; radius = b.radius; range = b.range })) e
told_same (Ok m) (Err w) e = absurd (status_of_refusal w (sym (ap (λ (b : Answer). b.status) e)))
told_same (Err w) (Ok m) e = absurd (status_of_refusal w (ap (λ (b : Answer). b.status) e))
told_same (Err v) (Err w) e = ap (λ u. Err u) (same_status v w (ap (λ (b : Answer). b.status) e))
