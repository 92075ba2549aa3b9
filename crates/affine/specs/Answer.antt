-- "Causes and what follows" (manual, section 5): how an operation ended, and what it answers.
use Rattle.std.specs.Prelude.{ℕ}
use Rattle.affine.specs.declared.Row.{Row}
use Rattle.affine.specs.declared.Range.{Range}

pub data Status : Type 0 where
  Accepted : Status
  SpanPassed : Status
  ZeroInRange : Status
  NoRoot : Status

-- where it was accepted the row, the sum of its absolute coefficients (its radius) and its own range, zeros beside a refusal
pub record Answer : Type 0 where
  pub status : Status
  pub row : Row
  pub radius : ℕ
  pub range : Range
