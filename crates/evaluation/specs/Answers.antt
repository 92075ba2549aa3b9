-- What a range and a comparison answer ("tells a row's range", "compares two rows"), and the answer that each result of the code stands for.
use Rattle.std.specs.Prelude.{◌≡◌, Bool, false, Result, Ok, Err, ℤ, pos}
use Rattle.affine.specs.declared.Range.{Range}
use Rattle.sheet.specs.declared.causes.Refused.{Refused}
use Rattle.sheet.specs.Answers.{Refusal}
use Rattle.sheet.specs.Causes.{accepted}
use Rattle.sheet.specs.Results.{refusal_of}

-- "Beside a refusal every other answer is 0, no, ..": 0 and 0,
pub record RangeAnswer : Type 0 where
  pub refusal : Refusal
  pub low : ℤ
  pub high : ℤ

-- and no
pub record SameAnswer : Type 0 where
  pub refusal : Refusal
  pub same : Bool

abbrev pub range_answer : Result Range Refused → RangeAnswer
range_answer (Ok r) = record { refusal = accepted; low = r.low; high = r.high }
range_answer (Err r) = record { refusal = refusal_of r; low = pos 0; high = pos 0 }

abbrev pub same_answer : Result Bool Refused → SameAnswer
same_answer (Ok b) = record { refusal = accepted; same = b }
same_answer (Err r) = record { refusal = refusal_of r; same = false }

-- ---- the claims: an answer tells its result, so that a contract that gives the answer leaves one result
abbrev pub RangeAnswersTell : Type 0
RangeAnswersTell = (a b : Result Range Refused) → range_answer a ≡ range_answer b → a ≡ b

abbrev pub SameAnswersTell : Type 0
SameAnswersTell = (a b : Result Bool Refused) → same_answer a ≡ same_answer b → a ≡ b
