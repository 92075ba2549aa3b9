-- "Where the answer is an enum, there is a definition that gives this paper's number and values for each of its cases": the answer that a result tells.
use Rattle.std.specs.Prelude.{◌≡◌, Result, Ok, Err}
use Rattle.affine.specs.declared.Made.{Made}
use Rattle.affine.specs.declared.NoRow.{NoRow}
use Rattle.affine.specs.declared.NoRow.TheVariants as Why
use Rattle.affine.specs.Answer.{Status, Answer, Accepted, SpanPassed, ZeroInRange, NoRoot}
use Rattle.affine.specs.Steps.{refused}

abbrev pub status_of : NoRow → Status
status_of Why.SpanPassed = SpanPassed
status_of Why.ZeroInRange = ZeroInRange
status_of Why.NoRoot = NoRoot

abbrev pub answer_of : Result Made NoRow → Answer
answer_of (Ok m) = record { status = Accepted; row = m.row; radius = m.radius; range = m.range }
answer_of (Err e) = refused (status_of e)

-- The claim: an answer tells its result, so that a contract that gives the answer leaves one result.
abbrev pub AnswersTell : Type 0
AnswersTell = (a b : Result Made NoRow) → answer_of a ≡ answer_of b → a ≡ b
