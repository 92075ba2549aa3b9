-- An answer tells its result: results of a range or of a comparison that tell the same answer are the same.
use Rattle.std.proofs.Common.{sym, ap, Ok, Err}
use Rattle.sheet.specs.declared.causes.Refused.{Refused}
use Rattle.sheet.proofs.Results.{number_some, refusal_one}
use Rattle.evaluation.specs.Answers.{RangeAnswer, SameAnswer, RangeAnswersTell, SameAnswersTell}

pub range_answer_one : RangeAnswersTell
range_answer_one (Ok x) (Ok y) e = ap (λ (a : RangeAnswer). Ok (record { low = a.low; high = a.high })) e
range_answer_one (Ok x) (Err y) e = absurd (number_some y.cause (ap (λ (a : RangeAnswer). a.refusal.number) (sym e)))
range_answer_one (Err x) (Ok y) e = absurd (number_some x.cause (ap (λ (a : RangeAnswer). a.refusal.number) e))
range_answer_one (Err x) (Err y) e = ap (λ (r : Refused). Err r) (refusal_one x y (ap (λ (a : RangeAnswer). a.refusal) e))

pub same_answer_one : SameAnswersTell
same_answer_one (Ok x) (Ok y) e = ap (λ (a : SameAnswer). Ok a.same) e
same_answer_one (Ok x) (Err y) e = absurd (number_some y.cause (ap (λ (a : SameAnswer). a.refusal.number) (sym e)))
same_answer_one (Err x) (Ok y) e = absurd (number_some x.cause (ap (λ (a : SameAnswer). a.refusal.number) e))
same_answer_one (Err x) (Err y) e = ap (λ (r : Refused). Err r) (refusal_one x y (ap (λ (a : SameAnswer). a.refusal) e))
