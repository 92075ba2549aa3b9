use Rattle.evaluation.proofs.AnswerLaws.{range_answer_one, same_answer_one}
use Rattle.evaluation.proofs.claims.answers.Goals as goal

pub returns : goal.returns
returns c = record { ranges = range_answer_one; comparisons = same_answer_one }
