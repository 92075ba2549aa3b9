use Rattle.sheet.proofs.Results.{tested_one, read_answer_one, write_answer_one}
use Rattle.sheet.proofs.claims.answers.Goals as goal

pub returns : goal.returns
returns c = record { tests = tested_one; reads = read_answer_one; writes = write_answer_one }
