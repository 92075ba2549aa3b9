use Rattle.affine.proofs.Told.{told_same}
use Rattle.affine.proofs.claims.answers.Goals as goal

pub returns : goal.returns
returns c = told_same
