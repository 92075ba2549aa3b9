use Rattle.affine.proofs.Rounding.{remainders_run}
use Rattle.affine.proofs.claims.remainders_run.Goals as goal

pub returns : goal.returns
returns c = remainders_run
