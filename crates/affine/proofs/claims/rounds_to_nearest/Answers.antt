use Rattle.affine.proofs.Rounding.{rounds_to_nearest}
use Rattle.affine.proofs.claims.rounds_to_nearest.Goals as goal

pub returns : goal.returns
returns c = rounds_to_nearest
