use Rattle.evaluation.proofs.RootStarts.{candidates_start_from_zero}
use Rattle.evaluation.proofs.RootMisses.{misses_every_number}
use Rattle.evaluation.proofs.claims.roots.Goals as goal

pub returns : goal.returns
returns c = record { start = candidates_start_from_zero; misses = misses_every_number }
