use Rattle.integer.proofs.Floor.{floor_divides, floor_unique, ups_agree}
use Rattle.integer.proofs.claims.floor.Goals as goal

pub returns : goal.returns
returns c = record { pair = floor_divides; only = λ a d q r. floor_unique; ups_agree = ups_agree }
