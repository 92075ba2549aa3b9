use Rattle.integer.proofs.RootLaws.{is_root, root_unique, is_floor_root}
use Rattle.integer.proofs.claims.root.Goals as goal

pub returns : goal.returns
returns c = record { root = is_root; only = root_unique; of_fractions = is_floor_root }
