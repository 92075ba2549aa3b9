-- `root` meets its contract: either search gives the root, and the root is the only one.
use Rattle.integer.proofs.RootLaws.{root_as}
use Rattle.integer.proofs.root.root.Goals as goal

pub returns-then-n-clause-root : goal.returns-then-n-clause-root
returns-then-n-clause-root c = root_as c.search.ensures

pub returns-else-n-clause-root : goal.returns-else-n-clause-root
returns-else-n-clause-root c = root_as c.search-else-n.ensures
