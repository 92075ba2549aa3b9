-- the loop halves the gap in which the root lies
use Rattle.integer.proofs.RootLaws.{Gap}
use Rattle.integer.proofs.root.search.Given as goal

abbrev pub invariant-loop-bit : goal.invariant-loop-bit
invariant-loop-bit g l = Gap l.n l.r l.bit
