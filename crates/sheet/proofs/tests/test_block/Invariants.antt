-- the lines so far pass
use Rattle.std.proofs.Common.{ℕ, ◌<◌, true}
use Rattle.sheet.proofs.tests.test_block.Given as goal

abbrev pub invariant-loop-i : goal.invariant-loop-i
invariant-loop-i g l = (k : ℕ) → k < l.i → goal.F-post g l.passes k true
