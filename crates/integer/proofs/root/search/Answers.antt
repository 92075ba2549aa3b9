-- `search` meets its contract: the gap is whole at first, and closed at the end.
use native.Mathlib.Omega.{arith}
use Rattle.integer.proofs.RootLaws.{gap_whole, gap_closed}
use Rattle.integer.proofs.root.search.Goals as goal

pub loop-bit-init : goal.loop-bit-init
loop-bit-init g c = gap_whole c.requires.0 c.requires.1

pub returns : goal.returns
returns g c = gap_closed c.loop-bit.invariant (omega arith)
