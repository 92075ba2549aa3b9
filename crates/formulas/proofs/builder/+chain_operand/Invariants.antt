-- `chain` reads an operand, and then sign and part as long as a sign of its rank or below follows; `operand` goes into brackets by `chain`. The measure falls with
-- the brackets that may still be opened, and within them with the rank.
use Rattle.std.proofs.Common.{◌+◌, ◌-◌, ◌*◌, length}
use Rattle.formulas.specs.Built.{Right}
use Rattle.formulas.proofs.builder.+chain_operand.Given as goal

abbrev pub decreases-chain : goal.decreases-chain
decreases-chain l = 4 * l.depth + l.rank + 1

abbrev pub decreases-operand : goal.decreases-operand
decreases-operand l = 4 * l.depth

-- what has been read so far
abbrev pub invariant-chain-loop-sign : goal.invariant-chain-loop-sign
invariant-chain-loop-sign l = Right l.text l.fn.steps.inputs l.rank l.depth l.at l.fn.steps l.steps l.left

abbrev pub decreases-chain-loop-sign : goal.decreases-chain-loop-sign
decreases-chain-loop-sign l = length l.text - l.left.next
