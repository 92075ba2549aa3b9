-- The first i numbers are put.
use mathlib.Core.Path.{◌≡◌}
use lib.Seq.{paste}
use Rattle.evaluation.proofs.table.put_numbers.Given as goal

abbrev pub invariant-loop-i : goal.invariant-loop-i
invariant-loop-i l = l.dst ≡ paste l.initial.dst l.at l.src l.i
