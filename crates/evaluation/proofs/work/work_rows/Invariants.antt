-- After i rows none of them was refused, the tables are what those rows and their ranges leave of the tables lent, and the list of radii has theirs.
use Rattle.evaluation.proofs.WorkedTable.{WorkedInto, RadiiOf}
use Rattle.evaluation.proofs.work.work_rows.Given as goal

abbrev pub invariant-loop-i : goal.invariant-loop-i
invariant-loop-i l = WorkedInto l.c l.i-counter l.fn.table l.table l.fn.ranges l.ranges × RadiiOf l.c l.i-counter l.radii
