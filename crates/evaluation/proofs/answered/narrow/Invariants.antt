-- After i rows the second table is what their answered ranges leave of it.
use mathlib.Core.Path.{◌≡◌}
use Rattle.evaluation.specs.Table.{ranges_after}
use Rattle.evaluation.proofs.AnsweredRanges.{told_up_to}
use Rattle.evaluation.proofs.answered.narrow.Given as goal

abbrev pub invariant-loop-i : goal.invariant-loop-i
invariant-loop-i l = l.ranges ≡ ranges_after (told_up_to l.c l.i) l.initial.ranges
