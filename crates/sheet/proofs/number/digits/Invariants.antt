-- the run from the start is the run from here
use Rattle.std.proofs.Common.{◌≡◌, ◌+◌, ◌<◌, drop}
use Rattle.sheet.specs.Number.{run}
use Rattle.sheet.proofs.number.digits.Given as goal

abbrev pub invariant-loop-i : goal.invariant-loop-i
invariant-loop-i l = (l.value < 10000000000) × (run 0 l.at (drop l.at l.s) ≡ run l.value (l.at + l.i) (drop (l.at + l.i) l.s))
