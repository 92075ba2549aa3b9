-- the words before this position are numbers, and the first of them are kept
use Rattle.std.proofs.Common.{◌≡◌, ◌-◌, ℕ, ℤ, List, Some, length}
use Rattle.formula.specs.declared.call.TheConstants.{NUMBERS_ROOM}
use Rattle.formula.specs.Words.{NumbersRead, Holds}
use Rattle.formula.proofs.call.numbers_given.Given as goal

abbrev pub invariant-loop-i : goal.invariant-loop-i
invariant-loop-i g l =
    (length l.first ≡ NUMBERS_ROOM)
    × ((all : List (List ℕ)) → g.A.Words.words l.words ≡ Some all → (zs : List ℤ) × NumbersRead all l.i zs × Holds l.first (l.i - 2) zs)
