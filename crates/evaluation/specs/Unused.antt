-- What a sheet cannot use: the symbols of later rows, and so of rows that it does not have, and the pairs that are not in use. They have coefficient 0 in each of
-- its rows. That is the part of "Old sheets give their old listings" that can be said under one set of limits; docs/DECISIONS.md, "Limits", has the rest.
use Rattle.std.specs.Prelude.{false, ◌≡◌, List, ℕ, ◌<◌, pos, length}
use Rattle.affine.specs.declared.Row.{Row}
use Rattle.affine.specs.Limits.{pairs}
use Rattle.affine.specs.Lists.{at}
use Rattle.affine.specs.PairOrder.{in_use}
use Rattle.sheet.specs.declared.Schedule.{Schedule}
use Rattle.sheet.specs.Lines.{natural}
use Rattle.evaluation.specs.Ranges.{row_of}

-- of the row with index i, which owns the symbol of this index
pub record UnusedAreZero (squares i : ℕ) (r : Row) : Type 0 where
  pub later_symbol : (m : ℕ) → i < m → at r.linear m ≡ pos 0
  pub pair_not_in_use : (k : ℕ) → k < pairs → in_use squares k ≡ false → at r.pair k ≡ pos 0

-- of each of the rows worked, all of them or those before a refusal
abbrev pub AllUnusedAreZero : Schedule → List Row → Type 0
AllUnusedAreZero c rows = (i : ℕ) → i < length rows → UnusedAreZero (natural c.squares) i (row_of rows i)
