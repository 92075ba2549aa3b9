-- No answered range is empty. (That each holds the exact value of its row is in `Demand3.antt`.)
use Rattle.std.specs.Prelude.{◌≡◌, List, ℤ, length}
use Rattle.affine.specs.declared.Row.{Row}
use Rattle.sheet.specs.declared.Schedule.{Schedule}
use Rattle.evaluation.specs.Table.{RangesOrdered}
use Rattle.evaluation.specs.Ranges.{answered_ranges}

-- Of the rows worked, all of them or those before a refusal, and the second table left: each row has an answered range, and in the table no low is above
-- its high.
pub record NeverEmpty (c : Schedule) (rows : List Row) (left_ranges : List ℤ) : Type 0 where
  pub each_row : length (answered_ranges c rows) ≡ length rows
  pub ordered : RangesOrdered left_ranges (length rows)
