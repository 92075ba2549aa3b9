-- What the tables hold that an accepted evaluation left (manual, section 7.6): rows and ranges of which none is refused, and no number beyond the span limit.
use Rattle.std.specs.Prelude.{List, ℕ, ◌≤◌, ◌<◌, ℤ}
use Rattle.capacity.specs.Limits.{max_rows}
use Rattle.affine.specs.Limits.{span_limit}
use Rattle.interval.specs.Interval.{RangeWithin}
use Rattle.sheet.specs.declared.Schedule.{Schedule}
use Rattle.evaluation.specs.Table.{range_at, RowsWithin, RangesOrdered}
use Rattle.evaluation.specs.Work.{row_count}

pub record TablesHeld (c : Schedule) (left left_ranges : List ℤ) : Type 0 where
  pub some : 0 < row_count c
  pub few : row_count c ≤ max_rows
  pub rows : RowsWithin left (row_count c)
  pub ordered : RangesOrdered left_ranges (row_count c)
  pub ends_within : (i : ℕ) → i < row_count c → RangeWithin span_limit (range_at left_ranges i)
