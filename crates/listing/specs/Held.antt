-- What the code reads: a row of a table that an accepted evaluation left (no part of what a listing means).
use Rattle.std.specs.Prelude.{List, ℕ, ◌≤◌, ℤ}
use Rattle.capacity.specs.Limits.{max_rows}
use Rattle.evaluation.specs.Table.{RowsWithin}

-- The first `count` rows of a table are rows within the span limit.
pub record RowsHeld (table : List ℤ) (count : ℕ) : Type 0 where
  pub few : count ≤ max_rows
  pub within : RowsWithin table count
