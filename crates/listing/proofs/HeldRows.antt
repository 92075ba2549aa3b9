-- Rows of a table that are within the span limit, and ranges of which no low is above its high: they are there to be read, and what the calls would
-- answer of them is what the tables hold.
use mathlib.Core.Path.{◌≡◌, ap}
use mathlib.Core.List.{List}
use Prim.Native.Nat.{ℕ, ◌+◌, ◌-◌, ◌*◌, ◌≤◌, ◌<◌}
use native.Mathlib.Omega.{arith}
use lib.IntN.{ℤ}
use lib.ListN.{length}
use Rattle.affine.specs.Limits.{span_limit}
use Rattle.affine.specs.Lists.{at}
use Rattle.affine.specs.Row.{span, same}
use Rattle.evaluation.specs.Table.{row_width, row_part, row_at, range_at, RangesOrdered}
use Rattle.evaluation.specs.Asking.{range_told, range_of, same_of}
use Rattle.evaluation.proofs.AskingLaws.{range_told_of, part_told_of, same_told_of}
use Rattle.listing.specs.Listing.{own}
use Rattle.listing.specs.Held.{RowsHeld}

-- one of the rows that a table holds, by its number
pub record RowHeld (table : List ℤ) (count row : ℕ) : Type 0 where
  pub rows : RowsHeld table count
  pub from_one : 1 ≤ row
  pub up_to : row ≤ count

pub row_held : {table : List ℤ} {count row : ℕ} → RowsHeld table count → (1 ≤ row) × (row ≤ count) → RowHeld table count row
row_held h within = record { rows = h; from_one = within.0; up_to = within.1 }

module _ {table : List ℤ} {count row : ℕ} (h : RowHeld table count row) where
  pub row_room : row_width * (row - 1) + row_width ≤ length table
  row_room = omega (arith, h.from_one, h.up_to, h.rows.within.room)

  pub row_within : span (row_at table (row - 1)) ≤ span_limit
  row_within = h.rows.within.spans (row - 1) (omega (arith, h.from_one, h.up_to))

  pub row_range : {ranges : List ℤ} → RangesOrdered ranges count → range_of table ranges count row ≡ range_told (range_at ranges (row - 1))
  row_range {ranges} ordered = range_told_of table count h.rows.few h.rows.within ranges ordered row h.from_one h.up_to

  pub row_own : own table count row ≡ at (row_part table (row - 1)) row
  row_own = ap (λ (l : List ℤ). at l row) (part_told_of table count h.rows.few h.rows.within row h.from_one h.up_to)

  -- an earlier row
  module _ {earlier : ℕ} (from_one : 1 ≤ earlier) (before : earlier < row) where
    pub earlier_same : (same_of table count earlier row).same ≡ same (row_at table (earlier - 1)) (row_at table (row - 1))
    earlier_same = ap (λ a. a.same) (same_told_of table count h.rows.few h.rows.within earlier row from_one (omega (arith, h.up_to)) h.from_one h.up_to)
