-- Each number that is printed reads back as that number, by the reader of a sheet's fields.
use Rattle.std.specs.Prelude.{◌≡◌, ◌≢◌, true, List, [], ◌∷◌, ℕ, suc, ◌-◌, ◌<◌, ℤ, pos, length, replicate}
use Rattle.sheet.specs.declared.Schedule.{Schedule}
use Rattle.sheet.specs.Answers.{Refusal, Fields}
use Rattle.sheet.specs.Causes.{accepted}
use Rattle.sheet.specs.Reading.{fields_from, read_of}
use Rattle.evaluation.specs.Work.{row_count, evaluated}
use Rattle.listing.specs.Listing.{refusal_names, row_numbers}
use Rattle.listing.specs.Truthful.{line_read}

-- The line of the row with index i reads as the row's numbers, as the tables hold them.
pub record ReadsAsRow (table ranges : List ℤ) (count i : ℕ) (line : Fields) : Type 0 where
  pub reads : line.ok ≡ true
  pub as_numbers : line.values ≡ row_numbers table ranges count (suc i)

-- So do the lines of all rows, and nothing stands behind the last.
pub record ReadsAsListing (table ranges : List ℤ) (count : ℕ) (text : List ℕ) : Type 0 where
  pub line_by_line : (i : ℕ) → i < count → ReadsAsRow table ranges count i (line_read text i)
  pub all : (line_read text (count - 1)).next ≡ length text

-- Two numbers read behind the names of a refusal.
abbrev pub refusal_read : List ℕ → Fields
refusal_read text = fields_from 2 0 (replicate 2 (pos 0)) text (length refusal_names)

-- They are the refusal's number and its place, and nothing stands behind them.
pub record ReadsAsRefusal (r : Refusal) (text : List ℕ) : Type 0 where
  pub reads : (refusal_read text).ok ≡ true
  pub as_numbers : (refusal_read text).values ≡ pos r.number ∷ pos r.place ∷ []
  pub all : (refusal_read text).next ≡ length text

-- What is printed of a schedule that is evaluated into tables: the rows that they hold afterwards, or the refusal.
pub record ScheduleLegible (c : Schedule) (table ranges table_afterwards ranges_afterwards : List ℤ) (text : List ℕ) : Type 0 where
  pub listing : (evaluated c table ranges).refusal ≡ accepted → ReadsAsListing table_afterwards ranges_afterwards (row_count c) text
  pub refusal : (evaluated c table ranges).refusal ≢ accepted → ReadsAsRefusal (evaluated c table ranges).refusal text

-- What is printed of a sheet: the refusal of reading it, or what is printed of its schedule.
pub record Legible (sheet : List ℕ) (table ranges table_afterwards ranges_afterwards : List ℤ) (text : List ℕ) : Type 0 where
  pub refusal : (read_of sheet).refusal ≢ accepted → ReadsAsRefusal (read_of sheet).refusal text
  pub schedule : (read_of sheet).refusal ≡ accepted → ScheduleLegible (read_of sheet).schedule table ranges table_afterwards ranges_afterwards text
