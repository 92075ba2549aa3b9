-- What is printed of a sheet is true: said of the sheet's bytes and of the bytes printed, as they read back, alone.
use Rattle.std.specs.Prelude.{◌≡◌, ◌≢◌, true, List, ℕ, zero, suc, ◌-◌, ◌≤◌, ◌<◌, ℤ, pos, length, replicate}
use Rattle.integer.specs.Fraction.{Fraction, ◌≈◌}
use Rattle.sheet.specs.declared.Schedule.{Schedule}
use Rattle.sheet.specs.Answers.{Fields}
use Rattle.sheet.specs.Causes.{accepted}
use Rattle.sheet.specs.Lines.{natural, item}
use Rattle.sheet.specs.Reading.{starts, fields_from, read_of}
use Rattle.evaluation.specs.Work.{row_count, evaluated}
use Rattle.evaluation.specs.Values.{Within, exact_value}
use Rattle.evaluation.specs.Demand3.{InputsWithin}
use Rattle.listing.specs.Listing.{column_names}

-- A text that begins with the names of the columns: a listing, and no refusal.
abbrev pub IsListing : List ℕ → Type 0
IsListing text = starts text column_names ≡ true

-- A sheet that is accepted: in reading, and in evaluation into these tables.
pub record IsAccepted (sheet : List ℕ) (table ranges : List ℤ) : Type 0 where
  pub in_reading : (read_of sheet).refusal ≡ accepted
  pub in_evaluation : (evaluated (read_of sheet).schedule table ranges).refusal ≡ accepted

-- Five numbers read at a position, with one space between them and byte 10 behind the last, as on a sheet.
abbrev pub five_at : List ℕ → ℕ → Fields
five_at text at = fields_from 5 0 (replicate 5 (pos 0)) text at

-- The line of the row with index i, as it reads: the first stands behind the names of the columns, each other behind the line before it.
unfoldable pub line_read : List ℕ → ℕ → Fields
line_read text zero = five_at text (length column_names)
line_read text (suc i) = five_at text (line_read text i).next

-- A number that names, among the rows before the one with index i, one with an equal exact value.
pub record NamesEqual (c : Schedule) (x : ℕ → Fraction) (i : ℕ) (named : ℤ) : Type 0 where
  pub from_one : 1 ≤ natural named
  pub earlier : natural named ≤ i
  pub equal : exact_value c x (natural named - 1) ≈ exact_value c x i

-- What the line of the row with index i says is true where the inputs are x: it has five numbers, one for each column; ..
pub record LineTrue (c : Schedule) (x : ℕ → Fraction) (i : ℕ) (line : Fields) : Type 0 where
  pub reads : line.ok ≡ true
  pub of_row : item line.values 0 ≡ pos (suc i)
  -- .. low and high hold the row's exact value ..
  pub holds : Within (item line.values 1) (exact_value c x i) (item line.values 2)
  -- .. and same, where it is not 0, names an earlier row with an equal one.
  pub same : item line.values 4 ≢ pos 0 → NamesEqual c x i (item line.values 4)

-- A text says the truth of a schedule: there is a line for each row and nothing behind the last, and whatever the inputs are within their ends, every line
-- is true.
pub record LinesTrue (c : Schedule) (text : List ℕ) : Type 0 where
  pub all : (line_read text (row_count c - 1)).next ≡ length text
  pub lines_true : (x : ℕ → Fraction) → InputsWithin c x → (i : ℕ) → i < row_count c → LineTrue c x i (line_read text i)

-- A listing is printed of a sheet that is accepted in reading, and says the truth of its schedule.
pub record Truthful (sheet text : List ℕ) : Type 0 where
  pub read : IsListing text → (read_of sheet).refusal ≡ accepted
  pub is_true : IsListing text → LinesTrue (read_of sheet).schedule text
