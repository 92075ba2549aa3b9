-- The two lent tables: where a row's numbers and its range stand in them, and what rows and ranges put into them leave.
use Rattle.std.specs.Prelude.{List, [], ◌∷◌, ◌++◌, ◌≡◌, ℕ, suc, ◌+◌, ◌*◌, ◌≤◌, ◌<◌, ℤ, length, get_or, take, drop, ◌≤ℤ◌}
use Rattle.affine.specs.declared.Row.{Row}
use Rattle.affine.specs.declared.Range.{Range}
use Rattle.affine.specs.Limits.{symbols, pairs, span_limit}
use Rattle.affine.specs.Lists.{at, tabulate}
use Rattle.affine.specs.Row.{numbers, span, radius, NoneFrom}
use Rattle.affine.specs.Root.{Centred}

-- "a row has 85 numbers"
abbrev pub row_width : ℕ
row_width = 1 + symbols + pairs

-- "a second lent table, two numbers a row"
abbrev pub range_width : ℕ
range_width = 2

-- so many numbers for each row: those of the row with index i
abbrev pub part : ℕ → List ℤ → ℕ → List ℤ
part width table i = take width (drop (width * i) table)

-- ".. numbers for each row"
abbrev pub row_part : List ℤ → ℕ → List ℤ
row_part table i = part row_width table i

abbrev pub range_part : List ℤ → ℕ → List ℤ
range_part ranges i = part range_width ranges i

-- the row that so many numbers are: "the centre; .. linear coefficients, ..; .. pair coefficients"
abbrev pub row_of_numbers : List ℤ → Row
row_of_numbers ns = record { centre = at ns 0; linear = take symbols (drop 1 ns); pair = take pairs (drop (1 + symbols) ns) }

-- the row with index i, as a table holds it
abbrev pub row_at : List ℤ → ℕ → Row
row_at table i = row_of_numbers (row_part table i)

-- "with the answered low and high": the range of the row with index i, as the second table holds it
abbrev pub range_of_numbers : List ℤ → Range
range_of_numbers ns = record { low = at ns 0; high = at ns 1 }

abbrev pub range_numbers : Range → List ℤ
range_numbers r = r.low ∷ r.high ∷ []

abbrev pub range_at : List ℤ → ℕ → Range
range_at ranges i = range_of_numbers (range_part ranges i)

-- the numbers of each of a list, one after the other
unfoldable pub all_numbers : {A : Type 0} → (A → List ℤ) → List A → List ℤ
all_numbers of [] = []
all_numbers of (x ∷ xs) = of x ++ all_numbers of xs

-- such numbers put at the front of a table, so many for each
unfoldable pub after : {A : Type 0} → ℕ → (A → List ℤ) → List A → List ℤ → List ℤ
after width of xs table = all_numbers of xs ++ drop (width * length xs) table

-- "Evaluation needs .. numbers for each row and writes no others. After 6 or 7 the rows before the place are written." (12: "place and table as for 7".)
abbrev pub table_after : List Row → List ℤ → List ℤ
table_after rows table = after row_width numbers rows table

-- "It follows the first one's rules"
abbrev pub ranges_after : List Range → List ℤ → List ℤ
ranges_after told ranges = after range_width range_numbers told ranges

-- The first n rows of a table, each within the span limit: such a row is not refused.
pub record RowsWithin (table : List ℤ) (n : ℕ) : Type 0 where
  pub room : row_width * n ≤ length table
  pub spans : (i : ℕ) → i < n → span (row_at table i) ≤ span_limit

-- The first n ranges of a second table, no low above its high: such a range is not refused.
pub record RangesOrdered (ranges : List ℤ) (n : ℕ) : Type 0 where
  pub room : range_width * n ≤ length ranges
  pub ordered : (i : ℕ) → i < n → (range_at ranges i).low ≤ℤ (range_at ranges i).high

-- ---- what the code reads: the first n rows of a table and their ranges (not of the specification)
unfoldable pub rows_in : List ℤ → ℕ → List Row
rows_in table n = tabulate n (row_at table)

unfoldable pub ranges_in : List ℤ → ℕ → List Range
ranges_in ranges n = tabulate n (range_at ranges)

-- what a product or a reciprocal asks of its operands besides: no coefficient of a later row's symbol, and the radius of each row, in a list beside the tables
pub record Operands (table : List ℤ) (radii : List ℕ) (n : ℕ) : Type 0 where
  pub room : n ≤ length radii
  pub none_later : (i : ℕ) → i < n → NoneFrom (suc i) (row_at table i).linear
  pub radius_at : (i : ℕ) → i < n → get_or radii i 0 ≡ radius (row_at table i)

pub record RangesOf (table ranges : List ℤ) (n : ℕ) : Type 0 where
  pub room : range_width * n ≤ length ranges
  pub centred : (i : ℕ) → i < n → Centred (range_at ranges i) (row_at table i)
