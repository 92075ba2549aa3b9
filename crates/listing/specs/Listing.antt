-- The text of a sheet, from its bytes to the bytes that are printed (manual, section 3): "What the program prints".
use Rattle.std.specs.Prelude.{List, [], ◌∷◌, ◌++◌, ℕ, zero, suc, ◌-◌, ◌*◌, eqb, ℤ, pos, replicate}
use Rattle.capacity.specs.Limits.{max_rows}
use Rattle.affine.specs.Lists.{pick, at}
use Rattle.sheet.specs.declared.Schedule.{Schedule}
use Rattle.sheet.specs.Answers.{Refusal}
use Rattle.sheet.specs.Text.{line, texts}
use Rattle.sheet.specs.Reading.{read_of}
use Rattle.evaluation.specs.Table.{row_width, range_width, table_after, ranges_after}
use Rattle.evaluation.specs.Work.{row_count, evaluated}
use Rattle.evaluation.specs.Ranges.{answered_ranges}
use Rattle.evaluation.specs.Asking.{range_of, same_of, part_of}

-- "Own is the own coefficient": row r owns symbol r, whose coefficient stands behind the centre and the symbols before it
abbrev pub own : List ℤ → ℕ → ℕ → ℤ
own table count row = at (part_of table count row) row

-- of n rows from one on, the first that is the same as a row, or 0
unfoldable pub first_among : List ℤ → ℕ → ℕ → ℕ → ℕ → ℕ
first_among table count row from zero = 0
first_among table count row from (suc n) = pick (same_of table count from row).same from (first_among table count row (suc from) n)

-- "same is the first earlier row with identical .. numbers, or 0"
abbrev pub first_same : List ℤ → ℕ → ℕ → ℕ
first_same table count row = first_among table count row 1 (row - 1)

-- the numbers of a row's line, in the order of "row low high own same"
abbrev pub row_numbers : List ℤ → List ℤ → ℕ → ℕ → List ℤ
row_numbers table ranges count row =
    pos row ∷ (range_of table ranges count row).low ∷ (range_of table ranges count row).high ∷ own table count row ∷ pos (first_same table count row) ∷ []

-- a row's line, with one space between its numbers and byte 10 at its end, as on a sheet
unfoldable pub row_text : List ℤ → List ℤ → ℕ → ℕ → List ℕ
row_text table ranges count row = line (row_numbers table ranges count row)

-- "row low high own same", with byte 10
abbrev pub column_names : List ℕ
column_names = 114 ∷ 111 ∷ 119 ∷ 32 ∷ 108 ∷ 111 ∷ 119 ∷ 32 ∷ 104 ∷ 105 ∷ 103 ∷ 104 ∷ 32 ∷ 111 ∷ 119 ∷ 110 ∷ 32 ∷ 115 ∷ 97 ∷ 109 ∷ 101 ∷ 10 ∷ []

-- the listing of the rows that the tables hold
unfoldable pub listing : List ℤ → List ℤ → ℕ → List ℕ
listing table ranges count = column_names ++ texts count 1 (row_text table ranges count)

-- "refused place", with byte 10
abbrev pub refusal_names : List ℕ
refusal_names = 114 ∷ 101 ∷ 102 ∷ 117 ∷ 115 ∷ 101 ∷ 100 ∷ 32 ∷ 112 ∷ 108 ∷ 97 ∷ 99 ∷ 101 ∷ 10 ∷ []

-- "For a refusal it prints `refused place` and one line with both."
unfoldable pub refusal_text : Refusal → List ℕ
refusal_text r = refusal_names ++ line (pos r.number ∷ pos r.place ∷ [])

-- the tables that evaluation leaves
abbrev pub table_left : Schedule → List ℤ → List ℤ → List ℤ
table_left c table ranges = table_after (evaluated c table ranges).rows table

abbrev pub ranges_left : Schedule → List ℤ → List ℤ → List ℤ
ranges_left c table ranges = ranges_after (answered_ranges c (evaluated c table ranges).rows) ranges

-- a schedule evaluated into the tables: its listing, or its refusal
unfoldable pub schedule_text : Schedule → List ℤ → List ℤ → List ℕ
schedule_text c table ranges =
    pick (eqb (evaluated c table ranges).refusal.number 0)
    (listing (table_left c table ranges) (ranges_left c table ranges) (row_count c))
    (refusal_text (evaluated c table ranges).refusal)

-- the bytes of a sheet, read and evaluated into the tables: the text, and both tables left
unfoldable pub text_of : List ℕ → List ℤ → List ℤ → List ℕ
text_of sheet table ranges =
    pick (eqb (read_of sheet).refusal.number 0) (schedule_text (read_of sheet).schedule table ranges) (refusal_text (read_of sheet).refusal)

unfoldable pub table_of : List ℕ → List ℤ → List ℤ → List ℤ
table_of sheet table ranges = pick (eqb (read_of sheet).refusal.number 0) (table_left (read_of sheet).schedule table ranges) table

unfoldable pub ranges_of : List ℕ → List ℤ → List ℤ → List ℤ
ranges_of sheet table ranges = pick (eqb (read_of sheet).refusal.number 0) (ranges_left (read_of sheet).schedule table ranges) ranges

-- "The program lends a table .. all zero at the start." "A full table is 4,080 numbers": room for every row
abbrev pub table_numbers : ℕ
table_numbers = row_width * max_rows

-- and a second one, "two numbers a row"
abbrev pub ranges_numbers : ℕ
ranges_numbers = range_width * max_rows

-- "It reads a sheet from standard input .. and it prints": what it prints for the bytes of an input
abbrev pub printed : List ℕ → List ℕ
printed input = text_of input (replicate table_numbers (pos 0)) (replicate ranges_numbers (pos 0))
