-- Asking about the rows of lent tables: a range, a comparison, a part of the table. "Asking about rows: 9, 8, 6, the lower row first"
use Rattle.std.specs.Prelude.{◌≡◌, Bool, false, List, [], ℕ, ◌-◌, ◌*◌, ◌≤◌, min, max, eqb, leb, ℤ, pos, length}
use Rattle.std.specs.Int.Signed.{le_z}
use Rattle.affine.specs.declared.Row.{Row}
use Rattle.affine.specs.declared.Range.{Range}
use Rattle.capacity.specs.Limits.{max_rows}
use Rattle.affine.specs.Lists.{pick}
use Rattle.affine.specs.Row.{within_span, same}
use Rattle.sheet.specs.Answers.{Refusal}
use Rattle.sheet.specs.Causes.{refusal, accepted}
use Rattle.evaluation.specs.Answers.{RangeAnswer, SameAnswer}
use Rattle.evaluation.specs.Table.{row_width, range_width, row_part, row_at, range_at}
use Rattle.evaluation.specs.Work.{table_too_short}

-- a row asked for is 0 or above the count given, or the count is above the most rows of a sheet, "the row count given may reach 48" | 9 | place 0
abbrev pub no_such_row : Refusal
no_such_row = refusal 9 0

abbrev pub is_row : ℕ → ℕ → Bool
is_row count row = pick (leb 1 row) (leb row count) false

-- span passed by a row lent to us | 6 | its row
abbrev pub lent_row : List ℤ → ℕ → Refusal
lent_row table row = pick (within_span (row_at table (row - 1))) accepted (refusal 6 row)

-- 9, and then 8: "the table must hold .. numbers for each row of the count given"
abbrev pub table_refusal : List ℤ → ℕ → Bool → Refusal
table_refusal table count rows =
    pick (pick rows (leb count max_rows) false)
    (pick (leb (row_width * count) (length table)) accepted table_too_short)
    no_such_row

-- the first of two refusals
abbrev pub or_else : Refusal → Refusal → Refusal
or_else r s = pick (eqb r.number 0) s r

unfoldable pub row_refusal : List ℤ → ℕ → ℕ → Refusal
row_refusal table count row = or_else (table_refusal table count (is_row count row)) (lent_row table row)

-- "a range is read there, with both tables lent": 8, of the second table ..
abbrev pub ranges_refusal : List ℤ → ℕ → Refusal
ranges_refusal ranges count = pick (leb (range_width * count) (length ranges)) accepted table_too_short

-- .. and "a low above its high gives 6"
abbrev pub lent_range : List ℤ → ℕ → Refusal
lent_range ranges row = pick (le_z (range_at ranges (row - 1)).low (range_at ranges (row - 1)).high) accepted (refusal 6 row)

unfoldable pub range_refusal : List ℤ → List ℤ → ℕ → ℕ → Refusal
range_refusal table ranges count row =
    or_else (table_refusal table count (is_row count row))
    (or_else (ranges_refusal ranges count) (or_else (lent_row table row) (lent_range ranges row)))

-- "tells a row's range"; "beside a refusal every other answer is 0"
abbrev pub range_told : Range → RangeAnswer
range_told r = record { refusal = accepted; low = r.low; high = r.high }

abbrev pub range_refused : Refusal → RangeAnswer
range_refused r = record { refusal = r; low = pos 0; high = pos 0 }

unfoldable pub range_of : List ℤ → List ℤ → ℕ → ℕ → RangeAnswer
range_of table ranges count row =
    pick (eqb (range_refusal table ranges count row).number 0)
    (range_told (range_at ranges (row - 1)))
    (range_refused (range_refusal table ranges count row))

-- "the lower row first"
unfoldable pub rows_refusal : List ℤ → ℕ → ℕ → ℕ → Refusal
rows_refusal table count first second =
    or_else (table_refusal table count (pick (is_row count first) (is_row count second) false))
    (or_else (lent_row table (min first second)) (lent_row table (max first second)))

-- "An accepted comparison calls two rows of one table the same, and answers yes, exactly when all their numbers agree."; "beside a refusal .. no"
abbrev pub compared : Row → Row → SameAnswer
compared x y = record { refusal = accepted; same = same x y }

abbrev pub not_compared : Refusal → SameAnswer
not_compared r = record { refusal = r; same = false }

unfoldable pub same_of : List ℤ → ℕ → ℕ → ℕ → SameAnswer
same_of table count first second =
    pick (eqb (rows_refusal table count first second).number 0)
    (compared (row_at table (first - 1)) (row_at table (second - 1)))
    (not_compared (rows_refusal table count first second))

-- "A row asked for is handed back as a part of the lent table itself. Where it is refused the part is empty"
unfoldable pub part_of : List ℤ → ℕ → ℕ → List ℤ
part_of table count row = pick (eqb (row_refusal table count row).number 0) (row_part table (row - 1)) []

-- Asking for the range of a row that is refused tells the refusal of the row itself: with any second table where it is 9 or 8, and where it is 6 with one
-- that is long enough for the count.
abbrev pub ToldByRange : List ℤ → ℕ → ℕ → Type 0
ToldByRange table count row =
    (ranges : List ℤ) → ((row_refusal table count row).number ≡ 6 → range_width * count ≤ length ranges)
    → range_of table ranges count row ≡ range_refused (row_refusal table count row)
