-- Evaluation without tables: the rows of a schedule one after another, each worked from those before it and their own ranges, up to the last or to a
-- refusal.
use Rattle.std.specs.Prelude.{Bool, false, List, [], ◌∷◌, ◌++◌, ℕ, zero, suc, ◌+◌, ◌-◌, ◌*◌, eqb, leb, ltb, ℤ, length}
use Rattle.affine.specs.declared.Row.{Row}
use Rattle.affine.specs.declared.Range.{Range}
use Rattle.affine.specs.Answer.{Answer}
use Rattle.affine.specs.Lists.{pick}
use Rattle.affine.specs.Steps.{constant_row, add_rows, subtract_rows, checked, input_answer, number}
use Rattle.affine.specs.Product.{product}
use Rattle.affine.specs.Reciprocal.{reciprocal}
use Rattle.affine.specs.Root.{square_root}
use Rattle.sheet.specs.declared.Step.{Step}
use Rattle.sheet.specs.declared.Schedule.{Schedule}
use Rattle.sheet.specs.Answers.{Refusal}
use Rattle.sheet.specs.Causes.{refusal, accepted}
use Rattle.sheet.specs.Limits.{last_binary}
use Rattle.sheet.specs.Lines.{natural, ends_at, step_at}
use Rattle.sheet.specs.Writing.{test_of}
use Rattle.evaluation.specs.Table.{row_width, range_width}
use Rattle.evaluation.specs.Ranges.{row_of, named_range, operand_ranges}

-- "Rows are numbered from 1: inputs first, then steps."
abbrev pub row_count : Schedule → ℕ
row_count c = natural c.inputs + natural c.steps

-- the row that a step names, among the rows before the step
abbrev pub named_row : List Row → ℤ → Row
named_row rows n = row_of rows (natural n - 1)

-- the codes that name two rows: "2 add, 3 subtract second from first, 4 multiply"
unfoldable pub binary_answer : ℕ → ℕ → ℤ → Row → Row → Answer
binary_answer squares own code x y =
    pick (eqb (natural code) 2) (checked (add_rows x y)) (pick (eqb (natural code) 3) (checked (subtract_rows x y)) (product squares own x y))

-- those that name one: "5 reciprocal of first", "Code 6 takes the root of its first row"
unfoldable pub unary_answer : ℕ → ℕ → ℤ → Row → Range → Answer
unary_answer squares own code x range = pick (eqb (natural code) 5) (reciprocal squares own x range) (square_root squares own x range)

-- "Codes: 1 constant (value, ..)", and those that name rows. A step's row owns the symbol of its index.
unfoldable pub step_answer : ℕ → List Row → List Range → Step → Answer
step_answer squares rows ranges t =
    pick (eqb (natural t.code) 1) (checked (constant_row t.value))
    (pick (leb (natural t.code) last_binary)
    (binary_answer squares (length rows) t.code (named_row rows t.first) (named_row rows t.second))
    (unary_answer squares (length rows) t.code (named_row rows t.first) (named_range ranges t.first)))

-- what the row after the rows so far becomes: an input's row, or a step's
unfoldable pub row_answer : Schedule → List Row → Answer
row_answer c rows =
    pick (ltb (length rows) (natural c.inputs))
    (input_answer (length rows) (ends_at c (length rows)).low (ends_at c (length rows)).high)
    (step_answer (natural c.squares) rows (operand_ranges c rows) (step_at c (length rows - natural c.inputs)))

-- the rows worked, and how the work ended
pub record Worked : Type 0 where
  pub rows : List Row
  pub refusal : Refusal

abbrev pub onward : List Row → Worked
onward rows = record { rows = rows; refusal = accepted }

abbrev pub stopped : List Row → Refusal → Worked
stopped rows r = record { rows = rows; refusal = r }

-- one row more, or the refusal "its row" of 6, 7 or 12, with the rows before it
unfoldable pub with_answer : List Row → Answer → Worked
with_answer rows a =
    pick (eqb (number a.status) 0)
    (onward (rows ++ (a.row ∷ [])))
    (stopped rows (refusal (number a.status) (suc (length rows))))

-- "then row by row": the first n rows of a schedule
unfoldable pub worked : Schedule → ℕ → Worked
worked c zero = onward []
worked c (suc n) = pick (eqb (worked c n).refusal.number 0) (with_answer (worked c n).rows (row_answer c (worked c n).rows)) (worked c n)

-- lent table too short | 8 | place 0
abbrev pub table_too_short : Refusal
table_too_short = refusal 8 0

-- both tables have room for so many rows
abbrev pub tables_hold : ℕ → List ℤ → List ℤ → Bool
tables_hold n table ranges = pick (leb (row_width * n) (length table)) (leb (range_width * n) (length ranges)) false

-- "A schedule handed to the writer or to evaluation is tested by 3, 4, 5 as its lines would stand, then 8"; "then row by row"
unfoldable pub evaluated : Schedule → List ℤ → List ℤ → Worked
evaluated c table ranges =
    pick (eqb (test_of c).number 0)
    (pick (tables_hold (row_count c) table ranges) (worked c (row_count c)) (stopped [] table_too_short))
    (stopped [] (test_of c))
