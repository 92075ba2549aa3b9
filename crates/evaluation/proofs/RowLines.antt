-- The line of a row, an input's or a step's, and what holds of it in a schedule that passed.
use mathlib.Core.Path.{◌≡◌, subst}
use mathlib.Core.List.{List}
use Prim.Native.Nat.{ℕ, ◌+◌, ◌-◌, ◌≤◌, ◌<◌}
use native.Mathlib.Omega.{arith}
use borrow.Author.Tests.{lt-ltb, le-ltb}
use lib.ListN.{length}
use lib.Signed.{◌≤ℤ◌}
use Rattle.integer.proofs.Machine.{≤ℤ_of_test}
use Rattle.affine.specs.declared.Row.{Row}
use Rattle.affine.specs.Limits.{symbols, paired}
use Rattle.affine.specs.Steps.{input_answer}
use Rattle.sheet.specs.declared.Schedule.{Schedule}
use Rattle.sheet.specs.Lines.{natural, ends_at, step_at}
use Rattle.sheet.proofs.Passing.{StepPassed}
use Rattle.sheet.proofs.Passed.{Passed}
use Rattle.evaluation.specs.Ranges.{operand_ranges}
use Rattle.evaluation.specs.Work.{row_count, step_answer, row_answer}

pub row_answer_input : (c : Schedule) (rows : List Row) (n : ℕ) → length rows ≡ n → n < natural c.inputs → row_answer c rows ≡ input_answer n (ends_at c n).low (ends_at c n).high
unfolding row_answer
row_answer_input c rows n e h = rw (e, lt-ltb n (natural c.inputs) h)

pub row_answer_step : (c : Schedule) (rows : List Row) (n : ℕ) → length rows ≡ n → natural c.inputs ≤ n
    → row_answer c rows ≡ step_answer (natural c.squares) rows (operand_ranges c rows) (step_at c (n - natural c.inputs))
unfolding row_answer
row_answer_step c rows n e h = rw (e, le-ltb n (natural c.inputs) h)

-- a schedule that passed has a symbol for each row, and a place for each square
pub rows_few : (c : Schedule) → Passed c → row_count c ≤ symbols
rows_few c passed = omega (arith, passed.counts.inputs_in.to, passed.counts.steps_in.to)

pub squares_few : (c : Schedule) → Passed c → natural c.squares ≤ paired
squares_few c passed = omega (arith, passed.counts.inputs_in.to, passed.counts.squares_in.to)

-- the step of a row passed 5, as the row's place asks
pub step_of_row : (c : Schedule) → Passed c → (n : ℕ) → n < row_count c → natural c.inputs ≤ n
    → let t = step_at c (n - natural c.inputs) in StepPassed n t.code t.first t.second t.value
step_of_row c passed n h l =
    let t = step_at c (n - natural c.inputs) in
    let m : natural c.inputs + (n - natural c.inputs) ≡ n = omega arith in
    subst (λ k. StepPassed k t.code t.first t.second t.value) m (passed.steps (n - natural c.inputs) (omega arith))

-- the ends of an input passed 4, and are in order
pub ends_ordered : (c : Schedule) → Passed c → (i : ℕ) → i < natural c.inputs → (ends_at c i).low ≤ℤ (ends_at c i).high
ends_ordered c passed i h = ≤ℤ_of_test (passed.ends i h).order
