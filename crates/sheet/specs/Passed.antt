-- What holds of the numbers of a schedule that passes the tests of its counts, ends and steps (manual, section 2.4), in natural numbers: what evaluation asks of a
-- schedule. `proofs/Passed.antt` has it from the tests.
use Rattle.std.specs.Prelude.{◌≡◌, true, ℕ, ◌+◌, ◌≤◌, ◌<◌, ℤ, pos, nat_abs}
use Rattle.std.specs.Int.Signed.{le_z}
use Rattle.capacity.specs.Limits.{max_inputs, max_steps}
use Rattle.sheet.specs.Limits.{end_limit, last_binary, last_code}
use Rattle.sheet.specs.Lines.{natural, ends_at, step_at}
use Rattle.sheet.specs.declared.Schedule.{Schedule}

-- `z` is a natural number from `a` to `b`
pub record Natural (a b : ℕ) (z : ℤ) : Type 0 where
  pub is : z ≡ pos (natural z)
  pub from : a ≤ natural z
  pub to : natural z ≤ b

-- the counts (cause 3)
pub record CountsPassed (inputs squares steps : ℤ) : Type 0 where
  pub inputs_in : Natural 1 max_inputs inputs
  pub squares_in : Natural 0 (natural inputs) squares
  pub steps_in : Natural 1 max_steps steps

-- the ends of an input (cause 4)
pub record EndsPassed (low high : ℤ) : Type 0 where
  pub low_in : nat_abs low ≤ end_limit
  pub high_in : nat_abs high ≤ end_limit
  pub order : le_z low high ≡ true

-- the fields of a step where so many rows are earlier, by its code (cause 5)
pub record StepPassed (earlier : ℕ) (code first second value : ℤ) : Type 0 where
  pub code_in : Natural 1 last_code code
  pub first_row : 2 ≤ natural code → Natural 1 earlier first
  pub first_zero : natural code ≤ 1 → first ≡ pos 0
  pub second_row : 2 ≤ natural code → natural code ≤ last_binary → Natural 1 earlier second
  pub second_zero : natural code ≤ 1 → second ≡ pos 0
  pub second_zero_last : last_binary < natural code → second ≡ pos 0
  pub value_in : natural code ≤ 1 → nat_abs value ≤ end_limit
  pub value_zero : 2 ≤ natural code → value ≡ pos 0

-- the schedule: its counts, the ends of each input and each step
pub record Passed (c : Schedule) : Type 0 where
  pub counts : CountsPassed c.inputs c.squares c.steps
  pub ends : (i : ℕ) → i < natural c.inputs → EndsPassed (ends_at c i).low (ends_at c i).high
  pub steps : (j : ℕ) → j < natural c.steps
      → StepPassed (natural c.inputs + j) (step_at c j).code (step_at c j).first (step_at c j).second (step_at c j).value
