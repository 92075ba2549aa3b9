-- What a line, a part of a sheet and a call answer, as the definitions and laws have them; `Results.antt` says which answer a result of the code stands for.
use Rattle.std.specs.Prelude.{Bool, List, ℕ, ℤ}
use Rattle.sheet.specs.declared.Schedule.{Schedule}

-- Number and place of a refusal (manual, section 6); both 0 for an accepted call.
pub record Refusal : Type 0 where
  pub number : ℕ
  pub place : ℕ

-- What reading answers; a schedule of zeros beside a refusal.
pub record ReadAnswer : Type 0 where
  pub refusal : Refusal
  pub schedule : Schedule

-- What a call that writes into lent bytes answers: the length of what it wrote, 0 beside a refusal.
pub record WriteAnswer : Type 0 where
  pub refusal : Refusal
  pub length : ℕ

-- What stands at a position: a number, with the position past its end byte, or something else.
pub data Field : Type 0 where
  Number : ℤ → ℕ → Field
  Broken : Field

-- A line of up to four numbers: whether it is one, where the next line starts, and the numbers.
pub record Fields : Type 0 where
  pub ok : Bool
  pub next : ℕ
  pub values : List ℤ

-- A part of the sheet that was read or refused: where the next line starts, and the schedule so far.
pub record Part : Type 0 where
  pub refusal : Refusal
  pub next : ℕ
  pub schedule : Schedule
