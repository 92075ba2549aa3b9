-- What `read` and `write` say of one another (manual, section 2.7): which bytes are the sheet of a schedule, that a sheet's bytes come back when what was read is written, and
-- a schedule when what was written is read.
use Rattle.std.specs.Prelude.{◌≡◌, List, ◌∷◌, ◌++◌, ℕ, ◌+◌, ◌≤◌, ◌<◌, ℤ, nat_abs, length, drop}
use Rattle.std.proofs.lemmas.List.Edits.{sets}
use Rattle.sheet.specs.Answers.{Number}
use Rattle.sheet.specs.Causes.{accepted}
use Rattle.sheet.specs.Lines.{natural, zero_end, zero_step, ends_at, step_at}
use Rattle.sheet.specs.Number.{digit_of, field_at}
use Rattle.sheet.specs.Reading.{read_of}
use Rattle.sheet.specs.Text.{numeral}
use Rattle.sheet.specs.Writing.{test_of, sheet_text, Written}
use Rattle.sheet.specs.Same.{Same}
use Rattle.sheet.specs.declared.Schedule.{Schedule}

-- The bytes `s` are the sheet of `c`, which passes 3, 4 and 5.
pub record SheetOf (s : List ℕ) (c : Schedule) : Type 0 where
  pub text : s ≡ sheet_text c
  pub passes : test_of c ≡ accepted

-- Writing `c` makes the bytes `s`, wherever they have room: their number is answered, they stand in front, and every lent byte behind them is as it was.
abbrev pub WritesBack : List ℕ → Schedule → Type 0
WritesBack s c = (lent : List ℕ) → length s ≤ length lent → Written c lent (sets lent 0 s) (record { refusal = accepted; length = length s })

-- The bytes `s` are read as the same schedule as `c`, with zeros beyond its counts.
pub record ReadsAgain (c : Schedule) (s : List ℕ) : Type 0 where
  pub is_read : (read_of s).refusal ≡ accepted
  pub same : Same c (read_of s).schedule
  pub ends_zero : (i : ℕ) → natural c.inputs ≤ i → ends_at (read_of s).schedule i ≡ zero_end
  pub steps_zero : (j : ℕ) → natural c.steps ≤ j → step_at (read_of s).schedule j ≡ zero_step

-- A claim of numbers, wherever they stand: the numeral of one that has ten digits at the most, before a byte that is no digit, is read as that number.
abbrev pub NumeralsReadBack : Type 0
NumeralsReadBack =
    (s : List ℕ) (start end : ℕ) (z : ℤ) (rest : List ℕ) → nat_abs z < 10000000000 → 10 ≤ digit_of end → drop start s ≡ numeral z ++ (end ∷ rest)
    → field_at s start end ≡ Number z (start + length (numeral z) + 1)
