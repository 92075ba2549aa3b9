-- The table of "Causes and what follows" (manual, section 6): number and place of each cause that this library tells.
use Rattle.std.specs.Prelude.{ℕ}
use Rattle.sheet.specs.Answers.{Refusal}

abbrev pub refusal : ℕ → ℕ → Refusal
refusal number place = record { number = number; place = place }

-- "An accepted call has number 0 and place 0."
abbrev pub accepted : Refusal
accepted = refusal 0 0

-- sheet over 1,024 bytes | 1 | place 0
abbrev pub sheet_too_long : Refusal
sheet_too_long = refusal 1 0

-- a text line breaks the layout, is missing, or bytes follow the last (a line more) | 2 | its text line
abbrev pub line_broken : ℕ → Refusal
line_broken line = refusal 2 line

-- lent bytes too short | 8 | place 0
abbrev pub bytes_too_short : Refusal
bytes_too_short = refusal 8 0

-- Causes 3, 4 and 5 have their text line as place: `fault` of `Tests.antt` gives the number.
abbrev pub count_wrong : ℕ
count_wrong = 3

abbrev pub end_wrong : ℕ
end_wrong = 4

abbrev pub step_wrong : ℕ
step_wrong = 5
