-- The definitions at work: the sheet of "What the program prints" is read and written again, and small damaged sheets are refused with their number and
-- place (manual, section 6). All computed.
use mathlib.Core.Path.{◌≡◌, refl}
use mathlib.Core.Bool.{Bool, true, false}
use mathlib.Core.List.{List, [], ◌∷◌, ◌++◌}
use Prim.Native.Nat.{ℕ, suc}
use lib.Dec.{eqb}
use lib.ListN.{replicate}
use lib.IntN.{pos, negsuc}
use lib.Seq.{sets}
use Rattle.sheet.specs.Choice.{pick}
use Rattle.capacity.specs.Limits.{max_inputs, max_steps}
use Rattle.sheet.specs.Limits.{max_bytes}
use Rattle.sheet.specs.Causes.{accepted}
use Rattle.sheet.specs.Text.{decimal, numeral, line, texts}
use Rattle.sheet.specs.Number.{run, judged, after_sign, field_at}
use Rattle.sheet.specs.Lines.{zero_schedule, zero_end, zero_step, line_of, line_text, names, numbers, store}
use Rattle.sheet.specs.Tests.{counts_pass, ends_pass, step_passes, fault}
use Rattle.sheet.specs.Reading.{fields_from, fields_at, starts, read_as, read_lines, read_sheet, read_of}
use Rattle.sheet.specs.Writing.{text_at, sheet_text}
use Rattle.sheet.specs.declared.Schedule.{Schedule}
use Rattle.sheet.specs.declared.Step.{Step}
use Rattle.sheet.specs.declared.Line.TheVariants.{CountNames, EndNames, StepNames}

step : ℕ → ℕ → ℕ → ℕ → Step
step code first second value = record { code = pos code; first = pos first; second = pos second; value = pos value }

-- the sheet of "What the program prints", (x + 1)² - 2x for x from -1/8 to 1/8
example_sheet : Schedule
example_sheet = record {
  inputs = pos 1;
  squares = pos 1;
  steps = pos 6;
  ends = sets (replicate max_inputs zero_end) 0 (record { low = negsuc 511; high = pos 512 } ∷ []);
  step = sets (replicate max_steps zero_step) 0 (step 1 0 0 4096 ∷ step 2 1 2 0 ∷ step 4 3 3 0 ∷ step 1 0 0 8192 ∷ step 4 5 1 0 ∷ step 3 4 6 0 ∷ []);
}

-- its third line is `low high`, its fourth `-512 512`, its last `3 4 6 0`
fourth_line : text_at example_sheet 4 ≡ 45 ∷ 53 ∷ 49 ∷ 50 ∷ 32 ∷ 53 ∷ 49 ∷ 50 ∷ 10 ∷ []
unfolding example_sheet text_at line_of line_text numbers line numeral decimal
fourth_line = refl

last_line : text_at example_sheet 11 ≡ 51 ∷ 32 ∷ 52 ∷ 32 ∷ 54 ∷ 32 ∷ 48 ∷ 10 ∷ []
unfolding example_sheet step text_at line_of line_text numbers line numeral decimal
last_line = refl

read_example : read_of (sheet_text example_sheet) ≡ record { refusal = accepted; schedule = example_sheet }
unfolding example_sheet step sheet_text texts text_at line_of line_text numbers line numeral decimal read_of read_sheet read_lines read_as fields_at fields_from field_at after_sign judged run starts fault counts_pass ends_pass step_passes store zero_schedule
read_example = refl

-- a sheet of one input and one step, from the bytes of its three lines of numbers
sheet_with : List ℕ → List ℕ → List ℕ → List ℕ
sheet_with counts ends steps = names CountNames ++ (counts ++ (names EndNames ++ (ends ++ (names StepNames ++ steps))))

-- `1 0 1`, `0 0` and `1 0 0 0`, with byte 10
one_step : List ℕ
one_step = 49 ∷ 32 ∷ 48 ∷ 32 ∷ 49 ∷ 10 ∷ []

zero_ends : List ℕ
zero_ends = 48 ∷ 32 ∷ 48 ∷ 10 ∷ []

constant_zero : List ℕ
constant_zero = 49 ∷ 32 ∷ 48 ∷ 32 ∷ 48 ∷ 32 ∷ 48 ∷ 10 ∷ []

record Example : Type 0 where
  bytes : List ℕ
  number : ℕ
  place : ℕ

example : ℕ → ℕ → List ℕ → Example
example number place bytes = record { bytes = bytes; number = number; place = place }

holds : List Example → Bool
holds [] = true
holds (e ∷ es) = pick (eqb (read_of e.bytes).refusal.number e.number) (pick (eqb (read_of e.bytes).refusal.place e.place) (holds es) false) false

examples : List Example
examples =
    -- accepted
    example 0 0 (sheet_with one_step zero_ends constant_zero)
    -- nothing at all: the first line is missing
    ∷ example 2 1 []
    -- a byte too many
    ∷ example 1 0 (replicate (suc max_bytes) 0)
    -- `1 0 01`, and the same with an input too many: layout before meaning
    ∷ example 2 2 (sheet_with (49 ∷ 32 ∷ 48 ∷ 32 ∷ 48 ∷ 49 ∷ 10 ∷ []) zero_ends constant_zero)
    ∷ example 2 2 (sheet_with (numeral (pos (suc max_inputs)) ++ (32 ∷ 48 ∷ 32 ∷ 48 ∷ 49 ∷ 10 ∷ [])) zero_ends constant_zero)
    -- an input too many, a step too many, and `1 2 1`: more squares than inputs
    ∷ example 3 2 (sheet_with (line (pos (suc max_inputs) ∷ pos 0 ∷ pos 1 ∷ [])) zero_ends constant_zero)
    ∷ example 3 2 (sheet_with (line (pos 1 ∷ pos 0 ∷ pos (suc max_steps) ∷ [])) zero_ends constant_zero)
    ∷ example 3 2 (sheet_with (49 ∷ 32 ∷ 50 ∷ 32 ∷ 49 ∷ 10 ∷ []) zero_ends constant_zero)
    -- `1 0`: low above high
    ∷ example 4 4 (sheet_with one_step (49 ∷ 32 ∷ 48 ∷ 10 ∷ []) constant_zero)
    -- `-0 0`
    ∷ example 2 4 (sheet_with one_step (45 ∷ 48 ∷ 32 ∷ 48 ∷ 10 ∷ []) constant_zero)
    -- `-9999999999 0`: a number, beyond the limits; with one digit more it is none
    ∷ example 4 4 (sheet_with one_step (45 ∷ (replicate 10 57 ++ (32 ∷ 48 ∷ 10 ∷ []))) constant_zero)
    ∷ example 2 4 (sheet_with one_step (45 ∷ (replicate 11 57 ++ (32 ∷ 48 ∷ 10 ∷ []))) constant_zero)
    -- `2 1 2 0`: the step is row 2 itself
    ∷ example 5 6 (sheet_with one_step zero_ends (50 ∷ 32 ∷ 49 ∷ 32 ∷ 50 ∷ 32 ∷ 48 ∷ 10 ∷ []))
    -- `6 0 0 0` with no byte 10, and with it and a byte behind it
    ∷ example 2 6 (sheet_with one_step zero_ends (54 ∷ 32 ∷ 48 ∷ 32 ∷ 48 ∷ 32 ∷ 48 ∷ []))
    ∷ example 5 6 (sheet_with one_step zero_ends (54 ∷ 32 ∷ 48 ∷ 32 ∷ 48 ∷ 32 ∷ 48 ∷ 10 ∷ 10 ∷ []))
    -- a byte behind the last line
    ∷ example 2 7 (sheet_with one_step zero_ends (constant_zero ++ (10 ∷ [])))
    ∷ []

examples_hold : holds examples ≡ true
unfolding holds examples example sheet_with one_step zero_ends constant_zero line numeral decimal read_of read_sheet read_lines read_as fields_at fields_from field_at after_sign judged run starts fault counts_pass ends_pass step_passes store zero_schedule line_of numbers
examples_hold = refl
