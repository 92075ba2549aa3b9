-- The lines of a schedule's sheet, one after another: what each holds, where it has its place, and its text ("The sheet": manual, section 2).
use Rattle.std.specs.Prelude.{List, [], ◌∷◌, ℕ, ◌+◌, ◌-◌, leb, ltb, eqb, get_or, set, replicate, ℤ, pos, negsuc}
use Rattle.sheet.specs.Choice.{pick}
use Rattle.sheet.specs.Text.{line}
use Rattle.capacity.specs.Limits.{max_inputs, max_steps}
use Rattle.sheet.specs.declared.End.{End}
use Rattle.sheet.specs.declared.Step.{Step}
use Rattle.sheet.specs.declared.Schedule.{Schedule}
use Rattle.sheet.specs.declared.Line.{Line}
use Rattle.sheet.specs.declared.Line.TheVariants.{CountNames, CountLine, EndNames, EndLine, StepNames, StepLine}

abbrev pub zero_end : End
zero_end = record { low = pos 0; high = pos 0 }

abbrev pub zero_step : Step
zero_step = record { code = pos 0; first = pos 0; second = pos 0; value = pos 0 }

-- "a schedule of zeros"
unfoldable pub zero_schedule : Schedule
zero_schedule = record {
  inputs = pos 0;
  squares = pos 0;
  steps = pos 0;
  ends = replicate max_inputs zero_end;
  step = replicate max_steps zero_step;
}

-- A count as a natural number; one below 0 counts as 0.
abbrev pub natural : ℤ → ℕ
natural (pos n) = n
natural (negsuc n) = 0

-- "Three blocks, each a line of names and then lines of values in that order": what text line `n` (from 1) of a sheet with so many inputs is.
-- A line of a step carries the step's index and how many rows are earlier, the inputs and the steps before it.
unfoldable pub line_of : ℕ → ℕ → Line
line_of inputs n =
    pick (leb n 1) CountNames
    (pick (eqb n 2) CountLine
    (pick (eqb n 3) EndNames
    (pick (ltb (n - 4) inputs) (EndLine (n - 4))
    (pick (eqb (n - 4) inputs) StepNames (StepLine (n - 5 - inputs) (n - 5))))))

abbrev pub line_at : Schedule → ℕ → Line
line_at c n = line_of (natural c.inputs) n

-- How many text lines follow the first two.
abbrev pub lines_left : Schedule → ℕ
lines_left c = natural c.inputs + natural c.steps + 2

-- The names of a line of names, with byte 10: `inputs squares steps`, `low high`, `step first second value`.
abbrev pub names : Line → List ℕ
names CountNames = 105 ∷ 110 ∷ 112 ∷ 117 ∷ 116 ∷ 115 ∷ 32 ∷ 115 ∷ 113 ∷ 117 ∷ 97 ∷ 114 ∷ 101 ∷ 115 ∷ 32 ∷ 115 ∷ 116 ∷ 101 ∷ 112 ∷ 115 ∷ 10 ∷ []
names EndNames = 108 ∷ 111 ∷ 119 ∷ 32 ∷ 104 ∷ 105 ∷ 103 ∷ 104 ∷ 10 ∷ []
names StepNames = 115 ∷ 116 ∷ 101 ∷ 112 ∷ 32 ∷ 102 ∷ 105 ∷ 114 ∷ 115 ∷ 116 ∷ 32 ∷ 115 ∷ 101 ∷ 99 ∷ 111 ∷ 110 ∷ 100 ∷ 32 ∷ 118 ∷ 97 ∷ 108 ∷ 117 ∷ 101 ∷ 10 ∷ []
names CountLine = []
names (EndLine i) = []
names (StepLine i r) = []

-- How many numbers a line holds.
abbrev pub width : Line → ℕ
width CountNames = 0
width CountLine = 3
width EndNames = 0
width (EndLine i) = 2
width StepNames = 0
width (StepLine i r) = 4

-- The ends of input `i`, counted from 0, and step `i`; zeros where there is none.
abbrev pub ends_at : Schedule → ℕ → End
ends_at c i = get_or c.ends i zero_end

abbrev pub step_at : Schedule → ℕ → Step
step_at c i = get_or c.step i zero_step

abbrev pub end_numbers : End → List ℤ
end_numbers e = e.low ∷ e.high ∷ []

abbrev pub step_numbers : Step → List ℤ
step_numbers t = t.code ∷ t.first ∷ t.second ∷ t.value ∷ []

-- The numbers that a line of a schedule's sheet holds, in the order of the names above it.
unfoldable pub numbers : Schedule → Line → List ℤ
numbers c CountNames = []
numbers c CountLine = c.inputs ∷ c.squares ∷ c.steps ∷ []
numbers c EndNames = []
numbers c (EndLine i) = end_numbers (ends_at c i)
numbers c StepNames = []
numbers c (StepLine i r) = step_numbers (step_at c i)

-- The text of a line: its names, or its numbers.
unfoldable pub line_text : Line → List ℤ → List ℕ
line_text l xs = pick (eqb (width l) 0) (names l) (line xs)

-- Number `i` of a line.
abbrev pub item : List ℤ → ℕ → ℤ
item v i = get_or v i (pos 0)

abbrev pub ends_of : List ℤ → End
ends_of v = record { low = item v 0; high = item v 1 }

abbrev pub step_of : List ℤ → Step
step_of v = record { code = item v 0; first = item v 1; second = item v 2; value = item v 3 }

abbrev pub with_counts : Schedule → List ℤ → Schedule
with_counts c v = record { inputs = item v 0; squares = item v 1; steps = item v 2; ends = c.ends; step = c.step }

abbrev pub with_ends : Schedule → ℕ → End → Schedule
with_ends c i e = record { inputs = c.inputs; squares = c.squares; steps = c.steps; ends = set c.ends i e; step = c.step }

abbrev pub with_step : Schedule → ℕ → Step → Schedule
with_step c i t = record { inputs = c.inputs; squares = c.squares; steps = c.steps; ends = c.ends; step = set c.step i t }

-- The schedule with the numbers of a line put in their place.
unfoldable pub store : Schedule → Line → List ℤ → Schedule
store c CountNames v = c
store c CountLine v = with_counts c v
store c EndNames v = c
store c (EndLine i) v = with_ends c i (ends_of v)
store c StepNames v = c
store c (StepLine i r) v = with_step c i (step_of v)
