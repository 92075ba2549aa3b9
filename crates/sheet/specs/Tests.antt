-- The tests 3, 4 and 5 of a line's numbers ("The sheet": manual, sections 2.4 and 2.5).
use Rattle.std.specs.Prelude.{Bool, false, List, ℕ, leb, ℤ, pos, neg_ℤ}
use Rattle.std.specs.Int.Signed.{le_z}
use Rattle.sheet.specs.Choice.{pick}
use Rattle.capacity.specs.Limits.{max_inputs, max_steps}
use Rattle.sheet.specs.Limits.{end_limit, last_binary, last_code}
use Rattle.sheet.specs.Causes.{count_wrong, end_wrong, step_wrong}
use Rattle.sheet.specs.Lines.{natural, item}
use Rattle.sheet.specs.declared.Line.{Line}
use Rattle.sheet.specs.declared.Line.TheVariants.{CountNames, CountLine, EndNames, EndLine, StepNames, StepLine}

-- `z` lies from `a` to `b`.
abbrev pub between : ℤ → ℤ → ℤ → Bool
between a z b = pick (le_z a z) (le_z z b) false

abbrev pub is_zero : ℤ → Bool
is_zero z = between (pos 0) z (pos 0)

-- "from -268,435,456 to 268,435,456"
abbrev pub within_limit : ℤ → Bool
within_limit z = between (neg_ℤ (pos end_limit)) z (pos end_limit)

-- "inputs 1 to .., squares 0 to inputs, steps 1 to .."
unfoldable pub counts_pass : ℤ → ℤ → ℤ → Bool
counts_pass inputs squares steps =
    pick (between (pos 1) inputs (pos max_inputs))
    (pick (between (pos 0) squares inputs) (between (pos 1) steps (pos max_steps)) false)
    false

-- "Both ends lie from -268,435,456 to 268,435,456, and low is at most high."
unfoldable pub ends_pass : ℤ → ℤ → Bool
ends_pass low high = pick (within_limit low) (pick (within_limit high) (le_z low high) false) false

-- "A step's first and second name earlier rows": one of the rows 1 to `earlier`.
abbrev pub names_row : ℕ → ℤ → Bool
names_row earlier z = pick (le_z (pos 1) z) (leb (natural z) earlier) false

-- A field that its code uses names an earlier row; "a field that its code does not use is 0".
abbrev pub row_passes : Bool → ℕ → ℤ → Bool
row_passes used earlier z = pick used (names_row earlier z) (is_zero z)

-- The value of a constant is within the limits; "a field that its code does not use is 0".
abbrev pub value_passes : Bool → ℤ → Bool
value_passes used z = pick used (within_limit z) (is_zero z)

-- "Codes: 1 constant (value, within the same limits as an end), 2 add, 3 subtract second from first, 4 multiply, 5 reciprocal of first."
-- "Code 6 takes the root of its first row; second and value are 0." first is used by 2 to 6, second by 2 to 4, value by 1.
unfoldable pub step_passes : ℕ → ℤ → ℤ → ℤ → ℤ → Bool
step_passes earlier code first second value =
    pick (between (pos 1) code (pos last_code))
    (pick (row_passes (le_z (pos 2) code) earlier first)
    (pick (row_passes (between (pos 2) code (pos last_binary)) earlier second)
    (value_passes (le_z code (pos 1)) value)
    false)
    false)
    false

-- The cause, 3, 4 or 5, for which the numbers of a line are refused, or 0.
unfoldable pub fault : Line → List ℤ → ℕ
fault CountNames v = 0
fault CountLine v = pick (counts_pass (item v 0) (item v 1) (item v 2)) 0 count_wrong
fault EndNames v = 0
fault (EndLine i) v = pick (ends_pass (item v 0) (item v 1)) 0 end_wrong
fault StepNames v = 0
fault (StepLine i r) v = pick (step_passes r (item v 0) (item v 1) (item v 2) (item v 3)) 0 step_wrong
