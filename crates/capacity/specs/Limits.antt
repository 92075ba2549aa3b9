-- The limits that the widths of schedules, rows and tables come from (manual, sections 2.4 and 5.1), each named here and nowhere else in definitions and laws.
use Rattle.std.specs.Prelude.{ℕ, ◌+◌}

-- "Limits become 8 inputs .."
abbrev pub max_inputs : ℕ
max_inputs = 8

-- ".. and 40 steps"
abbrev pub max_steps : ℕ
max_steps = 40

-- "Rows are numbered from 1: inputs first, then steps." "the row count given may reach 48"
abbrev pub max_rows : ℕ
max_rows = max_inputs + max_steps
