-- The table of formulas, worked by computation.
use mathlib.Core.Path.{refl}
use Rattle.sheet.specs.Lines.{zero_schedule, line_of, numbers}
use Rattle.sheet.specs.Tests.{counts_pass, ends_pass, step_passes, fault}
use Rattle.sheet.specs.Writing.{fault_at, test_lines, test_of}
use Rattle.sheet.specs.Same.{up_to}
use Rattle.formulas.specs.Reading.{letter_of, mark_of, token_of, reading, formula_of}
use Rattle.formulas.specs.Steps.{step_count, steps_of, schedule_of}
use Rattle.formulas.specs.Answer.{sheet_of, front_value, first_beyond, answer_of}
use Rattle.formulas.specs.Examples.{examples, ExamplesWorked}

pub examples_worked : ExamplesWorked
unfolding examples answer_of sheet_of test_of test_lines fault_at line_of numbers fault counts_pass ends_pass step_passes zero_schedule formula_of reading token_of mark_of letter_of first_beyond front_value step_count steps_of schedule_of up_to
examples_worked = refl
