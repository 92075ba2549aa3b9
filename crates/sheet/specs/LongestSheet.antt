-- How long the sheet of a schedule can be, by the limits of its counts, ends and steps (manual, section 8).
use Rattle.std.specs.Prelude.{◌≡◌, ℕ, ◌+◌, ◌*◌, ◌≤◌, length}
use Rattle.capacity.specs.Limits.{max_inputs, max_steps}
use Rattle.sheet.specs.Limits.{max_bytes}
use Rattle.sheet.specs.Writing.{test_of, sheet_text}
use Rattle.sheet.specs.declared.Schedule.{Schedule}

-- the names and the counts, two ends of ten bytes for each input, and for each step a constant of ten bytes
abbrev pub longest_sheet : ℕ
longest_sheet = 61 + 22 * max_inputs + 17 * max_steps

-- The claim: of the schedules that pass 3, 4 and 5 none has a longer sheet, one has a sheet as long, and it has room in the "1,024 bytes".
pub record LongestSheet : Type 0 where
  pub none_longer : (c : Schedule) → (test_of c).number ≡ 0 → length (sheet_text c) ≤ longest_sheet
  pub longest : Schedule
  pub longest_passes : (test_of longest).number ≡ 0
  pub as_long : length (sheet_text longest) ≡ longest_sheet
  pub has_room : longest_sheet ≤ max_bytes
