-- the lines from the first on are read as those from here on
use Rattle.std.proofs.Common.{◌≡◌, ◌+◌, ◌-◌, ◌≤◌, length}
use Rattle.sheet.specs.Reading.{read_lines}
use Rattle.sheet.proofs.reader.read_lines.Given as goal

abbrev pub invariant-loop-n : goal.invariant-loop-n
invariant-loop-n l = (l.next ≤ length l.s) × (read_lines l.count l.first l.initial.c l.s l.at ≡ read_lines (l.first + l.count - l.n) l.n l.c l.s l.next)
