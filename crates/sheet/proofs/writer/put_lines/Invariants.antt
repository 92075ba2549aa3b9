-- the first lines stand at the start
use Rattle.std.proofs.Common.{◌≡◌, length, ◌-◌}
use Rattle.sheet.specs.Writing.{lines_text}
use Rattle.sheet.specs.Wrote.{Wrote}
use Rattle.sheet.proofs.writer.put_lines.Given as goal

abbrev pub invariant-loop-n : goal.invariant-loop-n
invariant-loop-n l = (length l.out ≡ length l.initial.out) × Wrote l.initial.out l.out 0 l.p (lines_text (l.n - 1) 1 l.c)
