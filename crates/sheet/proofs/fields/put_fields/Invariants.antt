-- the first fields of the line stand at their place
use Rattle.std.proofs.Common.{◌≡◌, length}
use Rattle.sheet.specs.Wrote.{Wrote}
use Rattle.sheet.proofs.FieldLine.{front}
use Rattle.sheet.proofs.fields.put_fields.Given as goal

abbrev pub invariant-loop-i : goal.invariant-loop-i
invariant-loop-i l = (length l.out ≡ length l.initial.out) × Wrote l.initial.out l.out l.at l.p (front l.i l.v)
