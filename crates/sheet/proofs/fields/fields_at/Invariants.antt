-- what stands from the start is what stands from here
use Rattle.std.proofs.Common.{◌≡◌, ◌-◌, ◌≤◌, length}
use Rattle.sheet.specs.Reading.{zeros, fields_from}
use Rattle.sheet.proofs.fields.fields_at.Given as goal

abbrev pub invariant-loop-i : goal.invariant-loop-i
invariant-loop-i l = (l.next ≤ length l.s) × (length l.values ≡ 4) × (fields_from l.k 0 zeros l.s l.at ≡ fields_from (l.k - l.i) l.i l.values l.s l.next)
