-- `digits_from` reads digit after digit: the literal from the start is the literal from here.
use Rattle.std.proofs.Common.{◌≡◌, ◌+◌, ◌≤◌, drop}
use Rattle.sheet.specs.Limits.{end_limit}
use Rattle.formulas.specs.Built.{digits_from}
use Rattle.formulas.proofs.literals.digits_from.Given as goal

abbrev pub invariant-loop-next : goal.invariant-loop-next
invariant-loop-next l = (l.value ≤ end_limit + 1) × (digits_from 0 l.at (drop l.at l.text) ≡ digits_from l.value l.next (drop l.next l.text))
