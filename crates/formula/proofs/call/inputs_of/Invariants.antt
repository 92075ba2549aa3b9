-- the ends of the inputs before this one
use Rattle.std.proofs.Common.{◌≡◌}
use Rattle.capacity.specs.Limits.{max_inputs}
use Rattle.sheet.specs.Lines.{zero_end}
use Rattle.sheet.specs.Same.{up_to}
use Rattle.formula.specs.Words.{ends_given}
use Rattle.formula.proofs.call.inputs_of.Given as goal

abbrev pub invariant-loop-i : goal.invariant-loop-i
invariant-loop-i l = l.ends ≡ up_to max_inputs l.i (ends_given l.numbers.first) zero_end
