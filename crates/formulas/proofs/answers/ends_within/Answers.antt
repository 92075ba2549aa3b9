-- `ends_within` copies the ends within the count over zeros.
use mathlib.Core.Path.{◌∙◌, ap}
use mathlib.Core.List.{List, ◌++◌}
use native.Mathlib.Omega.{arith}
use lib.ListN.{drop, replicate}
use Rattle.capacity.specs.Limits.{max_inputs}
use Rattle.sheet.specs.Lines.{zero_end}
use Rattle.sheet.specs.declared.End.{End}
use Rattle.formulas.proofs.BuiltSteps.{front_held}
use Rattle.formulas.proofs.answers.ends_within.Goals as goal

pub returns : goal.returns
returns c =
    let a = c.args in
    ap (λ (l : List End). l ++ drop a.steps.now.inputs (replicate max_inputs zero_end)) c.copy_from_slice.ensures.after
    ∙ front_held max_inputs a.steps.now.inputs a.block.ends zero_end a.steps.now.few_inputs (omega arith)
