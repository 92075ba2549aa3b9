-- An empty part beside a refusal, or the part of the row.
use mathlib.Core.Path.{refl, ◌∙◌}
use mathlib.Core.List.{[]}
use Prim.Native.Nat.{◌-◌}
use native.Mathlib.Omega.{arith}
use Rattle.sheet.proofs.Results.{number_some}
use Rattle.evaluation.specs.Table.{row_part}
use Rattle.evaluation.specs.Asking.{row_refusal, part_of}
use Rattle.evaluation.proofs.AskingLaws.{refused_answer, told_answer, row_accepted, part_tells}
use Rattle.evaluation.proofs.row.Goals as goal

pub overflow_sub-row : goal.overflow_sub-row
overflow_sub-row c = let a = row_accepted c.args.table.now c.args.count c.args.row c.in-Ok.ensures refl in omega arith

pub row_part-requires : goal.row_part-requires
row_part-requires c = let a = row_accepted c.args.table.now c.args.count c.args.row c.in-Ok.ensures refl in omega arith

pub returns-in-Ok : goal.returns-in-Ok
unfolding part_of
returns-in-Ok c =
    let a = c.args in
    let answer = c.row_part.ensures ∙ told_answer (row_refusal a.table.now a.count a.row) (row_part a.table.now (a.row - 1)) [] c.in-Ok.ensures refl in
    let t = part_tells a.table.now a.count a.row answer in
    record { answer = answer; whole = t.whole; empty = t.empty; told_by_range = t.told }

pub returns-in-Err : goal.returns-in-Err
unfolding part_of
returns-in-Err c =
    let a = c.args in
    let answer = refused_answer (row_refusal a.table.now a.count a.row) (row_part a.table.now (a.row - 1)) (λ q. []) c.in-Err.ensures (number_some c.in-Err.field-0.cause) in
    let t = part_tells a.table.now a.count a.row answer in
    record { answer = answer; whole = t.whole; empty = t.empty; told_by_range = t.told }
