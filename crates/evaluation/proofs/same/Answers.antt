-- The refusal alone, or whether the two rows that the table holds agree.
use mathlib.Core.Path.{refl, ap, ◌∙◌}
use mathlib.Core.Bool.{Bool}
use Prim.Native.Nat.{◌-◌}
use native.Mathlib.Omega.{arith}
use Rattle.std.proofs.lemmas.Result.{err_from_is_err_and}
use Rattle.sheet.specs.Causes.{accepted}
use Rattle.sheet.proofs.Results.{number_some}
use Rattle.evaluation.specs.Table.{row_at}
use Rattle.evaluation.specs.Asking.{rows_refusal, compared, not_compared, same_of}
use Rattle.evaluation.proofs.AskingLaws.{refused_answer, told_answer, rows_accepted}
use Rattle.evaluation.proofs.RowParts.{same_by_numbers}
use Rattle.evaluation.proofs.same.Goals as goal

pub returns-in_err-test_rows : goal.returns-in_err-test_rows
unfolding same_of
returns-in_err-test_rows c =
    let a = c.args in
    let p = err_from_is_err_and c.from_residual.result c.from_residual.ensures.1 in
    let e = c.in_err-test_rows.field-0.0 in
    record {
      answer =
          rw (p.1, p.2)
          (refused_answer (rows_refusal a.table.now a.count a.first a.second) (compared (row_at a.table.now (a.first - 1)) (row_at a.table.now (a.second - 1))) not_compared
          c.in_err-test_rows.ensures (number_some e.cause));
      exactly = rw p.1 tt;
    }

pub overflow_sub-first : goal.overflow_sub-first
overflow_sub-first c = let a = rows_accepted c.args.table.now c.args.count c.args.first c.args.second c.in_ok-test_rows.ensures refl in omega arith

pub overflow_sub-second : goal.overflow_sub-second
overflow_sub-second c = let a = rows_accepted c.args.table.now c.args.count c.args.first c.args.second c.in_ok-test_rows.ensures refl in omega arith

pub same_rows-requires : goal.same_rows-requires
same_rows-requires c =
    let a = rows_accepted c.args.table.now c.args.count c.args.first c.args.second c.in_ok-test_rows.ensures refl in
    (omega arith, omega arith)

pub returns : goal.returns
unfolding same_of
returns c =
    let a = c.args in
    let refused = rows_refusal a.table.now a.count a.first a.second in
    let held = rows_accepted a.table.now a.count a.first a.second c.in_ok-test_rows.ensures refl in
    record {
      answer =
          ap (λ (b : Bool). record { refusal = accepted; same = b }) c.same_rows.ensures
          ∙ told_answer refused (compared (row_at a.table.now (a.first - 1)) (row_at a.table.now (a.second - 1))) (not_compared refused) c.in_ok-test_rows.ensures refl;
      exactly = rw c.same_rows.ensures (same_by_numbers a.table.now (a.first - 1) (a.second - 1) (omega arith) (omega arith));
    }
