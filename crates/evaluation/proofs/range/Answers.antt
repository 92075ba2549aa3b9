-- The refusal alone, or the range that the second table holds.
use mathlib.Core.Path.{refl, ap, ◌∙◌}
use Prim.Native.Nat.{◌-◌}
use native.Mathlib.Omega.{arith}
use Rattle.std.proofs.lemmas.Result.{err_from_is_err_and}
use Rattle.sheet.proofs.Results.{number_some}
use Rattle.evaluation.specs.Table.{range_at}
use Rattle.evaluation.specs.Asking.{range_refusal, range_told, range_refused, range_of}
use Rattle.evaluation.proofs.AskingLaws.{refused_answer, told_answer, range_accepted}
use Rattle.evaluation.proofs.range.Goals as goal

pub returns-in_err-test_range : goal.returns-in_err-test_range
unfolding range_of
returns-in_err-test_range c =
    let a = c.args in
    let p = err_from_is_err_and c.from_residual.result c.from_residual.ensures.1 in
    let e = c.in_err-test_range.field-0.0 in
    record {
      answer =
          rw (p.1, p.2)
          (refused_answer (range_refusal a.table.now a.ranges.now a.count a.row) (range_told (range_at a.ranges.now (a.row - 1))) range_refused c.in_err-test_range.ensures (number_some e.cause));
      reads = rw p.1 tt;
      ordered = rw p.1 tt;
    }

pub overflow_sub-row : goal.overflow_sub-row
overflow_sub-row c = omega (arith, (range_accepted c.args.table.now c.args.ranges.now c.args.count c.args.row c.in_ok-test_range.ensures refl).holds.from_one)

pub get_range-requires : goal.get_range-requires
get_range-requires c =
    let a = range_accepted c.args.table.now c.args.ranges.now c.args.count c.args.row c.in_ok-test_range.ensures refl in
    omega (arith, a.holds.from_one, a.holds.room)

pub returns : goal.returns
unfolding range_of
returns c =
    let a = c.args in
    let refused = range_refusal a.table.now a.ranges.now a.count a.row in
    record {
      answer = ap range_told c.get_range.ensures ∙ told_answer refused (range_told (range_at a.ranges.now (a.row - 1))) (range_refused refused) c.in_ok-test_range.ensures refl;
      reads = c.get_range.ensures;
      ordered = rw c.get_range.ensures (range_accepted a.table.now a.ranges.now a.count a.row c.in_ok-test_range.ensures refl).ordered;
    }
