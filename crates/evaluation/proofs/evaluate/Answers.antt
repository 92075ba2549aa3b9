-- `evaluate` ends as its definition does: the schedule's test, the length of either table, or the work.
use mathlib.Core.Path.{◌≡◌, refl, sym, ap, ◌∙◌, subst}
use mathlib.Core.List.{List, []}
use Prim.Native.Nat.{ℕ, ◌-◌, ◌*◌, ◌^◌, ◌<◌, ◌≤◌}
use native.Mathlib.Omega.{arith}
use lib.IntN.{ℤ}
use Rattle.sheet.specs.Answers.{Refusal}
use Rattle.sheet.specs.declared.Schedule.{Schedule}
use Rattle.std.proofs.lemmas.Result.{err_from_is_err_and}
use Rattle.sheet.specs.Results.{tested}
use Rattle.sheet.specs.Writing.{test_of}
use Rattle.sheet.proofs.Results.{number_some, ok_zero, err_some}
use Rattle.sheet.proofs.Passed.{passed}
use Rattle.evaluation.specs.Table.{row_width, table_after, ranges_after}
use Rattle.evaluation.specs.Work.{Worked, stopped, worked, row_count, evaluated}
use Rattle.evaluation.specs.Ranges.{answered_ranges}
use Rattle.evaluation.proofs.EvaluationEnds.{nothing_put, nothing_told, ends_tested, ends_full, ends_full_ranges, ends_worked}
use Rattle.evaluation.proofs.RowLines.{rows_few}
use Rattle.evaluation.proofs.WorkLaws.{Done, all_done, stopped_at}
use Rattle.evaluation.proofs.Narrowed.{own_put, narrowed_left}
use Rattle.evaluation.proofs.Demand3.{guaranteed}
use Rattle.evaluation.proofs.AcceptedEvaluation.{held}
use Rattle.evaluation.proofs.NeverEmpty.{never_empty}
use Rattle.evaluation.proofs.Unused.{unused}
use Rattle.evaluation.proofs.evaluate.Goals as goal
use Rattle.evaluation.proofs.evaluate.Goals.{in-Ok, in-Err}

-- what is left where no row was put
untouched : (s : Schedule) (table ranges : List ℤ) {w : Worked} {refusal : Refusal} → w ≡ stopped [] refusal → (refusal ≡ w.refusal)
    × ((table ≡ table_after w.rows table) × (ranges ≡ ranges_after (answered_ranges s w.rows) ranges))
untouched s table ranges q = (
  ap (λ v. v.refusal) (sym q),
  (
    sym (nothing_put table) ∙ ap (λ v. table_after v.rows table) (sym q),
    sym (nothing_told s ranges) ∙ ap (λ v. ranges_after (answered_ranges s v.rows) ranges) (sym q),
  ),
)

-- of n rows the first k were worked: all of them, or those before the place of a refusal
worked_all : (s : Schedule) (n k : ℕ) {r : Refusal} → r ≡ (worked s n).refusal → r.number ≡ 0 → k ≡ n → Done s n k
worked_all s n k e h q = subst (Done s n) (sym q) (all_done s n (omega (arith, ap (λ (r : Refusal). r.number) e, h)))

stopped_work : (s : Schedule) (n : ℕ) {r : Refusal} → r ≡ (worked s n).refusal → (r.number ≡ 0 → ⊥) → (1 ≤ r.place) × Done s n (r.place - 1)
stopped_work s n e h =
    let z = stopped_at s n (λ z. h (ap (λ (r : Refusal). r.number) e ∙ z)) in
    (subst (λ k. 1 ≤ k) (ap (λ (r : Refusal). r.place) (sym e)) z.from, subst (λ k. Done s n (k - 1)) (ap (λ (r : Refusal). r.place) (sym e)) z.done)

pub returns-in_err-test : goal.returns-in_err-test
returns-in_err-test c =
    let a = c.args in
    let p = err_from_is_err_and c.from_residual.result c.from_residual.ensures.1 in
    let e = c.in_err-test.ensures in
    let u = untouched a.schedule a.table.now a.ranges.now (ends_tested a.schedule a.table.now a.ranges.now (err_some c.in_err-test.field-0.0 e)) in
    record {
      answer = rw (p.1, p.2) (e ∙ u.0);
      left = u.1.0;
      told = u.1.1;
      guaranteed = rw p.1 tt;
      held = rw p.1 tt;
      never_empty = never_empty a.schedule a.table.now a.ranges.now u.1.1;
      unused = unused a.schedule a.table.now a.ranges.now;
    }

-- numbers for all rows are few
few_numbers : (s : Schedule) {n : ℕ} → (test_of s).number ≡ 0 → n ≡ row_count s → row_width * n < 2 ^ 64
few_numbers s e q = omega (arith, q, rows_few s (passed s e))

pub test_room-requires : goal.test_room-requires
test_room-requires c = few_numbers c.args.schedule (ok_zero c.in_ok-test.ensures) c.row_count-rows.ensures

pub test_room-requires-2 : goal.test_room-requires-2
test_room-requires-2 c = let e = few_numbers c.args.schedule (ok_zero c.in_ok-test.ensures) c.row_count-rows.ensures in omega (arith, e)

pub returns-in_err-test_room : goal.returns-in_err-test_room
returns-in_err-test_room c =
    let a = c.args in
    let s = a.schedule in
    let q = c.from_residual-in_err-test_room in
    let p = err_from_is_err_and q.result q.ensures.1 in
    let e = rw c.row_count-rows.ensures at c.in_err-test_room.ensures.answer in
    let u = untouched s a.table.now a.ranges.now (ends_full s a.table.now a.ranges.now (ok_zero c.in_ok-test.ensures) c.in_err-test_room.field-0.0 e) in
    record {
      answer = rw (p.1, p.2) u.0;
      left = u.1.0;
      told = u.1.1;
      guaranteed = rw p.1 tt;
      held = rw p.1 tt;
      never_empty = never_empty s a.table.now a.ranges.now u.1.1;
      unused = unused s a.table.now a.ranges.now;
    }

pub returns-in_err-test_room-2 : goal.returns-in_err-test_room-2
returns-in_err-test_room-2 c =
    let a = c.args in
    let s = a.schedule in
    let q = c.from_residual-in_err-test_room-2 in
    let p = err_from_is_err_and q.result q.ensures.1 in
    let e = rw c.row_count-rows.ensures at c.in_err-test_room-2.ensures.answer in
    let room = rw c.row_count-rows.ensures at c.in_ok-test_room.ensures.room in
    let u = untouched s a.table.now a.ranges.now (ends_full_ranges s a.table.now a.ranges.now (ok_zero c.in_ok-test.ensures) room c.in_err-test_room-2.field-0.0 e) in
    record {
      answer = rw (p.1, p.2) u.0;
      left = u.1.0;
      told = u.1.1;
      guaranteed = rw p.1 tt;
      held = rw p.1 tt;
      never_empty = never_empty s a.table.now a.ranges.now u.1.1;
      unused = unused s a.table.now a.ranges.now;
    }

pub work_rows-done-requires-clause-passed : goal.work_rows-done-requires-clause-passed
work_rows-done-requires-clause-passed c =
    let s = c.args.schedule in
    (passed s (ok_zero c.in_ok-test.ensures), c.row_count-rows.ensures)

pub overflow_sub-worked : goal.overflow_sub-worked
overflow_sub-worked c =
    let e = c.in-Err.ensures.answer in
    omega (arith, (stopped_work c.args.schedule c.row_count-rows.result e (number_some c.in-Err.refused.cause)).0)

pub narrow-requires : goal.narrow-requires
narrow-requires c =
    let s = c.args.schedule in
    let n = c.row_count-rows.result in
    let pass = passed s (ok_zero c.in_ok-test.ensures) in
    let done : Done s n c.match-done.worked =
    elim c.match-done.branch [
      | in-Ok w ↦ worked_all s n _ w.in-Ok.ensures.answer refl w.worked-is
      | in-Err w ↦ subst (Done s n) (sym w.worked-is) (stopped_work s n w.in-Err.ensures.answer (number_some w.in-Err.refused.cause)).1
    ] in
    let o = own_put pass (omega (arith, c.row_count-rows.ensures)) done c.args.ranges.now c.in_ok-test_room-2.ensures.room c.work_rows-done.ensures.own in
    record { passed = (o.pass, o.begun.few, done.none_refused); rows_in_bounds = (o.room, o.own) }

pub returns : goal.returns
returns c =
    let a = c.args in
    let s = a.schedule in
    let n = c.row_count-rows.result in
    let e = c.work_rows-done.ensures in
    let count = c.row_count-rows.ensures in
    let tested_zero = ok_zero c.in_ok-test.ensures in
    let done : Done s n c.match-done.worked =
    elim c.match-done.branch [
      | in-Ok w ↦ worked_all s n _ w.in-Ok.ensures.answer refl w.worked-is
      | in-Err w ↦ subst (Done s n) (sym w.worked-is) (stopped_work s n w.in-Err.ensures.answer (number_some w.in-Err.refused.cause)).1
    ] in
    let told : tested c.match-done.done ≡ (worked s n).refusal =
    elim c.match-done.branch [
      | in-Ok w ↦ ap tested w.done-is ∙ e.answer
      | in-Err w ↦ ap tested w.done-is ∙ w.in-Err.ensures.answer
    ] in
    let room = rw count at c.in_ok-test_room.ensures.room in
    let room_ranges = rw count at c.in_ok-test_room-2.ensures.room in
    let q : worked s n ≡ evaluated s a.table.now a.ranges.now =
    ap (worked s) count ∙ sym (ends_worked s a.table.now a.ranges.now tested_zero room room_ranges) in
    let answer = told ∙ ap (λ v. v.refusal) q in
    let left = e.left ∙ ap (λ v. table_after v.rows a.table.now) q in
    let ranges_told = c.narrow.ensures
    ∙ narrowed_left (passed s tested_zero) (omega (arith, count)) done a.ranges.now c.in_ok-test_room-2.ensures.room e.own
    ∙ ap (λ v. ranges_after (answered_ranges s v.rows) a.ranges.now) q in
    record {
      answer = answer;
      left = left;
      told = ranges_told;
      guaranteed = guaranteed s a.table.now a.ranges.now _ answer left ranges_told;
      held = held s a.table.now a.ranges.now _ answer left ranges_told;
      never_empty = never_empty s a.table.now a.ranges.now ranges_told;
      unused = unused s a.table.now a.ranges.now;
    }
