-- `work_rows` works the rows one after another.
use mathlib.Core.Path.{◌≡◌, refl, sym, ap, ◌∙◌, subst}
use Prim.Native.Nat.{ℕ, ◌+◌, ◌*◌, ◌≤◌, ◌<◌}
use native.Mathlib.Omega.{arith}
use lib.ListN.{length}
use Rattle.affine.specs.Limits.{symbols}
use Rattle.affine.specs.Steps.{number}
use Rattle.affine.specs.Told.{answer_of, status_of}
use Rattle.std.specs.Prelude.{Result, Ok, Err, MatchResult, IsErrAnd, is_ok, true, false}
use mathlib.Core.Bool.{true≢false}
use Rattle.std.proofs.lemmas.Result.{IfOk-at_ok, err_from_is_err_and}
use Rattle.sheet.proofs.Results.{number_some}
use Rattle.sheet.specs.declared.Schedule.{Schedule}
use Rattle.sheet.specs.Causes.{refusal}
use Rattle.sheet.specs.Results.{refusal_of}
use borrow.Author.Rules.{rules}
use Rattle.sheet.proofs.Passed.{Passed}
use Rattle.evaluation.specs.Table.{row_width, range_width, rows_in, table_after, ranges_after}
use Rattle.evaluation.specs.Ranges.{own_ranges}
use Rattle.evaluation.specs.Work.{row_count, row_answer, worked}
use Rattle.evaluation.proofs.RowLines.{rows_few}
use Rattle.evaluation.proofs.WorkedTable.{worked_none, radii_none, accepted_so_far, ranges_read, rows_within, operands, ranges_of_lem, worked_on, radii_on, worked_refused}
use Rattle.evaluation.proofs.work.work_rows.Goals as goal

-- a row of the schedule has its symbol
owned : (s : Schedule) {i n : ℕ} → Passed s → n ≡ row_count s → i < n → i < symbols
owned s p e h = omega (arith, e, h, rows_few s p)

-- what a result was before its error was mapped
ok_before : {T D E : Type 0} (Q : D → E → Type 0) (r : Result T D) {m : Result T E} {x : T} → MatchResult r (λ y. m ≡ Ok y) (λ e. IsErrAnd m (Q e)) → m ≡ Ok x → r ≡ Ok x
ok_before Q (Ok y) h e = ap Ok (IfOk-at_ok (λ z. y ≡ z) (sym h ∙ e) refl)
ok_before Q (Err d) h e = absurd (subst (λ s. IsErrAnd s (Q d)) e h)

err_before : {T D E : Type 0} (Q : D → E → Type 0) (r : Result T D) {m : Result T E} {w : E} → MatchResult r (λ y. m ≡ Ok y) (λ e. IsErrAnd m (Q e)) → m ≡ Err w
    → (d : D) × (r ≡ Err d) × Q d w
err_before Q (Ok y) h e = absurd (let z : true ≡ false = ap is_ok (sym h ∙ e) in true≢false z)
err_before Q (Err d) h e = (d, refl, subst (λ s. IsErrAnd s (Q d)) e h)

pub loop-i-init : goal.loop-i-init
loop-i-init c =
    let a = c.args in
    (worked_none a.c a.table.now a.ranges.now, radii_none a.c _ refl)

pub invariant_of-earlier : goal.invariant_of-earlier
invariant_of-earlier c =
    let p = c.requires.passed in
    let w = c.loop-i.invariant.0 in
    let room : row_width * c.loop-i.i-counter ≤ length c.args.table.now = omega (arith, c.requires.rows_in_bounds.0, c.loop-i-test.true) in
    let range_room : range_width * c.loop-i.i-counter ≤ length c.args.ranges.now = omega (arith, c.requires.rows_in_bounds.1, c.loop-i-test.true) in
    let below = owned c.args.c p.0 p.1 c.loop-i-test.true in
    record { within = rows_within w.into room; ranged = ranges_of_lem w p.0 range_room; summed = operands w.into c.loop-i.invariant.1 (omega (arith, below)) }

pub next_row-requires-clause-own : goal.next_row-requires-clause-own
next_row-requires-clause-own c = ranges_read c.loop-i.invariant.0

pub returns-in_err-made : goal.returns-in_err-made
returns-in_err-made c =
    let s = c.args.c in
    let l = c.loop-i in
    let w = l.invariant.0 in
    let b = err_before _ c.next_row.result c.map_err.ensures.cases c.in_err-made.was in
    let refused = c.in_err-made.field-0.0 in
    let e : refusal_of refused ≡ refusal (number (status_of b.0)) (l.i-counter + 1) = search (rules, b.2) in
    let answer : answer_of (Err b.0) ≡ row_answer s (rows_in l.table l.i-counter) = ap answer_of (sym b.1) ∙ c.next_row.ensures in
    let q = worked_refused w answer c.args.rows c.loop-i-test.true (λ z. number_some refused.cause (ap (λ r. r.number) e ∙ z)) in
    let p = err_from_is_err_and c.from_residual.result c.from_residual.ensures.1 in
    record {
      answer = rw (p.1, p.2) (e ∙ ap (λ v. v.refusal) (sym q));
      left = w.into.left ∙ ap (λ v. table_after v.rows c.args.table.now) (sym q);
      own = w.own ∙ ap (λ v. ranges_after (own_ranges s v.rows) c.args.ranges.now) (sym q);
    }

pub loop-i-preserved : goal.loop-i-preserved
loop-i-preserved c =
    let s = c.args.c in
    let p = c.requires.passed in
    let w = c.loop-i.invariant.0 in
    let is = ok_before _ c.next_row.result c.map_err.ensures.cases c.in_ok-made.was in
    let answer : answer_of (Ok c.in_ok-made.made) ≡ row_answer s (rows_in c.loop-i.table c.loop-i.i-counter) = ap answer_of (sym is) ∙ c.next_row.ensures in
    (worked_on w answer refl c.put_row.ensures c.put_range.ensures, radii_on w answer (owned s p.0 p.1 c.loop-i-test.true) c.loop-i.invariant.1)

pub returns-clause-answer : goal.returns-clause-answer
returns-clause-answer c =
    let all : c.loop-i.i-counter ≡ c.args.rows = omega (arith, c.loop-i-test.false) in
    sym (accepted_so_far c.loop-i.invariant.0.into) ∙ ap (λ n. (worked c.args.c n).refusal) all
