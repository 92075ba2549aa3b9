-- `next_row` takes the row's line as the definition does: the counts that it casts passed, and so did the line's numbers.
use mathlib.Core.Path.{◌≡◌, subst}
use Prim.Native.Nat.{ℕ, ◌-◌, ◌≤◌, ◌<◌, min}
use native.Mathlib.Omega.{arith}
use borrow.Author.Rules.{rules}
use lib.IntN.{ℤ, nat_abs}
use mathlib.Core.List.{List}
use mir.Syntax.{w64}
use mir.Val.{SFits, to_z, of_z}
use mir.ValLaws.{to_z-of_z}
use Rattle.affine.specs.Answer.{Answer}
use Rattle.affine.specs.Steps.{input_answer}
use Rattle.sheet.specs.declared.Schedule.{Schedule}
use Rattle.sheet.specs.Lines.{natural, ends_at, step_at}
use Rattle.capacity.specs.Limits.{max_inputs}
use Rattle.sheet.specs.Limits.{end_limit}
use Rattle.sheet.proofs.Passed.{Passed}
use Rattle.integer.proofs.Absolute.{fits_within}
use Rattle.evaluation.specs.Table.{rows_in, ranges_in}
use Rattle.evaluation.specs.Ranges.{operand_ranges}
use Rattle.evaluation.specs.Work.{row_answer, step_answer}
use Rattle.evaluation.proofs.FieldBits.{cast_natural}
use Rattle.evaluation.proofs.StepAnswers as answers
use Rattle.evaluation.proofs.work.next_row.Goals as goal

-- the answer of an input's row, from the ends as the code reads them
input_answered : (s : Schedule) (table ranges : List ℤ) (i : ℕ) {a : Answer} → Passed s → SFits w64 s.inputs → i < nat_abs (to_z w64 (of_z w64 s.inputs))
    → a ≡ input_answer i (to_z w64 (of_z w64 (ends_at s i).low)) (to_z w64 (of_z w64 (ends_at s i).high)) → a ≡ row_answer s (rows_in table i)
input_answered s table ranges i p f h q =
    let l : i < natural s.inputs = subst (λ k. i < k) (cast_natural p.counts.inputs_in f).is h in
    let ends = p.ends i l in
    let low : to_z w64 (of_z w64 (ends_at s i).low) ≡ (ends_at s i).low = to_z-of_z w64 _ (fits_within _ end_limit ends.low_in (omega arith)) in
    let high : to_z w64 (of_z w64 (ends_at s i).high) ≡ (ends_at s i).high = to_z-of_z w64 _ (fits_within _ end_limit ends.high_in (omega arith)) in
    answers.input_answer_lem s table ranges i l (rw (low, high) at q)

-- and of a step's, from the counts as it reads them
step_answered : (s : Schedule) (table ranges : List ℤ) (i : ℕ) {a : Answer} {squares : ℕ} → Passed s → SFits w64 s.inputs × SFits w64 s.squares
    → let inputs = nat_abs (to_z w64 (of_z w64 s.inputs)) in
    inputs ≤ i → ranges_in ranges i ≡ operand_ranges s (rows_in table i) → squares ≡ min (nat_abs (to_z w64 (of_z w64 s.squares))) max_inputs
    → a ≡ step_answer squares (rows_in table i) (ranges_in ranges i) (step_at s (i - inputs)) → a ≡ row_answer s (rows_in table i)
step_answered s table ranges i p f h own few q =
    let inputs = (cast_natural p.counts.inputs_in f.0).is in
    let squares = (cast_natural p.counts.squares_in f.1).is in
    answers.step_answer_lem s table ranges i (omega (arith, few, squares, p.counts.squares_in.to, p.counts.inputs_in.to)) inputs (subst (λ k. k ≤ i) inputs h) own q

pub returns-then-i-inputs : goal.returns-then-i-inputs
returns-then-i-inputs c =
    let e = c.args.earlier.now in
    let fit : SFits w64 c.args.c.now.inputs = search rules in
    input_answered c.args.c.now e.table.now e.ranges.now e.count c.requires.passed.0 fit c.if-i-inputs.true c.input.ensures

pub returns-else-i-inputs : goal.returns-else-i-inputs
returns-else-i-inputs c =
    let e = c.args.earlier.now in
    let fit : SFits w64 c.args.c.now.inputs × SFits w64 c.args.c.now.squares = (search rules, search rules) in
    step_answered c.args.c.now e.table.now e.ranges.now e.count c.requires.passed.0 fit c.if-i-inputs.false c.requires.own c.min.ensures c.step_row.ensures
