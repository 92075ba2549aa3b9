-- What an accepted evaluation shows: its schedule passed, both tables have room, every row was worked, and the tables hold the rows and their ranges.
use mathlib.Core.Path.{◌≡◌, refl, sym, ap, ◌∙◌, subst}
use mathlib.Core.Logic.{◌⊎◌, inl, inr}
use mathlib.Core.List.{List}
use Prim.Native.Nat.{ℕ, ◌*◌, ◌≤◌, ◌<◌}
use native.Mathlib.Nat.{le_refl}
use native.Mathlib.Omega.{arith}
use native.Mathlib.Decide.{ℕ_discrete}
use lib.IntN.{ℤ}
use lib.ListN.{length}
use Rattle.capacity.specs.Limits.{max_rows}
use Rattle.affine.specs.Limits.{span_limit}
use Rattle.interval.specs.Interval.{RangeWithin}
use Rattle.sheet.specs.declared.Schedule.{Schedule}
use Rattle.std.specs.Prelude.{Result, Ok, Err, OnOk}
use Rattle.sheet.specs.Answers.{Refusal}
use Rattle.sheet.specs.Results.{tested}
use Rattle.sheet.specs.declared.causes.Refused.{Refused}
use Rattle.sheet.specs.Writing.{test_of}
use Rattle.sheet.proofs.Passed.{Passed, passed}
use Rattle.evaluation.specs.Table.{row_width, range_width, table_after, ranges_after, range_at, RowsWithin, RangesOrdered}
use Rattle.evaluation.specs.Work.{row_count, Worked, evaluated}
use Rattle.evaluation.specs.Ranges.{answered_ranges}
use Rattle.evaluation.specs.TablesHeld.{TablesHeld}
use Rattle.evaluation.proofs.EvaluationEnds.{ends_tested, ends_short, ends_short_ranges, ends_worked}
use Rattle.evaluation.proofs.Induction.{lt_or_ge}
use Rattle.evaluation.proofs.AnsweredRanges.{told_up_to, told_at, answered_grown, told_within}
use Rattle.evaluation.proofs.NeverEmpty.{range_put, told_ordered, ranges_ordered}
use Rattle.evaluation.proofs.RowLines.{rows_few}
use Rattle.evaluation.proofs.WorkLaws.{rows_up_to, Went, went, Begun}
use Rattle.evaluation.proofs.WorkedTable.{RowsInto, rows_within}

-- an accepted evaluation passed 3, 4 and 5, had room, and worked all its rows
pub record AcceptedEvaluation (c : Schedule) (table ranges : List ℤ) : Type 0 where
  pub pass : Passed c
  pub room : row_width * row_count c ≤ length table
  pub room_ranges : range_width * row_count c ≤ length ranges
  pub goes : Went c (row_count c)
  pub rows : (evaluated c table ranges).rows ≡ rows_up_to c (row_count c)

module _ (c : Schedule) (table ranges : List ℤ) (e : (evaluated c table ranges).refusal.number ≡ 0) where
  -- an evaluation that ended so was not accepted
  not_so : {w : Worked} {n : ℕ} → evaluated c table ranges ≡ w → w.refusal.number ≡ n → n ≡ 0
  not_so q r = sym r ∙ ap (λ w. w.refusal.number) (sym q) ∙ e

  pub accepted_evaluation : AcceptedEvaluation c table ranges
  accepted_evaluation =
      by_test (ℕ_discrete (test_of c).number 0) (lt_or_ge (length table) (row_width * row_count c)) (lt_or_ge (length ranges) (range_width * row_count c))
    where
      by_test : Dec ((test_of c).number ≡ 0) → (length table < row_width * row_count c) ⊎ (row_width * row_count c ≤ length table)
          → (length ranges < range_width * row_count c) ⊎ (range_width * row_count c ≤ length ranges) → AcceptedEvaluation c table ranges
      by_test (no z) r s = absurd (z (not_so (ends_tested c table ranges z) refl))
      by_test (yes z) (inl l) s = absurd (let q : ◌≡◌ {A = ℕ} 8 0 = not_so (ends_short c table ranges z l) refl in omega arith)
      by_test (yes z) (inr l) (inl k) = absurd (let q : ◌≡◌ {A = ℕ} 8 0 = not_so (ends_short_ranges c table ranges z l k) refl in omega arith)
      by_test (yes z) (inr l) (inr k) =
          let q = ends_worked c table ranges z l k in
          let w = went c (row_count c) (not_so q refl) in
          record { pass = passed c z; room = l; room_ranges = k; goes = w; rows = ap (λ w. w.rows) q ∙ w.rows }

  -- its rows are few
  pub rows_left_few : row_count c ≤ max_rows
  rows_left_few = rows_few c accepted_evaluation.pass

  -- the tables that it leaves
  abbrev left : List ℤ
  left = table_after (evaluated c table ranges).rows table

  abbrev left_ranges : List ℤ
  left_ranges = ranges_after (answered_ranges c (evaluated c table ranges).rows) ranges

  pub begun_left : Begun c (row_count c)
  begun_left = record { few = le_refl (row_count c); goes = accepted_evaluation.goes }

  -- the first holds the rows
  pub rows_left : RowsInto c (row_count c) table left
  rows_left =
      let a = accepted_evaluation in
      record { none_refused = ap (λ r. r.number) a.goes.refusal; left = ap (λ rows. table_after rows table) (a.rows ∙ sym a.goes.rows) }

  pub rows_left_within : RowsWithin left (row_count c)
  rows_left_within = rows_within rows_left accepted_evaluation.room

  -- the second their answered ranges
  ranges_told : left_ranges ≡ ranges_after (told_up_to c (row_count c)) ranges
  ranges_told = ap (λ l. ranges_after l ranges) (ap (answered_ranges c) accepted_evaluation.rows ∙ answered_grown c (row_count c))

  pub range_left : (i : ℕ) → i < row_count c → range_at left_ranges i ≡ told_at c i
  range_left i h = ap (λ t. range_at t i) ranges_told ∙ range_put c (row_count c) ranges i h

  -- no low is above its high
  pub ranges_left_ordered : RangesOrdered left_ranges (row_count c)
  ranges_left_ordered =
      let a = accepted_evaluation in
      subst (λ t. RangesOrdered t (row_count c)) (sym ranges_told) (ranges_ordered c a.pass begun_left ranges a.room_ranges)

  -- no end is beyond the span limit
  pub ranges_left_within : (i : ℕ) → i < row_count c → RangeWithin span_limit (range_at left_ranges i)
  ranges_left_within i h = subst (RangeWithin span_limit) (sym (range_left i h)) (let pass = accepted_evaluation.pass in told_within c pass i (told_ordered c pass begun_left i h))

-- what the tables hold that an accepted evaluation left, from its result
pub held : (c : Schedule) (table ranges : List ℤ) {left left_ranges : List ℤ} (result : Result (Unit {0}) Refused)
    → tested result ≡ (evaluated c table ranges).refusal → left ≡ table_after (evaluated c table ranges).rows table
    → left_ranges ≡ ranges_after (answered_ranges c (evaluated c table ranges).rows) ranges → OnOk result (TablesHeld c left left_ranges)
held c table ranges {left} {left_ranges} (Ok u) answer e f =
    let z : (evaluated c table ranges).refusal.number ≡ 0 = ap (λ (r : Refusal). r.number) (sym answer) in
    record {
      some = omega (arith, (accepted_evaluation c table ranges z).pass.counts.inputs_in.from);
      few = rows_left_few c table ranges z;
      rows = subst (λ t. RowsWithin t (row_count c)) (sym e) (rows_left_within c table ranges z);
      ordered = subst (λ t. RangesOrdered t (row_count c)) (sym f) (ranges_left_ordered c table ranges z);
      ends_within = λ i h. subst (λ t. RangeWithin span_limit (range_at t i)) (sym f) (ranges_left_within c table ranges z i h);
    }
held c table ranges (Err r) answer e f = tt
