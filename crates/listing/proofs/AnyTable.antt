-- What the tables held before does not matter: evaluation puts the same rows and ranges into all tables that have room for them, and a listing is made of
-- these alone.
use mathlib.Core.Path.{◌≡◌, sym, ap, ◌∙◌}
use mathlib.Core.List.{List, ◌++◌}
use Prim.Native.Nat.{ℕ, ◌≤◌}
use native.Mathlib.Omega.{arith}
use native.Mathlib.Decide.{ℕ_discrete}
use lib.IntN.{ℤ, pos}
use lib.Dec.{eqb}
use lib.ListN.{length, replicate, length-replicate}
use Rattle.affine.specs.Lists.{pick}
use Rattle.sheet.specs.declared.Schedule.{Schedule}
use Rattle.sheet.specs.Reading.{read_of}
use Rattle.sheet.specs.Writing.{test_of}
use Rattle.sheet.proofs.Passed.{passed}
use Rattle.sheet.proofs.Texts.{texts_cong}
use Rattle.evaluation.specs.Work.{row_count, evaluated}
use Rattle.evaluation.proofs.EvaluationEnds.{ends_tested, ends_worked}
use Rattle.evaluation.proofs.RowLines.{rows_few}
use Rattle.evaluation.proofs.AcceptedEvaluation.{rows_left_few, rows_left_within, ranges_left_ordered, rows_left, range_left}
use Rattle.evaluation.proofs.WorkedTable.{part_held}
use Rattle.listing.specs.Listing.{column_names, listing, refusal_text, table_left, ranges_left, schedule_text, text_of, table_numbers, ranges_numbers, printed}
use Rattle.listing.specs.Held.{RowsHeld}
use Rattle.listing.proofs.SameParts.{rows_agree}
use Rattle.listing.proofs.TextCases.{schedule_listed, schedule_refused}

-- two pairs of tables, t with r and u with s
module _ (t r u s : List ℤ) (long : table_numbers ≤ length t) (long_r : ranges_numbers ≤ length r) (long_u : table_numbers ≤ length u) (long_s : ranges_numbers ≤ length s) where
  module _ (c : Schedule) where
    evaluated_alike : evaluated c t r ≡ evaluated c u s
    evaluated_alike = by_test (ℕ_discrete (test_of c).number 0)
      where
        by_test : Dec ((test_of c).number ≡ 0) → evaluated c t r ≡ evaluated c u s
        by_test (no z) = ends_tested c t r z ∙ sym (ends_tested c u s z)
        by_test (yes z) =
            let few = rows_few c (passed c z) in
            ends_worked c t r z (omega arith) (omega arith) ∙ sym (ends_worked c u s z (omega arith) (omega arith))

    listing_alike : (evaluated c t r).refusal.number ≡ 0 → (evaluated c u s).refusal.number ≡ 0
        → listing (table_left c t r) (ranges_left c t r) (row_count c) ≡ listing (table_left c u s) (ranges_left c u s) (row_count c)
    unfolding listing
    listing_alike e d =
        let left : RowsHeld (table_left c t r) (row_count c) = record { few = rows_left_few c t r e; within = rows_left_within c t r e } in
        let right : RowsHeld (table_left c u s) (row_count c) = record { few = rows_left_few c u s d; within = rows_left_within c u s d } in
        let w = rows_left c t r e in
        let v = rows_left c u s d in
        ap (λ l. column_names ++ l)
        (texts_cong (row_count c) 1
        (λ row l h. rows_agree left right (λ i k. part_held w i k ∙ sym (part_held v i k))
        (ranges_left_ordered c t r e) (ranges_left_ordered c u s d) (λ i k. range_left c t r e i k ∙ sym (range_left c u s d i k)) row l (omega arith)))

    schedule_alike : schedule_text c t r ≡ schedule_text c u s
    schedule_alike = by_test (ℕ_discrete (evaluated c t r).refusal.number 0)
      where
        number_alike : (evaluated c u s).refusal.number ≡ (evaluated c t r).refusal.number
        number_alike = ap (λ w. w.refusal.number) (sym evaluated_alike)

        by_test : Dec ((evaluated c t r).refusal.number ≡ 0) → schedule_text c t r ≡ schedule_text c u s
        by_test (yes z) = schedule_listed c t r z ∙ listing_alike z (number_alike ∙ z) ∙ sym (schedule_listed c u s (number_alike ∙ z))
        by_test (no z) =
            schedule_refused c t r z
            ∙ ap (λ w. refusal_text w.refusal) evaluated_alike
            ∙ sym (schedule_refused c u s (λ e. z (sym number_alike ∙ e)))

  text_alike : (sheet : List ℕ) → text_of sheet t r ≡ text_of sheet u s
  unfolding text_of
  text_alike sheet = ap (λ l. pick (eqb (read_of sheet).refusal.number 0) l (refusal_text (read_of sheet).refusal)) (schedule_alike (read_of sheet).schedule)

-- of every sheet and all tables that hold as many rows as a sheet may have, and their ranges
pub any_table : (sheet : List ℕ) (table ranges : List ℤ) → table_numbers ≤ length table → ranges_numbers ≤ length ranges → text_of sheet table ranges ≡ printed sheet
any_table sheet table ranges long long_ranges =
    text_alike table ranges (replicate table_numbers (pos 0)) (replicate ranges_numbers (pos 0)) long long_ranges
    (omega (arith, length-replicate table_numbers (pos 0))) (omega (arith, length-replicate ranges_numbers (pos 0))) sheet
