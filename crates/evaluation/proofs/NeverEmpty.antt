-- No answered range is empty: each holds the exact value of its row where every input has its low end.
use mathlib.Core.Path.{◌≡◌, refl, sym, ap, ◌∙◌, subst}
use mathlib.Core.List.{List, []}
use Prim.Native.Nat.{ℕ, ◌*◌, ◌≤◌, ◌<◌}
use native.Mathlib.Nat.{le_refl, not-suc-le-zero}
use native.Mathlib.Omega.{arith}
use borrow.Author.Tests.{eqb-true, leb-true}
use lib.Dec.{eqb}
use lib.IntN.{ℤ}
use lib.ListN.{length}
use lib.Signed.{◌≤ℤ◌}
use Rattle.integer.specs.Fraction.{Fraction}
use Rattle.integer.proofs.Fraction.{ordered_fractions, ≈_refl, ≈_sym}
use Rattle.integer.proofs.Bound.{le_refl as le_same, le_cong, whole_le}
use Rattle.affine.specs.declared.Row.{Row}
use Rattle.affine.specs.declared.Range.{Range}
use Rattle.affine.specs.Lists.{tabulate}
use Rattle.affine.proofs.Lists.{pick_elim}
use Rattle.interval.proofs.Holds.{not_empty}
use Rattle.sheet.specs.declared.Schedule.{Schedule}
use Rattle.sheet.specs.Lines.{ends_at}
use Rattle.sheet.specs.Writing.{test_of}
use Rattle.sheet.proofs.Passed.{Passed, passed}
use Rattle.evaluation.specs.Table.{range_width, range_at, ranges_after, RangesOrdered}
use Rattle.evaluation.specs.Work.{Worked, row_count, worked, tables_hold, evaluated}
use Rattle.evaluation.specs.Ranges.{own_ranges, answered, answered_ranges}
use Rattle.evaluation.specs.NeverEmpty.{NeverEmpty}
use Rattle.evaluation.specs.Values.{in_units}
use Rattle.evaluation.specs.Demand3.{InputsWithin}
use Rattle.evaluation.proofs.Sequence.{length_grown, get_or_grown}
use Rattle.evaluation.proofs.RowLines.{ends_ordered}
use Rattle.evaluation.proofs.WorkLaws.{next_row, rows_up_to, Begun, beginning}
use Rattle.evaluation.proofs.OwnRanges.{no_range}
use Rattle.evaluation.proofs.AnsweredRanges.{next_told, told_up_to, told_at, answered_grown, length_told}
use Rattle.evaluation.proofs.FoundRows.{lies_told}
use Rattle.evaluation.proofs.FractionUnits.{scaled_in_units, within_of_scaled}
use Rattle.evaluation.proofs.WorkedTable.{length_ranges_after, range_at_ranges_after}
use Rattle.evaluation.proofs.AskingLaws.{both_true}

-- the range with index i, of the first answered ones put into a table
pub range_put : (c : Schedule) (count : ℕ) (ranges : List ℤ) (i : ℕ) → i < count → range_at (ranges_after (told_up_to c count) ranges) i ≡ told_at c i
range_put c count ranges i h =
    range_at_ranges_after (told_up_to c count) ranges i (omega (arith, length_told c count)) ∙ get_or_grown (next_told c) count no_range i h

-- of rows and a table that their answered ranges are put into
abbrev InLeft : Schedule → List Row → List ℤ → Type 0
InLeft c rows ranges = NeverEmpty c rows (ranges_after (answered_ranges c rows) ranges)

module _ (c : Schedule) (pass : Passed c) where
  -- every input at its low end
  at_lows : ℕ → Fraction
  at_lows i = in_units (ends_at c i).low

  lows_within : InputsWithin c at_lows
  unfolding at_lows
  lows_within i h =
      let low = (ends_at c i).low in
      let is = ≈_sym (scaled_in_units low) in
      within_of_scaled (le_cong ordered_fractions (≈_refl _) is (le_same ordered_fractions _)) (le_cong ordered_fractions is (≈_refl _) (whole_le ordered_fractions (ends_ordered c pass i h)))

  -- of the first rows, none of them refused
  pub told_ordered : {count : ℕ} → Begun c count → (i : ℕ) → i < count → (told_at c i).low ≤ℤ (told_at c i).high
  told_ordered begun i h = not_empty (lies_told c pass at_lows lows_within begun i h)

  -- and stands in a table that has room for them
  pub ranges_ordered : {count : ℕ} → Begun c count → (ranges : List ℤ) → range_width * row_count c ≤ length ranges
      → RangesOrdered (ranges_after (told_up_to c count) ranges) count
  ranges_ordered {count} begun ranges room =
      let long = length_told c count in
      let fits : range_width * length (told_up_to c count) ≤ length ranges = omega (arith, long, begun.few, room) in
      record {
        room = omega (arith, long, length_ranges_after (told_up_to c count) ranges fits, fits);
        ordered = λ i h. subst (λ (r : Range). r.low ≤ℤ r.high) (sym (range_put c count ranges i h)) (told_ordered begun i h);
      }

  -- so of the rows that work makes, up to the last or to a refusal
  work_ordered : (n : ℕ) → n ≤ row_count c → (ranges : List ℤ) → range_width * row_count c ≤ length ranges → InLeft c (worked c n).rows ranges
  work_ordered n few ranges room = let b = beginning c n few in subst (λ rows. InLeft c rows ranges) (sym b.is) (rows_ordered b.begun)
    where
      rows_ordered : {count : ℕ} → Begun c count → InLeft c (rows_up_to c count) ranges
      rows_ordered {count} begun =
          let is = answered_grown c count in
          let long = length_grown (next_row c) count in
          record {
            each_row = ap length is ∙ length_told c count ∙ sym long;
            ordered =
                subst (λ (k : ℕ). RangesOrdered (ranges_after (answered_ranges c (rows_up_to c count)) ranges) k) (sym long)
                (subst (λ (t : List Range). RangesOrdered (ranges_after t ranges) count) (sym is) (ranges_ordered begun ranges room));
          }

-- and of no rows at all
none_ordered : (c : Schedule) (ranges : List ℤ) → InLeft c [] ranges
unfolding own_ranges tabulate answered
none_ordered c ranges = record { each_row = refl; ordered = record { room = omega arith; ordered = λ i h. absurd (not-suc-le-zero h) } }

by_end : (c : Schedule) (table ranges : List ℤ) → InLeft c (evaluated c table ranges).rows ranges
unfolding evaluated
by_end c table ranges =
    pick_elim (λ (w : Worked). InLeft c w.rows ranges) (eqb (test_of c).number 0) _ _
    (λ e. pick_elim (λ (w : Worked). InLeft c w.rows ranges) (tables_hold (row_count c) table ranges) _ _
    (λ l. work_ordered c (passed c (eqb-true _ _ e)) (row_count c) (le_refl (row_count c)) ranges (leb-true _ _ (both_true _ _ l).1))
    (λ l. none_ordered c ranges))
    (λ e. none_ordered c ranges)

-- so of every evaluation, whichever way it ends
pub never_empty : (c : Schedule) (table ranges : List ℤ) {left_ranges : List ℤ}
    → left_ranges ≡ ranges_after (answered_ranges c (evaluated c table ranges).rows) ranges → NeverEmpty c (evaluated c table ranges).rows left_ranges
never_empty c table ranges told = subst (NeverEmpty c (evaluated c table ranges).rows) (sym told) (by_end c table ranges)
