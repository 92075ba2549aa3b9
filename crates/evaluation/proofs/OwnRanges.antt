-- The own ranges of rows: an input's ends, or the range of the form. They grow with the rows, each is what its row's answer tells, low is not above
-- high, neither is beyond the span limit, the centre is not below low, and where one does not hold 0 the row's centre outweighs its linear coefficients.
use mathlib.Core.Path.{◌≡◌, refl, sym, ap, ap₂, ◌∙◌, subst}
use mathlib.Core.Logic.{◌⊎◌, inl, inr}
use mathlib.Core.List.{List, [], ◌∷◌, ◌++◌}
use Prim.Native.Nat.{ℕ, suc, ◌≤◌, ◌<◌}
use native.Mathlib.Omega.{arith}
use borrow.Author.Tests.{ltb-true, ltb-false}
use lib.Dec.{ltb}
use lib.IntN.{ℤ, pos}
use lib.ListN.{length, get_or, length-append, get_or-append}
use lib.Seq.{ext_get_or, get_or_at}
use lib.Signed.{◌≤ℤ◌}
use Rattle.affine.specs.declared.Row.{Row}
use Rattle.affine.specs.declared.Range.{Range}
use Rattle.affine.specs.Answer.{Accepted}
use Rattle.affine.specs.Limits.{span_limit}
use Rattle.affine.specs.Row.{form_range}
use Rattle.affine.specs.Steps.{constant_row, input_row, ends_range}
use Rattle.affine.specs.Root.{Centred}
use Rattle.affine.proofs.Lists.{pick_elim, length_tabulate, get_or_tabulate}
use Rattle.affine.proofs.Answers.{checked_accepted}
use Rattle.affine.proofs.RangeSize.{low_not_above_high, low_within, high_within}
use Rattle.affine.proofs.InputRow.{input_centred}
use Rattle.affine.proofs.Distance.{form_centred}
use Rattle.interval.specs.Interval.{RangeWithin}
use Rattle.sheet.specs.declared.Schedule.{Schedule}
use Rattle.sheet.specs.Lines.{natural, ends_at}
use Rattle.sheet.proofs.Passed.{Passed}
use Rattle.evaluation.specs.Ranges.{row_of, own_range, own_ranges, operand_ranges}
use Rattle.evaluation.specs.Work.{row_answer}
use Rattle.evaluation.proofs.Induction.{lt_or_ge}
use Rattle.evaluation.proofs.RowLines.{row_answer_input, row_answer_step, ends_ordered}
use Rattle.evaluation.proofs.SoundRows.{Sound, step_tells}

-- the range that stands for none
abbrev pub no_range : Range
no_range = ends_range (pos 0) (pos 0)

module _ (c : Schedule) where
  -- what holds of an input's ends, and of the range of any other row's form, holds of the own range
  pub own_cases : (P : Range → Type 0) (i : ℕ) (r : Row) → (i < natural c.inputs → P (ends_range (ends_at c i).low (ends_at c i).high)) → (natural c.inputs ≤ i → P (form_range r)) → P (own_range c i r)
  own_cases P i r input step =
      pick_elim P (ltb i (natural c.inputs)) _ _ (λ e. input (ltb-true i (natural c.inputs) e)) (λ e. step (ltb-false i (natural c.inputs) e))

  pub length_own : (rows : List Row) → length (own_ranges c rows) ≡ length rows
  unfolding own_ranges
  length_own rows = length_tabulate (length rows) _

  pub own_range_at : (rows : List Row) (d : Range) (i : ℕ) → i < length rows → get_or (own_ranges c rows) i d ≡ own_range c i (row_of rows i)
  unfolding own_ranges
  own_range_at rows d i h = get_or_tabulate (length rows) _ d i h

  -- one row more
  pub own_more : (rows : List Row) (r : Row) → own_ranges c (rows ++ (r ∷ [])) ≡ own_ranges c rows ++ (own_range c (length rows) r ∷ [])
  own_more rows r =
      ext_get_or no_range (own_ranges c (rows ++ (r ∷ []))) (own_ranges c rows ++ (own_range c (length rows) r ∷ []))
      (length_own (rows ++ (r ∷ [])) ∙ more ∙ sym (length-append (own_ranges c rows) _ ∙ omega (arith, length_own rows)))
      (λ i h. by_place i (subst (λ k. i < k) (length_own (rows ++ (r ∷ []))) h))
    where
      more : length (rows ++ (r ∷ [])) ≡ suc (length rows)
      more = length-append rows (r ∷ []) ∙ omega arith

      by_place : (i : ℕ) → i < length (rows ++ (r ∷ [])) → get_or (own_ranges c (rows ++ (r ∷ []))) i no_range ≡ get_or (own_ranges c rows ++ (own_range c (length rows) r ∷ [])) i no_range
      by_place i h = own_range_at (rows ++ (r ∷ [])) no_range i h ∙ split (lt_or_ge i (length rows))
        where
          split : (i < length rows) ⊎ (length rows ≤ i) → own_range c i (row_of (rows ++ (r ∷ [])) i) ≡ get_or (own_ranges c rows ++ (own_range c (length rows) r ∷ [])) i no_range
          split (inl l) =
              ap (own_range c i) (get_or-append rows (r ∷ []) (constant_row (pos 0)) i l)
              ∙ sym (own_range_at rows no_range i l)
              ∙ sym (get_or-append (own_ranges c rows) _ no_range i (omega (arith, length_own rows)))
          split (inr l) =
              let last : i ≡ length rows = omega (arith, more) in
              ap₂ (own_range c) last (get_or_at rows r [] (constant_row (pos 0)) i (sym last))
              ∙ sym (get_or_at (own_ranges c rows) (own_range c (length rows) r) [] no_range i (length_own rows ∙ sym last))

  -- ---- of the row that comes next
  module _ (rows : List Row) where
    -- what its answer tells
    pub answer_range : (row_answer c rows).status ≡ Accepted → (row_answer c rows).range ≡ own_range c (length rows) (row_answer c rows).row
    answer_range h =
        own_cases (λ z. (row_answer c rows).range ≡ z) (length rows) (row_answer c rows).row
        (λ l. let e = row_answer_input c rows (length rows) refl l in ap (λ a. a.range) (e ∙ checked_accepted _ _ (rw e at h)))
        (λ l. let e = row_answer_step c rows (length rows) refl l in ap (λ a. a.range) e ∙ step_tells _ rows (operand_ranges c rows) _ ∙ ap (λ a. form_range a.row) (sym e))

    module _ (passed : Passed c) (h : (row_answer c rows).status ≡ Accepted) where
      abbrev r : Row
      r = (row_answer c rows).row

      pub own_centred : Centred (own_range c (length rows) r) r
      own_centred = own_cases (λ z. Centred z r) (length rows) r of_input (λ l. form_centred r)
        where
          low : ℤ
          low = (ends_at c (length rows)).low

          high : ℤ
          high = (ends_at c (length rows)).high

          of_input : length rows < natural c.inputs → Centred (ends_range low high) r
          of_input l =
              let e = row_answer_input c rows (length rows) refl l in
              let is_input : r ≡ input_row (length rows) low high = ap (λ a. a.row) (e ∙ checked_accepted _ _ (rw e at h)) in
              subst (Centred (ends_range low high)) (sym is_input) (input_centred (length rows) low high (ends_ordered c passed (length rows) l))

  -- ---- low is not above high
  pub own_ordered : Passed c → (i : ℕ) (r : Row) → (own_range c i r).low ≤ℤ (own_range c i r).high
  own_ordered passed i r = own_cases (λ (z : Range). z.low ≤ℤ z.high) i r (ends_ordered c passed i) (λ l. low_not_above_high r)

  -- ---- no end is beyond the span limit
  pub own_within : Passed c → (i : ℕ) (r : Row) → Sound r → RangeWithin span_limit (own_range c i r)
  own_within passed i r s =
      own_cases (RangeWithin span_limit) i r
      (λ l. let e = passed.ends i l in record { low_in = omega (arith, e.low_in); high_in = omega (arith, e.high_in) })
      (λ l. record { low_in = low_within r s.shaped.pair s.within; high_in = high_within r s.shaped.pair s.within })
