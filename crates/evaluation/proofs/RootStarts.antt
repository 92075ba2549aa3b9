-- No sheet meets the second half of cause 12: a row's own range is an input's ends or that of its form, and both have the law of `affine`.
use mathlib.Core.Path.{◌≡◌, sym, ap, ◌∙◌, subst}
use mathlib.Core.Bool.{false}
use Prim.Native.Nat.{ℕ, ◌<◌}
use lib.IntN.{pos}
use Rattle.integer.proofs.Machine.{≥ℤ_of_test}
use Rattle.affine.specs.declared.Range.{Range}
use Rattle.affine.specs.Steps.{constant_row}
use Rattle.affine.specs.Root.{root_candidate, below_one, starts_below_zero}
use Rattle.affine.proofs.Answers.{checked_accepted}
use Rattle.affine.proofs.RootStarts.{form_starts, input_starts}
use Rattle.sheet.specs.declared.Schedule.{Schedule}
use Rattle.sheet.specs.Lines.{ends_at}
use Rattle.sheet.proofs.Passed.{Passed, passed}
use Rattle.evaluation.specs.Ranges.{row_of, own_range}
use Rattle.evaluation.specs.Work.{worked}
use Rattle.evaluation.specs.Roots.{CandidatesStartFromZero}
use Rattle.evaluation.proofs.Sequence.{length_grown, get_or_grown}
use Rattle.evaluation.proofs.WorkLaws.{next_row, rows_up_to, Went, went}
use Rattle.evaluation.proofs.RowLines.{row_answer_input, ends_ordered}
use Rattle.evaluation.proofs.OwnRanges.{own_cases}

module _ (c : Schedule) (pass : Passed c) (n : ℕ) (w : Went c n) (i : ℕ) (h : i < n) where
  row_starts : below_one (own_range c i (next_row c (rows_up_to c i))) ≡ false → starts_below_zero (root_candidate (next_row c (rows_up_to c i))) ≡ false
  row_starts =
      own_cases c (λ (z : Range). below_one z ≡ false → starts_below_zero (root_candidate (next_row c (rows_up_to c i))) ≡ false) i (next_row c (rows_up_to c i))
      (λ l b.
      let e = row_answer_input c (rows_up_to c i) i (length_grown (next_row c) i) l in
      subst (λ r. starts_below_zero (root_candidate r) ≡ false) (sym (ap (λ a. a.row) (e ∙ checked_accepted _ _ (rw e at (w.each i h)))))
      (input_starts i (ends_at c i).low (ends_at c i).high (ends_ordered c pass i l) (≥ℤ_of_test b)))
      (λ l b. form_starts (next_row c (rows_up_to c i)) (≥ℤ_of_test b))

pub candidates_start_from_zero : CandidatesStartFromZero
candidates_start_from_zero c t n r i h =
    let w = went c n r in
    let e : row_of (worked c n).rows i ≡ next_row c (rows_up_to c i) = ap (λ rows. row_of rows i) w.rows ∙ get_or_grown (next_row c) n (constant_row (pos 0)) i h in
    subst (λ x. below_one (own_range c i x) ≡ false → starts_below_zero (root_candidate x) ≡ false) (sym e) (row_starts c (passed c t) n w i h)
