-- What holds of every row that work makes, by how rows are made: it uses only the pairs in use, and depends on no symbol of a later row.
use mathlib.Core.Path.{◌≡◌, sym, subst}
use mathlib.Core.Logic.{◌≢◌, ◌⊎◌, inl, inr}
use mathlib.Core.List.{List}
use Prim.Native.Nat.{ℕ, ◌-◌, ◌≤◌, ◌<◌}
use native.Mathlib.Omega.{arith}
use lib.Dec.{ltb}
use lib.IntN.{pos}
use lib.ListN.{length}
use Rattle.affine.specs.declared.Row.{Row}
use Rattle.affine.specs.Answer.{Answer}
use Rattle.affine.specs.declared.Range.{Range}
use Rattle.affine.specs.Row.{form_range}
use Rattle.affine.specs.Steps.{constant_row, input_row, checked_with, ends_range}
use Rattle.affine.proofs.Lists.{pick_elim}
use Rattle.affine.proofs.Answers.{answer_row}
use Rattle.affine.proofs.Form.{UsesOnly}
use Rattle.affine.proofs.Support.{FreeOf, constant_free, input_free, zip_free, product_free, reciprocal_free, root_free}
use Rattle.affine.proofs.WellFormed.{constant_uses, input_uses, zip_uses, product_uses, reciprocal_uses, root_uses}
use Rattle.sheet.specs.declared.Schedule.{Schedule}
use Rattle.sheet.specs.Lines.{natural, ends_at, step_at}
use Rattle.evaluation.specs.Ranges.{row_of, operand_ranges}
use Rattle.evaluation.specs.Work.{row_answer}
use Rattle.evaluation.proofs.Sequence.{complete, length_grown, get_or_grown, get_or_beyond}
use Rattle.evaluation.proofs.Induction.{lt_or_ge}
use Rattle.evaluation.proofs.WorkLaws.{next_row, rows_up_to}
use Rattle.evaluation.proofs.SoundRows.{Kept, of_step}

-- ---- K n is kept by every way to make the row with index n, from rows before it
module _ (c : Schedule) (K : ℕ → Row → Type 0) (kept : (n : ℕ) → Kept (K n) (K n) (natural c.squares) n)
    (input : (n : ℕ) → K n (input_row n (ends_at c n).low (ends_at c n).high)) (onward : (i n : ℕ) (r : Row) → i < n → K i r → K n r) where
  checked_has : (n : ℕ) (r : Row) (own : Range) → K n r → K n (checked_with r own).row
  checked_has n r own h = answer_row (K n) r own h ((kept n).constant (pos 0))

  answer_has : (n : ℕ) (rows : List Row) → length rows ≡ n → ((k : ℕ) → K n (row_of rows k)) → K n (row_answer c rows).row
  unfolding row_answer
  answer_has n rows long operand =
      let low = (ends_at c (length rows)).low in
      let high = (ends_at c (length rows)).high in
      let here : (r : Row) → K n r → K (length rows) r = λ r h. subst (λ k. K k r) (sym long) h in
      subst (λ k. K k (row_answer c rows).row) long
      (pick_elim (λ (a : Answer). K (length rows) a.row) (ltb (length rows) (natural c.inputs)) _ _
      (λ e. checked_has (length rows) (input_row (length rows) low high) (ends_range low high) (input (length rows)))
      (λ e. of_step (λ (a : Answer). K (length rows) a.row) (K (length rows)) (K (length rows)) (λ r h. checked_has (length rows) r (form_range r) h)
      (λ s. (kept (length rows)).constant (pos 0)) (natural c.squares) rows (kept (length rows)) (λ k. here (row_of rows k) (operand k)) (operand_ranges c rows)
      (step_at c (length rows - natural c.inputs))))

  pub every_row : (n : ℕ) → K n (next_row c (rows_up_to c n))
  every_row = complete (λ n. K n (next_row c (rows_up_to c n))) (λ n ih. answer_has n (rows_up_to c n) (length_grown (next_row c) n) (λ k. operand n ih k (lt_or_ge k n)))
    where
      operand : (n : ℕ) → ((i : ℕ) → i < n → K i (next_row c (rows_up_to c i))) → (k : ℕ) → (k < n) ⊎ (n ≤ k) → K n (row_of (rows_up_to c n) k)
      operand n ih k (inl l) = subst (K n) (sym (get_or_grown (next_row c) n (constant_row (pos 0)) k l)) (onward k n _ l (ih k l))
      operand n ih k (inr l) = subst (K n) (sym (get_or_beyond (next_row c) n (constant_row (pos 0)) k l)) ((kept n).constant (pos 0))

module _ (c : Schedule) where
  -- ---- no symbol of a row after the one with index n
  abbrev NoneLater : ℕ → Row → Type 0
  NoneLater n r = (m : ℕ) → n < m → FreeOf m r

  apart : {n m : ℕ} → n < m → m ≢ n
  apart {n} {m} l e = absurd (let h : n < n = subst (λ k. n < k) e l in omega arith)

  pub none_later : (n : ℕ) → NoneLater n (next_row c (rows_up_to c n))
  none_later =
      every_row c NoneLater
      (λ n. record {
        constant = λ v m l. constant_free m v;
        zip = λ f z x y hx hy m l. zip_free m f z x y (hx m l) (hy m l);
        product = λ x y hx hy m l. product_free m (natural c.squares) n x y (apart l) (hx m l) (hy m l);
        reciprocal = λ x a hx m l. reciprocal_free m (natural c.squares) n x a (apart l) (hx m l);
        root = λ x least hx m l. root_free m (natural c.squares) n x least (apart l) (hx m l);
      })
      (λ n m l. input_free m n (ends_at c n).low (ends_at c n).high (apart l))
      (λ i n r l h m k. h m (omega arith))

  -- ---- only pairs in use
  pub uses_only : (n : ℕ) → UsesOnly (natural c.squares) (next_row c (rows_up_to c n))
  uses_only =
      let squares = natural c.squares in
      every_row c (λ n r. UsesOnly squares r)
      (λ n. record {
        constant = constant_uses squares;
        zip = zip_uses squares;
        product = λ x y hx hy. product_uses squares n x y;
        reciprocal = λ x a hx. reciprocal_uses squares n x a;
        root = λ x least hx. root_uses squares n x least hx;
      })
      (λ n. input_uses squares n (ends_at c n).low (ends_at c n).high)
      (λ i n r l h. h)
