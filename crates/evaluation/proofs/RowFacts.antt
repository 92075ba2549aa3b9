-- What holds of every row of accepted work: its own coefficient, and the symbols on which it does not depend.
use mathlib.Core.Path.{◌≡◌, refl, sym, ap, ◌∙◌, subst}
use mathlib.Core.Logic.{◌≢◌, ◌⊎◌, inl, inr}
use Prim.Native.Nat.{ℕ, ◌≤◌, ◌<◌}
use native.Mathlib.Nat.{eq-or-lt_of_le}
use native.Mathlib.Omega.{arith}
use lib.IntN.{ℤ, pos, nat_abs, ◌+ℤ◌, ◌-ℤ◌}
use lib.Signed.{◌≤ℤ◌}
use Rattle.integer.specs.Fraction.{Fraction}
use Rattle.integer.proofs.Order.{pos-≤ℤ}
use Rattle.integer.proofs.Absolute.{nat_abs_of_nonneg}
use Rattle.affine.specs.declared.Row.{Row}
use Rattle.affine.specs.declared.Range.{Range}
use Rattle.affine.specs.Limits.{symbols}
use Rattle.affine.specs.Lists.{at}
use Rattle.affine.specs.Steps.{constant_row, add_rows, subtract_rows}
use Rattle.affine.specs.Reciprocal.{distance}
use Rattle.affine.proofs.Support.{FreeOf, NoPairOf, constant_free, input_free, zip_free, product_free, reciprocal_free, root_free}
use Rattle.affine.proofs.WellFormed.{input_own, input_own_nonneg, product_own_lem, reciprocal_own_lem, root_own_lem, free_no_pair, input_no_pair, product_no_pair, reciprocal_no_pair, root_no_pair}
use Rattle.sheet.specs.declared.Schedule.{Schedule}
use Rattle.sheet.specs.Lines.{natural, ends_at}
use Rattle.sheet.proofs.Passed.{Passed}
use Rattle.evaluation.proofs.Sequence.{complete}
use Rattle.evaluation.proofs.Induction.{lt_or_ge}
use Rattle.evaluation.proofs.WorkLaws.{Begun}
use Rattle.evaluation.proofs.EveryRow.{none_later}
use Rattle.evaluation.proofs.Made.{Made, is_input, is_constant, is_sum, is_difference, is_product, is_reciprocal, is_root, row, range, made}
use Rattle.evaluation.proofs.RowLines.{rows_few, ends_ordered}

-- how sums and differences are made, number by number
abbrev plus : ℤ → ℤ → ℤ
plus a b = a +ℤ b

abbrev less : ℤ → ℤ → ℤ
less a b = a -ℤ b

module _ (c : Schedule) (passed : Passed c) (x : ℕ → Fraction) {count : ℕ} (begun : Begun c count) where
  abbrev squares : ℕ
  squares = natural c.squares

  -- a row of the sheet, what it was made of
  abbrev f : ℕ → Row
  f n = row c passed x n

  -- and its own range
  abbrev g : ℕ → Range
  g n = range c passed x n

  origin : (n : ℕ) → n < count → Made c passed x n
  origin n h = made c passed x begun n h

  apart : {n m : ℕ} → n < m → m ≢ n
  apart {n} {m} l e = absurd (let h : n < n = subst (λ k. n < k) e l in omega arith)

  -- ---- the own coefficient
  abbrev pub own : ℕ → ℕ
  own n = nat_abs (at (f n).linear n)

  own_nonneg : (n : ℕ) → n < count → pos 0 ≤ℤ at (f n).linear n
  own_nonneg n h = by_origin (origin n h)
    where
      here : n < symbols
      here = omega (arith, begun.few, rows_few c passed)

      natural_own : {r : Row} {k : ℕ} → f n ≡ r → at r.linear n ≡ pos k → pos 0 ≤ℤ at (f n).linear n
      natural_own e q = subst (λ z. pos 0 ≤ℤ z) (sym (ap (λ r. at r.linear n) e ∙ q)) (pos-≤ℤ (omega arith))

      by_origin : Made c passed x n → pos 0 ≤ℤ at (f n).linear n
      by_origin (is_input l e v p) =
          subst (λ z. pos 0 ≤ℤ z) (sym (ap (λ r. at r.linear n) e ∙ input_own n (ends_at c n).low (ends_at c n).high here))
          (input_own_nonneg (ends_at c n).low (ends_at c n).high (ends_ordered c passed n l))
      by_origin (is_constant l v e q p) = natural_own e (constant_free n v).linear
      by_origin (is_sum l i j hi hj e v p) = natural_own e (zip_free n plus refl (f i) (f j) (none_later c i n hi) (none_later c j n hj)).linear
      by_origin (is_difference l i j hi hj e v p) = natural_own e (zip_free n less refl (f i) (f j) (none_later c i n hi) (none_later c j n hj)).linear
      by_origin (is_product l i j hi hj e v p) = natural_own e (product_own_lem squares n (f i) (f j) here)
      by_origin (is_reciprocal l i hi a e v p) = natural_own e (reciprocal_own_lem squares n (f i) (distance (g i)) here)
      by_origin (is_root l i hi a s e v p) = natural_own e (root_own_lem squares n (f i) (g i).low here)

  pub own_is : (n : ℕ) → n < count → at (f n).linear n ≡ pos (own n)
  own_is n h = sym (nat_abs_of_nonneg (own_nonneg n h))

  -- no pair holds the own symbol
  pub alone : (n : ℕ) → n < count → NoPairOf n (f n)
  alone n h = by_origin (origin n h)
    where
      by_origin : Made c passed x n → NoPairOf n (f n)
      by_origin (is_input l e v p) = subst (NoPairOf n) (sym e) (input_no_pair n n (ends_at c n).low (ends_at c n).high)
      by_origin (is_constant l v e q p) = subst (NoPairOf n) (sym e) (free_no_pair n (constant_row v) (constant_free n v))
      by_origin (is_sum l i j hi hj e v p) = subst (NoPairOf n) (sym e) (free_no_pair n (add_rows (f i) (f j)) (zip_free n plus refl (f i) (f j) (none_later c i n hi) (none_later c j n hj)))
      by_origin (is_difference l i j hi hj e v p) = subst (NoPairOf n) (sym e) (free_no_pair n (subtract_rows (f i) (f j)) (zip_free n less refl (f i) (f j) (none_later c i n hi) (none_later c j n hj)))
      by_origin (is_product l i j hi hj e v p) = subst (NoPairOf n) (sym e) (product_no_pair n squares n (f i) (f j) (none_later c i n hi) (none_later c j n hj))
      by_origin (is_reciprocal l i hi a e v p) = subst (NoPairOf n) (sym e) (reciprocal_no_pair n squares n (f i) (distance (g i)) (none_later c i n hi))
      by_origin (is_root l i hi a s e v p) = subst (NoPairOf n) (sym e) (root_no_pair n squares n (f i) (g i).low (none_later c i n hi))

  -- "A symbol whose own coefficient is 0 has coefficient 0 in every row"
  pub owned : (n m : ℕ) → n < count → m < count → own m ≡ 0 → FreeOf m (f n)
  owned n m h hm z = complete (λ n. n < count → FreeOf m (f n)) (λ n ih h. by_place n h ih (lt_or_ge n m)) n h
    where
      by_origin : (n : ℕ) → m < n → n < count → ((i : ℕ) → i < n → i < count → FreeOf m (f i)) → Made c passed x n → FreeOf m (f n)
      by_origin n k h ih (is_input l e v p) = subst (FreeOf m) (sym e) (input_free m n (ends_at c n).low (ends_at c n).high (λ q. apart k (sym q)))
      by_origin n k h ih (is_constant l v e q p) = subst (FreeOf m) (sym e) (constant_free m v)
      by_origin n k h ih (is_sum l i j hi hj e v p) = subst (FreeOf m) (sym e) (zip_free m plus refl (f i) (f j) (ih i hi (omega arith)) (ih j hj (omega arith)))
      by_origin n k h ih (is_difference l i j hi hj e v p) = subst (FreeOf m) (sym e) (zip_free m less refl (f i) (f j) (ih i hi (omega arith)) (ih j hj (omega arith)))
      by_origin n k h ih (is_product l i j hi hj e v p) =
          subst (FreeOf m) (sym e) (product_free m squares n (f i) (f j) (λ q. apart k (sym q)) (ih i hi (omega arith)) (ih j hj (omega arith)))
      by_origin n k h ih (is_reciprocal l i hi a e v p) =
          subst (FreeOf m) (sym e) (reciprocal_free m squares n (f i) (distance (g i)) (λ q. apart k (sym q)) (ih i hi (omega arith)))
      by_origin n k h ih (is_root l i hi a s e v p) =
          subst (FreeOf m) (sym e) (root_free m squares n (f i) (g i).low (λ q. apart k (sym q)) (ih i hi (omega arith)))

      by_place : (n : ℕ) → n < count → ((i : ℕ) → i < n → i < count → FreeOf m (f i)) → (n < m) ⊎ (m ≤ n) → FreeOf m (f n)
      by_place n h ih (inl l) = none_later c n m l
      by_place n h ih (inr l) = beyond (eq-or-lt_of_le l)
        where
          beyond : (m ≡ n) ⊎ (m < n) → FreeOf m (f n)
          beyond (inl e) = subst (λ k. FreeOf m (f k)) e (record { linear = own_is m hm ∙ ap pos z; pair = (alone m hm).pair })
          beyond (inr k) = by_origin n k h ih (origin n h)
