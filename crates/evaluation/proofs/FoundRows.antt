-- At the found values the first rows of a schedule, none of them refused, equal their exact values, which lie in the own, the plain and the answered range of
-- each row.
use mathlib.Core.Path.{◌≡◌, refl, sym, ap, ◌∙◌, subst}
use mathlib.Core.Logic.{◌≢◌}
use mathlib.Core.Bool.{false}
use mathlib.Core.List.{List, [], ◌∷◌, ◌++◌}
use Prim.Native.Nat.{ℕ, zero, suc, ◌≤◌, ◌<◌}
use native.Mathlib.Omega.{arith}
use borrow.Author.Tests.{ne_eqb}
use lib.IntN.{pos}
use lib.ListN.{length, get_or}
use Rattle.integer.specs.Fraction.{Fraction, ◌≈◌, ◌-ℚ◌, ◌*ℚ◌, ◌/ℚ◌, whole}
use Rattle.integer.proofs.Ring.{◌⊕◌, ◌⊖◌, ◌⊗◌, ◌≐◌, ring}
use Rattle.integer.proofs.Fraction.{ring_of_fractions, ordered_fractions, ≈_refl, ≈_sym, ≈_trans, +ℚ_cong, *ℚ_cong, times_quotient, ≤ℚ_of_not_below}
use Rattle.integer.proofs.Order.{≤ℤ_trans}
use Rattle.integer.proofs.Machine.{≥ℤ_of_test}
use Rattle.affine.specs.declared.Row.{Row}
use Rattle.affine.specs.declared.Range.{Range}
use Rattle.affine.specs.Limits.{unit}
use Rattle.affine.specs.Lists.{at, equal}
use Rattle.affine.specs.Form.{form_value}
use Rattle.affine.specs.Steps.{constant_row}
use Rattle.affine.proofs.Form.{Shaped, units}
use Rattle.affine.proofs.Support.{FreeOf}
use Rattle.interval.proofs.Holds.{Lies, lies_cong, exactly_holds, sum_holds, difference_holds, overlap_holds, product_holds, reciprocal_holds, not_empty}
use Rattle.interval.proofs.RootHolds.{root_holds}
use Rattle.sheet.specs.declared.Schedule.{Schedule}
use Rattle.evaluation.specs.Ranges.{row_of}
use Rattle.evaluation.specs.Values.{exact_value, own_of, symbols_of, next_found, found_values, found_value}
use Rattle.evaluation.specs.Demand3.{InputsWithin}
use Rattle.evaluation.proofs.Sequence.{grown, complete, length_grown, get_or_grown, get_or_beyond}
use Rattle.evaluation.proofs.Induction.{AtFound, at_found}
use Rattle.evaluation.proofs.WorkLaws.{next_row, rows_up_to, Begun}
use Rattle.sheet.proofs.Passed.{Passed}
use Rattle.evaluation.proofs.Made.{Made, is_input, is_constant, is_sum, is_difference, is_product, is_reciprocal, is_root, row, made}
use Rattle.evaluation.proofs.AnsweredRanges.{own_at, plain_at, told_at, told_is, told_from, told_one_side}
use Rattle.evaluation.proofs.EveryRow.{none_later}
use Rattle.evaluation.proofs.RowFacts.{own, own_is, alone, owned}
use Rattle.evaluation.proofs.RowEnclosure.{X, neg_ℚ_cong, scaled_root, in_own, inverse, row_encloses}
use Rattle.evaluation.proofs.SoundRows.{row_sound}
use Rattle.evaluation.proofs.FractionUnits.{scaled, scaled_form, scaled_in_units, scaled_above, scaled_below}

-- ---- found values grow as rows do
found_grown : (c : Schedule) (x : ℕ → Fraction) (rows : List Row) (n : ℕ) → found_values c x rows n ≡ grown (next_found c x rows) n
unfolding found_values grown
found_grown c x rows zero = refl
found_grown c x rows (suc n) = ap (λ l. l ++ (next_found c x rows l ∷ [])) (found_grown c x rows n)

symbol_before : (c : Schedule) (x : ℕ → Fraction) (rows : List Row) (n i : ℕ) → i < n → symbols_of (found_values c x rows n) i ≡ found_value c x rows i
symbol_before c x rows n i h =
    ap (λ l. get_or l i (whole (pos 0))) (found_grown c x rows n) ∙ get_or_grown (next_found c x rows) n (whole (pos 0)) i h ∙ ap (next_found c x rows) (sym (found_grown c x rows i))

symbol_after : (c : Schedule) (x : ℕ → Fraction) (rows : List Row) (n i : ℕ) → n ≤ i → symbols_of (found_values c x rows n) i ≡ whole (pos 0)
symbol_after c x rows n i h = ap (λ l. get_or l i (whole (pos 0))) (found_grown c x rows n) ∙ get_or_beyond (next_found c x rows) n (whole (pos 0)) i h

length_found : (c : Schedule) (x : ℕ → Fraction) (rows : List Row) (n : ℕ) → length (found_values c x rows n) ≡ n
length_found c x rows n = ap length (found_grown c x rows n) ∙ length_grown (next_found c x rows) n

pub path : {u v : Fraction} → u ≡ v → u ≈ v
path {u} e = subst (λ v. u ≈ v) e (≈_refl u)

-- a found value, by whether the own coefficient is 0
found_none : (c : Schedule) (x : ℕ → Fraction) (rows : List Row) (n : ℕ) → own_of rows n ≡ pos 0 → found_value c x rows n ≡ whole (pos 0)
unfolding next_found
found_none c x rows n e = rw (length_found c x rows n, e)

found_some : (c : Schedule) (x : ℕ → Fraction) (rows : List Row) (n : ℕ) → equal (own_of rows n) (pos 0) ≡ false
    → found_value c x rows n ≡ (exact_value c x n -ℚ form_value (row_of rows n) (symbols_of (found_values c x rows n))) *ℚ whole (pos unit) /ℚ whole (own_of rows n)
unfolding next_found
found_some c x rows n e = rw (length_found c x rows n, e)

module _ (c : Schedule) (pass : Passed c) (x : ℕ → Fraction) (within : InputsWithin c x) {count : ℕ} (begun : Begun c count) where
  abbrev pub rows : List Row
  rows = rows_up_to c count

  abbrev pub f : ℕ → Row
  f n = row c pass x n

  abbrev pub o : ℕ → ℕ
  o n = own c pass x begun n

  abbrev pub exact : ℕ → Fraction
  exact n = X c pass x within begun n

  abbrev pub φ : ℕ → Fraction
  φ n = found_value c x rows n

  abbrev pub S : ℕ → ℕ → Fraction
  S n = symbols_of (found_values c x rows n)

  pub row_of_lem : (n : ℕ) → n < count → row_of rows n ≡ f n
  row_of_lem n h = get_or_grown (next_row c) count (constant_row (pos 0)) n h

  pub own_of_lem : (n : ℕ) → n < count → own_of rows n ≡ pos (o n)
  own_of_lem n h = ap (λ r. at r.linear n) (row_of_lem n h) ∙ own_is c pass x begun n h

  none : (n : ℕ) → n < count → o n ≡ 0 → φ n ≈ whole (pos 0)
  none n h e = path (found_none c x rows n (own_of_lem n h ∙ ap pos e))

  found : (n : ℕ) → n < count → o n ≢ 0 → whole (pos (o n)) *ℚ φ n ≈ exact n -ℚ units ring_of_fractions (f n) (S n)
  found n h d =
      ≈_trans (*ℚ_cong (path (ap whole (sym (own_of_lem n h)))) (path (found_some c x rows n (ap (λ z. equal z (pos 0)) (own_of_lem n h) ∙ ne_eqb (o n) 0 d))))
      (≈_trans (times_quotient _ (whole (own_of rows n)) (λ z. d (let y : pos (o n) ≡ pos 0 = sym (own_of_lem n h) ∙ z in let w : o n ≡ 0 = cc in w)))
      (≈_trans (ring ring_of_fractions 3 (λ v w u. (v ⊖ w) ⊗ u ≐ u ⊗ v ⊖ u ⊗ w) tt _ _ _)
      (+ℚ_cong (≈_refl _) (neg_ℚ_cong (≈_trans (scaled_form (row_of rows n) (S n)) (path (ap (λ r. units ring_of_fractions r (S n)) (row_of_lem n h))))))))

  pub shaped : (i : ℕ) → i < count → Shaped (f i)
  shaped i h = (row_sound c (rows_up_to c i)).shaped

  later : (i n : ℕ) → i < count → i < n → FreeOf n (f i)
  later i n h l = none_later c i n l

  before : (n i : ℕ) → i < n → S n i ≈ φ i
  before n i h = path (symbol_before c x rows n i h)

  after : (n i : ℕ) → n ≤ i → S n i ≈ whole (pos 0)
  after n i h = path (symbol_after c x rows n i h)

  -- the induction over rows, here
  pub result : AtFound ordered_fractions count f o exact φ (S count)
  result =
      at_found ordered_fractions count f o exact φ S shaped (own_is c pass x begun) (alone c pass x begun) later (owned c pass x begun) before after none found
      (λ n h ε u off same. row_encloses c pass x within begun n h ε u off same)

  -- ---- the exact value lies in the own range of its row ..
  pub lies_own : (i : ℕ) → i < count → Lies ordered_fractions (exact i) (own_at c i)
  lies_own i h = in_own c pass x within begun (S count) result.all_bounded i (result.equal_there i h)

  -- .. in the plain one, if those before lie in the answered ones ..
  module _ (n : ℕ) (h : n < count) (before : (i : ℕ) → i < n → Lies ordered_fractions (exact i) (told_at c i)) where
    held : {r : Range} {v : Fraction} → plain_at c n ≡ r → exact_value c x n ≡ v → Lies ordered_fractions (scaled v) r → Lies ordered_fractions (exact n) (plain_at c n)
    held {r} {v} p q l = subst (Lies ordered_fractions (exact n)) (sym p) (subst (λ v. Lies ordered_fractions (scaled v) r) (sym q) l)

    by_origin : Made c pass x n → Lies ordered_fractions (exact n) (plain_at c n)
    by_origin (is_input l e v p) =
        held p v (record { from = scaled_above (≤ℚ_of_not_below (within n l).not_below); to = scaled_below (≤ℚ_of_not_below (within n l).not_above) })
    by_origin (is_constant l v e q p) = held p q (lies_cong ordered_fractions (≈_sym (scaled_in_units v)) (exactly_holds ordered_fractions v))
    by_origin (is_sum l i j hi hj e v p) =
        held p v
        (lies_cong ordered_fractions (ring ring_of_fractions 3 (λ u a b. u ⊗ a ⊕ u ⊗ b ≐ u ⊗ (a ⊕ b)) tt _ _ _) (sum_holds ordered_fractions (before i hi) (before j hj)))
    by_origin (is_difference l i j hi hj e v p) =
        held p v
        (lies_cong ordered_fractions (ring ring_of_fractions 3 (λ u a b. u ⊗ a ⊖ u ⊗ b ≐ u ⊗ (a ⊖ b)) tt _ _ _) (difference_holds ordered_fractions (before i hi) (before j hj)))
    by_origin (is_product l i j hi hj e v p) =
        held p v
        (product_holds ordered_fractions (before i hi) (before j hj) (ring ring_of_fractions 3 (λ u a b. u ⊗ (u ⊗ (a ⊗ b)) ≐ (u ⊗ a) ⊗ (u ⊗ b)) tt _ _ _))
    by_origin (is_reciprocal l i hi a e v p) =
        held p v
        (reciprocal_holds ordered_fractions (inverse c pass x within begun i a (lies_own i (omega arith))) (told_one_side c pass i (not_empty (before i hi)) a) (before i hi))
    by_origin (is_root l i hi a starts e v p) =
        held p v
        (lies_cong ordered_fractions (≈_sym (scaled_root c pass x within begun i)) (root_holds (≤ℤ_trans (≥ℤ_of_test a) (told_from c i)) (before i hi)))

  -- .. and so in the answered one
  pub lies_told : (i : ℕ) → i < count → Lies ordered_fractions (exact i) (told_at c i)
  lies_told =
      complete (λ i. i < count → Lies ordered_fractions (exact i) (told_at c i))
      (λ n ih h.
      subst (Lies ordered_fractions (exact n)) (sym (told_is c n))
      (overlap_holds ordered_fractions (lies_own n h) (by_origin n h (λ i l. ih i l (omega arith)) (made c pass x begun n h))))
