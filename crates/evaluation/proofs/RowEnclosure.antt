-- Each row of accepted work encloses its exact value: by its line, the enclosure law of its operation.
use mathlib.Core.Path.{◌≡◌, sym, subst}
use mathlib.Core.Logic.{◌≢◌}
use mathlib.Core.Bool.{false}
use mathlib.Core.List.{[], ◌∷◌}
use Prim.Native.Nat.{ℕ, ◌<◌}
use native.Mathlib.Omega.{arith}
use lib.IntN.{pos, negsuc}
use lib.Signed.{◌≤ℤ◌}
use Rattle.integer.specs.Fraction.{Fraction, ◌≈◌, ◌≤ℚ◌, ◌-ℚ◌, ◌*ℚ◌, neg_ℚ, whole, reciprocal}
use Rattle.integer.specs.Root.{floor_root}
use Rattle.integer.proofs.Certificate.{certify, hyp, eqn, ◌⊞◌, ◌≼◌, ◌≋◌, ◌⊢◌}
use Rattle.integer.proofs.Ring.{con, ◌⊕◌, ◌⊖◌, ◌⊗◌, neg, ◌≐◌, ring}
use Rattle.integer.proofs.Order.{pos-≤ℤ}
use Rattle.integer.proofs.Fraction.{ring_of_fractions, ordered_fractions, ≈_refl, ≈_sym, ≈_trans, +ℚ_cong, *ℚ_cong, ≤ℚ_of_not_below, ≤ℚ_of-<ℚ, times_reciprocal, ≈_zero_of_upper}
use Rattle.integer.proofs.Bound.{Bound, bound_cong, le_cong, whole_le, whole_nonneg}
use Rattle.integer.proofs.Machine.{≥ℤ_of_test}
use Rattle.integer.proofs.RootLaws.{is_floor_root}
use Rattle.affine.specs.declared.Row.{Row}
use Rattle.affine.specs.declared.Range.{Range}
use Rattle.affine.specs.Limits.{symbols, unit, unit_squared}
use Rattle.affine.specs.Lists.{at}
use Rattle.affine.specs.Row.{form_range}
use Rattle.affine.specs.Steps.{input_row, ends_range}
use Rattle.affine.specs.Product.{product_row}
use Rattle.affine.specs.Reciprocal.{zero_in_range, distance, reciprocal_row}
use Rattle.affine.specs.Root.{root_row}
use Rattle.affine.proofs.Form.{Shaped, units}
use Rattle.affine.proofs.FormBounds.{UnitSymbols}
use Rattle.affine.proofs.StepLaws.{constant_exact, add_exact, subtract_exact, input_encloses}
use Rattle.affine.proofs.Distance.{distance_is_end}
use Rattle.affine.proofs.RangeLaws.{low_holds_value, high_holds_value}
use Rattle.affine.proofs.Enclosure.{product_encloses, reciprocal_encloses, Apart, apart_square, value_apart}
use Rattle.affine.proofs.RootCandidate.{unit_root_some}
use Rattle.affine.proofs.RootEnclosure.{root_encloses}
use Rattle.affine.proofs.WellFormed.{input_own, product_own_lem, reciprocal_own_lem, root_own_lem}
use Rattle.interval.proofs.Holds.{Lies}
use Rattle.interval.proofs.RootHolds.{radicand_nonneg, root_not_below}
use Rattle.sheet.specs.declared.Schedule.{Schedule}
use Rattle.sheet.specs.Lines.{natural, ends_at}
use Rattle.sheet.proofs.Passed.{Passed}
use Rattle.evaluation.specs.Values.{exact_root}
use Rattle.evaluation.specs.Demand3.{InputsWithin}
use Rattle.evaluation.proofs.ExactRows.{input_value}
use Rattle.evaluation.proofs.OwnRanges.{own_cases}
use Rattle.evaluation.proofs.WorkLaws.{rows_up_to, Begun}
use Rattle.evaluation.proofs.Made.{Made, is_input, is_constant, is_sum, is_difference, is_product, is_reciprocal, is_root, row, range, value, made}
use Rattle.evaluation.proofs.RowLines.{rows_few, squares_few}
use Rattle.evaluation.proofs.EveryRow.{uses_only}
use Rattle.evaluation.proofs.RowFacts.{own, own_is}
use Rattle.evaluation.proofs.SoundRows.{row_sound}
use Rattle.evaluation.proofs.FractionUnits.{scaled, scaled_in_units, scaled_above, scaled_below}

pub neg_ℚ_cong : {u v : Fraction} → u ≈ v → neg_ℚ u ≈ neg_ℚ v
neg_ℚ_cong {u} {v} e = certify ordered_fractions 2 (λ u v. (u ≋ v) ∷ [] ⊢ (neg u ≋ neg v)) 0 (eqn (con (negsuc 0)) 0) tt u v e

-- an exact row encloses, whatever its own coefficient
exact_encloses : {X U : Fraction} (o : ℕ) → X ≈ U → Bound ordered_fractions (X -ℚ U) (whole (pos o))
exact_encloses {X} {U} o e =
    record {
      low = certify ordered_fractions 3 (λ X U o. (X ≋ U) ∷ (con (pos 0) ≼ o) ∷ [] ⊢ (neg o ≼ X ⊕ neg U)) 0 (hyp 1 ⊞ eqn (con (pos 1)) 0) tt X U (whole (pos o)) e (whole_nonneg ordered_fractions o);
      high = certify ordered_fractions 3 (λ X U o. (X ≋ U) ∷ (con (pos 0) ≼ o) ∷ [] ⊢ (X ⊕ neg U ≼ o)) 0 (hyp 1 ⊞ eqn (con (negsuc 0)) 0) tt X U (whole (pos o)) e (whole_nonneg ordered_fractions o);
    }

-- a number at least 1 from 0 is not 0
pub apart_nonzero : {X : Fraction} (a : ℕ) → 0 < a → Apart ordered_fractions X (whole (pos a)) → ¬ (X ≈ whole (pos 0))
apart_nonzero {X} a h l e =
    impossible
    (le_cong ordered_fractions (≈_refl _) (≈_trans (*ℚ_cong e e) (ring ring_of_fractions 0 (con (pos 0) ⊗ con (pos 0) ≐ con (pos 0)) tt))
    (apart_square ordered_fractions (whole_le ordered_fractions (pos-≤ℤ h)) l))
  where
    impossible : whole (pos 1) ≤ℚ whole (pos 0) → ⊥
    impossible q = q.cross.le

module _ (c : Schedule) (passed : Passed c) (x : ℕ → Fraction) (within : InputsWithin c x) {count : ℕ} (begun : Begun c count) where
  abbrev squares : ℕ
  squares = natural c.squares

  abbrev f : ℕ → Row
  f n = row c passed x n

  abbrev g : ℕ → Range
  g n = range c passed x n

  -- the exact value, in units
  abbrev pub X : ℕ → Fraction
  X n = scaled (value c passed x n)

  -- that of which a root is taken: 4096 times the exact value, in units
  abbrev pub radicand : ℕ → Fraction
  radicand n = whole (pos unit) *ℚ X n

  pub scaled_root : (n : ℕ) → scaled (exact_root (value c passed x n)) ≈ whole (pos (floor_root (radicand n)))
  unfolding exact_root
  scaled_root n = scaled_in_units (pos (floor_root (radicand n)))

  -- the exact value of a row lies in its own range: an input's within its ends, any other where its form has the exact value
  pub in_own : (ε : ℕ → Fraction) → UnitSymbols ordered_fractions ε → (i : ℕ) → X i ≈ units ring_of_fractions (f i) ε → Lies ordered_fractions (X i) (g i)
  in_own ε unital i same = own_cases c (Lies ordered_fractions (X i)) i (f i) of_input (λ l. of_form)
    where
      shaped : Shaped (f i)
      shaped = (row_sound c (rows_up_to c i)).shaped

      of_input : i < natural c.inputs → Lies ordered_fractions (X i) (ends_range (ends_at c i).low (ends_at c i).high)
      of_input l =
          subst (λ v. Lies ordered_fractions (scaled v) (ends_range (ends_at c i).low (ends_at c i).high)) (sym (input_value c x i l))
          (record { from = scaled_above (≤ℚ_of_not_below (within i l).not_below); to = scaled_below (≤ℚ_of_not_below (within i l).not_above) })

      of_form : Lies ordered_fractions (X i) (form_range (f i))
      of_form =
          record {
            from = le_cong ordered_fractions (≈_refl _) (≈_sym same) (low_holds_value ordered_fractions ε unital (f i) shaped);
            to = le_cong ordered_fractions (≈_sym same) (≈_refl _) (high_holds_value ordered_fractions ε unital (f i) shaped);
          }

  -- so it is as far from 0 as that range
  pub own_apart : (i : ℕ) → zero_in_range (g i) ≡ false → Lies ordered_fractions (X i) (g i) → ¬ (X i ≈ whole (pos 0))
  own_apart i a l = apart_nonzero (distance (g i)) (distance_is_end (g i) a).0 (value_apart ordered_fractions (g i) a l.from l.to)

  -- and has a reciprocal, in units
  pub inverse : (i : ℕ) → zero_in_range (g i) ≡ false → Lies ordered_fractions (X i) (g i) → scaled (reciprocal (value c passed x i)) *ℚ X i ≈ whole (pos unit_squared)
  inverse i a l =
      certify ordered_fractions 2 (λ v r. (v ⊗ r ≋ con (pos 1)) ∷ [] ⊢ ((con (pos unit) ⊗ r) ⊗ (con (pos unit) ⊗ v) ≋ con (pos unit_squared))) 0 (eqn (con (pos unit_squared)) 0) tt
      (value c passed x i) (reciprocal (value c passed x i)) (times_reciprocal (value c passed x i) upper_nonzero)
    where
      upper_nonzero : (value c passed x i).upper ≢ pos 0
      upper_nonzero z = own_apart i a l (≈_trans (*ℚ_cong (≈_refl _) (≈_zero_of_upper z)) (ring ring_of_fractions 1 (λ u. u ⊗ con (pos 0) ≐ con (pos 0)) tt _))

  module _ (n : ℕ) (h : n < count) (ε : ℕ → Fraction) (unital : UnitSymbols ordered_fractions ε) (off : ε n ≈ whole (pos 0))
      (same : (i : ℕ) → i < n → X i ≈ units ring_of_fractions (f i) ε) where
    -- over what the row and its value are made of
    enclosed : {r : Row} {v : Fraction} → f n ≡ r → value c passed x n ≡ v
        → Bound ordered_fractions (scaled v -ℚ units ring_of_fractions r ε) (whole (at r.linear n))
        → Bound ordered_fractions (X n -ℚ units ring_of_fractions (f n) ε) (whole (pos (own c passed x begun n)))
    enclosed {r} {v} e q b =
        subst (λ z. Bound ordered_fractions (X n -ℚ units ring_of_fractions (f n) ε) (whole z)) (own_is c passed x begun n h)
        (subst (λ r. Bound ordered_fractions (X n -ℚ units ring_of_fractions r ε) (whole (at r.linear n))) (sym e)
        (subst (λ v. Bound ordered_fractions (scaled v -ℚ units ring_of_fractions r ε) (whole (at r.linear n))) (sym q) b))

    -- a row without error
    exact : {r : Row} {v : Fraction} → f n ≡ r → value c passed x n ≡ v → scaled v ≈ units ring_of_fractions r ε
        → Bound ordered_fractions (X n -ℚ units ring_of_fractions (f n) ε) (whole (pos (own c passed x begun n)))
    exact {r} {v} e q w =
        exact_encloses (own c passed x begun n)
        (subst (λ r. X n ≈ units ring_of_fractions r ε) (sym e) (subst (λ v. scaled v ≈ units ring_of_fractions r ε) (sym q) w))

    here : n < symbols
    here = omega (arith, begun.few, rows_few c passed)

    shape : (i : ℕ) → i < n → Shaped (f i)
    shape i l = (row_sound c (rows_up_to c i)).shaped

    by_origin : Made c passed x n → Bound ordered_fractions (X n -ℚ units ring_of_fractions (f n) ε) (whole (pos (own c passed x begun n)))
    by_origin (is_input l e v p) =
        enclosed e v
        (subst (λ z. Bound ordered_fractions (scaled (x n) -ℚ units ring_of_fractions (input_row n (ends_at c n).low (ends_at c n).high) ε) (whole z))
        (sym (input_own n (ends_at c n).low (ends_at c n).high here))
        (input_encloses ordered_fractions n (ends_at c n).low (ends_at c n).high ε off (scaled (x n))
        (scaled_above (≤ℚ_of_not_below (within n l).not_below)) (scaled_below (≤ℚ_of_not_below (within n l).not_above))))
    by_origin (is_constant l v e q p) = exact e q (≈_trans (scaled_in_units v) (≈_sym (constant_exact ring_of_fractions v ε)))
    by_origin (is_sum l i j hi hj e v p) =
        exact e v
        (≈_trans (ring ring_of_fractions 3 (λ u a b. u ⊗ (a ⊕ b) ≐ u ⊗ a ⊕ u ⊗ b) tt _ _ _)
        (≈_trans (+ℚ_cong (same i hi) (same j hj)) (≈_sym (add_exact ring_of_fractions (f i) (f j) (shape i hi) (shape j hj) ε))))
    by_origin (is_difference l i j hi hj e v p) =
        exact e v
        (≈_trans (ring ring_of_fractions 3 (λ u a b. u ⊗ (a ⊖ b) ≐ u ⊗ a ⊖ u ⊗ b) tt _ _ _)
        (≈_trans (+ℚ_cong (same i hi) (neg_ℚ_cong (same j hj))) (≈_sym (subtract_exact ring_of_fractions (f i) (f j) (shape i hi) (shape j hj) ε))))
    by_origin (is_product l i j hi hj e v p) =
        enclosed e v
        (subst (λ z. Bound ordered_fractions (scaled (value c passed x i *ℚ value c passed x j) -ℚ units ring_of_fractions (product_row squares n (f i) (f j)) ε) (whole z))
        (sym (product_own_lem squares n (f i) (f j) here))
        (product_encloses ordered_fractions ε unital squares (squares_few c passed) (f i) (f j) (shape i hi) (shape j hj) (uses_only c i) (uses_only c j) n off
        (scaled (value c passed x i *ℚ value c passed x j))
        (≈_trans (ring ring_of_fractions 3 (λ u a b. u ⊗ (u ⊗ (a ⊗ b)) ≐ (u ⊗ a) ⊗ (u ⊗ b)) tt _ _ _) (*ℚ_cong (same i hi) (same j hj)))))
    by_origin (is_reciprocal l i hi a e v p) =
        enclosed e v
        (subst (λ z. Bound ordered_fractions (scaled (reciprocal (value c passed x i)) -ℚ units ring_of_fractions (reciprocal_row squares n (f i) (distance (g i))) ε) (whole z))
        (sym (reciprocal_own_lem squares n (f i) (distance (g i)) here))
        (reciprocal_encloses ordered_fractions ε unital (f i) (shape i hi) (g i) a
        (le_cong ordered_fractions (≈_refl _) (same i hi) lies.from) (le_cong ordered_fractions (same i hi) (≈_refl _) lies.to)
        squares (squares_few c passed) (uses_only c i) n off
        (scaled (reciprocal (value c passed x i))) (≈_trans (*ℚ_cong (≈_refl _) (≈_sym (same i hi))) (inverse i a lies))))
      where
        lies : Lies ordered_fractions (X i) (g i)
        lies = in_own ε unital i (same i hi)
    by_origin (is_root l i hi a starts e v p) =
        enclosed e v
        (subst (λ z. Bound ordered_fractions (scaled (exact_root (value c passed x i)) -ℚ units ring_of_fractions (root_row squares n (f i) (g i).low) ε) (whole z))
        (sym (root_own_lem squares n (f i) (g i).low here))
        (bound_cong ordered_fractions (+ℚ_cong (≈_sym (scaled_root i)) (≈_refl _)) (≈_refl _)
        (root_encloses ordered_fractions ε unital squares (squares_few c passed) (f i) (shape i hi) (uses_only c i) starts (g i).low (unit_root_some some) n off
        (floor_root (radicand i)) (root_not_below some lies)
        (le_cong ordered_fractions (≈_refl _) of_form (is_floor_root (radicand i) (radicand_nonneg some lies)).0)
        (le_cong ordered_fractions of_form (≈_refl _) (≤ℚ_of-<ℚ (is_floor_root (radicand i) (radicand_nonneg some lies)).1)))))
      where
        some : pos 1 ≤ℤ (g i).low
        some = ≥ℤ_of_test a

        lies : Lies ordered_fractions (X i) (g i)
        lies = in_own ε unital i (same i hi)

        of_form : radicand i ≈ whole (pos unit) *ℚ units ring_of_fractions (f i) ε
        of_form = *ℚ_cong (≈_refl _) (same i hi)

    pub row_encloses : Bound ordered_fractions (X n -ℚ units ring_of_fractions (f n) ε) (whole (pos (own c passed x begun n)))
    row_encloses = by_origin (made c passed x begun n h)
