-- The induction over rows behind demand 3, over any ordered ring and in units: if each row encloses its exact value wherever the rows before it
-- equal theirs, then the found values lie from -1 to 1, all rows equal their exact values there, and only there.
use mathlib.Core.Path.{◌≡◌, refl, sym, ◌∙◌, subst}
use mathlib.Core.Logic.{◌≢◌, ◌⊎◌, inl, inr}
use mathlib.Core.Bool.{Bool, true, false}
use mathlib.Core.List.{[], ◌∷◌}
use Prim.Native.Nat.{ℕ, zero, suc, ◌≤◌, ◌<◌}
use native.Mathlib.Decide.{ℕ_discrete}
use native.Mathlib.Nat.{eq-or-lt_of_le, le_of_suc-le-suc, not-suc-le-zero}
use native.Mathlib.Omega.{arith}
use borrow.Author.Tests.{ltb-true, ltb-false}
use lib.Dec.{ltb}
use lib.IntN.{pos, negsuc}
use Rattle.integer.proofs.Ring.{var, con, ◌⊕◌, ◌⊗◌, neg}
use Rattle.integer.proofs.Certificate.{OrderedRing, certify, hyp, eqn, ◌⊞◌, ◌≼◌, ◌≋◌, ◌⊢◌}
use Rattle.integer.proofs.Order.{pos-≤ℤ}
use Rattle.integer.proofs.Bound.{Bound, bound_cong, quotient_within_one, zero_within_one, whole_le, cancel_le, le_cong, le_refl}
use Rattle.affine.specs.declared.Row.{Row}
use Rattle.affine.specs.Lists.{at}
use Rattle.affine.proofs.Form.{Shaped, units}
use Rattle.affine.proofs.FormBounds.{UnitSymbols}
use Rattle.affine.proofs.Support.{FreeOf, NoPairOf, units_same, units_own}

pub lt_or_ge : (a b : ℕ) → (a < b) ⊎ (b ≤ a)
lt_or_ge a b = by_test (ltb a b) refl
  where
    by_test : (t : Bool) → ltb a b ≡ t → (a < b) ⊎ (b ≤ a)
    by_test true e = inl (ltb-true a b e)
    by_test false e = inr (ltb-false a b e)

module _ (𝓞 : OrderedRing) where
  open 𝓞.ring use {Carrier as C, eq as ◌~◌, add as ◌⊹◌, mul as ◌·◌, minus, whole, eq_refl as rfl, eq_sym as sy, eq_trans as ◌⨟◌, add_cong, mul_cong}
  open 𝓞 use {le, antisymmetric}

  infix 4 ◌~◌
  infixr 3 ◌⨟◌
  infixl 6 ◌⊹◌
  infixl 7 ◌·◌
  -- a factor from 1 on cancels from an equation
  cancel_factor : {d x y : C} → le (whole (pos 1)) d → d · x ~ d · y → x ~ y
  cancel_factor h e = antisymmetric (cancel_le 𝓞 h (le_cong 𝓞 (rfl _) e (le_refl 𝓞 _))) (cancel_le 𝓞 h (le_cong 𝓞 (rfl _) (sy e) (le_refl 𝓞 _)))

  -- what the induction shows, Φ being all found values with 0 elsewhere
  pub record AtFound (count : ℕ) (f : ℕ → Row) (own : ℕ → ℕ) (X φ Φ : ℕ → C) : Type 0 where
    -- every found value lies from -1 to 1
    pub bounded : (n : ℕ) → n < count → Bound 𝓞 (φ n) (whole (pos 1))
    pub all_bounded : UnitSymbols 𝓞 Φ
    -- all rows equal their exact values at the found values
    pub equal_there : (i : ℕ) → i < count → X i ~ units 𝓞.ring (f i) Φ
    -- and at all symbols that have them where the own coefficient is not 0, and at no others
    pub always : (ε : ℕ → C) → ((k : ℕ) → k < count → own k ≢ 0 → ε k ~ φ k) → (i : ℕ) → i < count → X i ~ units 𝓞.ring (f i) ε
    pub only : (ε : ℕ → C) → ((i : ℕ) → i < count → X i ~ units 𝓞.ring (f i) ε) → (k : ℕ) → k < count → own k ≢ 0 → ε k ~ φ k

  -- rows f i with own coefficients own i, exact values X i in units, found values φ i; S n has the first n found values, and 0 elsewhere
  module _ (count : ℕ) (f : ℕ → Row) (own : ℕ → ℕ) (X φ : ℕ → C) (S : ℕ → ℕ → C)
      (shaped : (i : ℕ) → i < count → Shaped (f i))
      (own_is : (i : ℕ) → i < count → at (f i).linear i ≡ pos (own i))
      (alone : (i : ℕ) → i < count → NoPairOf i (f i))
      (later : (i n : ℕ) → i < count → i < n → FreeOf n (f i))
      (owned : (i n : ℕ) → i < count → n < count → own n ≡ 0 → FreeOf n (f i))
      (before : (n i : ℕ) → i < n → S n i ~ φ i)
      (after : (n i : ℕ) → n ≤ i → S n i ~ whole (pos 0))
      (none : (n : ℕ) → n < count → own n ≡ 0 → φ n ~ whole (pos 0))
      (found : (n : ℕ) → n < count → own n ≢ 0 → whole (pos (own n)) · φ n ~ X n ⊹ minus (units 𝓞.ring (f n) (S n)))
      (encloses : (n : ℕ) → n < count → (ε : ℕ → C) → UnitSymbols 𝓞 ε → ε n ~ whole (pos 0) → ((i : ℕ) → i < n → X i ~ units 𝓞.ring (f i) ε)
      → Bound 𝓞 (X n ⊹ minus (units 𝓞.ring (f n) ε)) (whole (pos (own n)))) where
    positive : {o : ℕ} → o ≢ 0 → le (whole (pos 1)) (whole (pos o))
    positive {o} h = whole_le 𝓞 (pos-≤ℤ (above_zero o h))
      where
        above_zero : (o : ℕ) → o ≢ 0 → 1 ≤ o
        above_zero zero h = absurd (h refl)
        above_zero (suc o) h = omega arith

    -- what is shown of the first n rows
    record Stage (n : ℕ) : Type 0 where
      rows : (i : ℕ) → i < n → X i ~ units 𝓞.ring (f i) (S n)
      unit : UnitSymbols 𝓞 (S n)

    module _ (n : ℕ) (h : n < count) (stage : Stage n) where
      error : Bound 𝓞 (X n ⊹ minus (units 𝓞.ring (f n) (S n))) (whole (pos (own n)))
      error = encloses n h (S n) stage.unit (after n n (omega arith)) stage.rows

      -- the own coefficient times the found value is the error
      times_found : whole (pos (own n)) · φ n ~ X n ⊹ minus (units 𝓞.ring (f n) (S n))
      times_found = by_own (own n) refl
        where
          by_own : (o : ℕ) → own n ≡ o → whole (pos (own n)) · φ n ~ X n ⊹ minus (units 𝓞.ring (f n) (S n))
          by_own zero e =
              let b : Bound 𝓞 (X n ⊹ minus (units 𝓞.ring (f n) (S n))) (whole (pos 0)) = subst (λ o. Bound 𝓞 (X n ⊹ minus (units 𝓞.ring (f n) (S n))) (whole (pos o))) e error in
              mul_cong (rfl _) (none n h e)
              ⨟ antisymmetric
              (certify 𝓞 2 (λ o d. (neg (con (pos 0)) ≼ d) ∷ [] ⊢ (o ⊗ con (pos 0) ≼ d)) 0 (hyp 0) tt _ _ b.low)
              (certify 𝓞 2 (λ o d. (d ≼ con (pos 0)) ∷ [] ⊢ (d ≼ o ⊗ con (pos 0))) 0 (hyp 0) tt _ _ b.high)
          by_own (suc o) e = found n h (λ z. let y : suc o ≡ 0 = sym e ∙ z in omega arith)

      found_in_unit : Bound 𝓞 (φ n) (whole (pos 1))
      found_in_unit = by_own (own n) refl
        where
          by_own : (o : ℕ) → own n ≡ o → Bound 𝓞 (φ n) (whole (pos 1))
          by_own zero e = bound_cong 𝓞 (sy (none n h e)) (rfl _) (zero_within_one 𝓞)
          by_own (suc o) e = quotient_within_one 𝓞 (positive (λ z. let y : suc o ≡ 0 = sym e ∙ z in omega arith)) times_found error

      next_unit : UnitSymbols 𝓞 (S (suc n))
      next_unit i = by_place (lt_or_ge i (suc n))
        where
          by_place : (i < suc n) ⊎ (suc n ≤ i) → Bound 𝓞 (S (suc n) i) (whole (pos 1))
          by_place (inr l) = bound_cong 𝓞 (sy (after (suc n) i l)) (rfl _) (zero_within_one 𝓞)
          by_place (inl l) = within (eq-or-lt_of_le (le_of_suc-le-suc l))
            where
              within : (i ≡ n) ⊎ (i < n) → Bound 𝓞 (S (suc n) i) (whole (pos 1))
              within (inl e) = bound_cong 𝓞 (subst (λ j. φ n ~ φ j) (sym e) (rfl _) ⨟ sy (before (suc n) i l)) (rfl _) found_in_unit
              within (inr m) = bound_cong 𝓞 (before n i m ⨟ sy (before (suc n) i l)) (rfl _) (stage.unit i)

      -- the next symbols differ from these at symbol n alone
      elsewhere : (k : ℕ) → k ≢ n → S (suc n) k ~ S n k
      elsewhere k d = by_place (lt_or_ge k n)
        where
          by_place : (k < n) ⊎ (n ≤ k) → S (suc n) k ~ S n k
          by_place (inl l) = before (suc n) k (omega arith) ⨟ sy (before n k l)
          by_place (inr l) = after (suc n) k (beyond (eq-or-lt_of_le l)) ⨟ sy (after n k l)
            where
              beyond : (n ≡ k) ⊎ (n < k) → suc n ≤ k
              beyond (inl e) = absurd (d (sym e))
              beyond (inr m) = omega arith

      next_rows : (i : ℕ) → i < suc n → X i ~ units 𝓞.ring (f i) (S (suc n))
      next_rows i l = by_place (eq-or-lt_of_le (le_of_suc-le-suc l))
        where
          this : X n ~ units 𝓞.ring (f n) (S (suc n))
          this =
              certify 𝓞 7 (λ X U E o p q z. (E ≋ U ⊕ o ⊗ (p ⊕ neg q)) ∷ (o ⊗ p ≋ X ⊕ neg U) ∷ (q ≋ con (pos 0)) ∷ [] ⊢ (X ≋ E)) 0
              (eqn (con (negsuc 0)) 0 ⊞ eqn (con (negsuc 0)) 1 ⊞ eqn (var 3) 2) tt _ _ _ _ _ _ (whole (pos 0))
              (units_own 𝓞.ring (f n) (shaped n h) n (alone n h) (λ k d. inr (elsewhere k d))
              ⨟ add_cong (rfl _) (mul_cong (subst (λ z. whole z ~ whole (pos (own n))) (sym (own_is n h)) (rfl _)) (add_cong (before (suc n) n (omega arith)) (rfl _))))
              times_found (after n n (omega arith))

          by_place : (i ≡ n) ⊎ (i < n) → X i ~ units 𝓞.ring (f i) (S (suc n))
          by_place (inl e) = subst (λ j. X j ~ units 𝓞.ring (f j) (S (suc n))) (sym e) this
          by_place (inr m) = stage.rows i m ⨟ sy (units_same 𝓞.ring (f i) (shaped i (omega arith)) (λ k. apart k (ℕ_discrete k n)))
            where
              apart : (k : ℕ) → Dec (k ≡ n) → FreeOf k (f i) ⊎ (S (suc n) k ~ S n k)
              apart k (yes e) = inl (subst (λ j. FreeOf j (f i)) (sym e) (later i n (omega arith) m))
              apart k (no d) = inr (elsewhere k d)

    stage : (n : ℕ) → n ≤ count → Stage n
    stage zero h = record { rows = λ i l. absurd (not-suc-le-zero l); unit = λ i. bound_cong 𝓞 (sy (after 0 i (omega arith))) (rfl _) (zero_within_one 𝓞) }
    stage (suc n) h = record { rows = next_rows n h (stage n (omega arith)); unit = next_unit n h (stage n (omega arith)) }

    module _ (ε : ℕ → C) where
      -- two choices of symbols agree for row i, but for symbol i and those on which it does not depend
      agree : (i : ℕ) → i < count → ((k : ℕ) → k < i → own k ≢ 0 → ε k ~ φ k) → (k : ℕ) → k ≢ i → FreeOf k (f i) ⊎ (ε k ~ S i k)
      agree i h same k d = by_place (lt_or_ge k i)
        where
          by_place : (k < i) ⊎ (i ≤ k) → FreeOf k (f i) ⊎ (ε k ~ S i k)
          by_place (inl l) = by_own (own k) refl
            where
              by_own : (o : ℕ) → own k ≡ o → FreeOf k (f i) ⊎ (ε k ~ S i k)
              by_own zero e = inl (owned i k h (omega arith) e)
              by_own (suc o) e = inr (same k l (λ z. let y : suc o ≡ 0 = sym e ∙ z in omega arith) ⨟ sy (before i k l))
          by_place (inr l) = beyond (eq-or-lt_of_le l)
            where
              beyond : (i ≡ k) ⊎ (i < k) → FreeOf k (f i) ⊎ (ε k ~ S i k)
              beyond (inl e) = absurd (d (sym e))
              beyond (inr m) = inl (later i k h m)

      -- a row that equals its exact value has its own symbol at the found value, if the earlier ones are
      determined : (i : ℕ) → i < count → ((k : ℕ) → k < i → own k ≢ 0 → ε k ~ φ k) → X i ~ units 𝓞.ring (f i) ε → own i ≢ 0 → ε i ~ φ i
      determined i h same e d =
          cancel_factor (positive d)
          (certify 𝓞 7 (λ X U E o p q s. (X ≋ E) ∷ (E ≋ U ⊕ o ⊗ (p ⊕ neg s)) ∷ (s ≋ con (pos 0)) ∷ (o ⊗ q ≋ X ⊕ neg U) ∷ [] ⊢ (o ⊗ p ≋ o ⊗ q)) 0
          (eqn (con (negsuc 0)) 0 ⊞ eqn (con (negsuc 0)) 1 ⊞ eqn (var 3) 2 ⊞ eqn (con (negsuc 0)) 3) tt _ _ _ _ _ _ _
          e
          (units_own 𝓞.ring (f i) (shaped i h) i (alone i h) (agree i h same)
          ⨟ add_cong (rfl _) (mul_cong (subst (λ z. whole z ~ whole (pos (own i))) (sym (own_is i h)) (rfl _)) (rfl _)))
          (after i i (omega arith)) (found i h d))

      below : ((i : ℕ) → i < count → X i ~ units 𝓞.ring (f i) ε) → (n : ℕ) → n ≤ count → (k : ℕ) → k < n → own k ≢ 0 → ε k ~ φ k
      below e zero h k l = absurd (not-suc-le-zero l)
      below e (suc n) h k l = by_place (eq-or-lt_of_le (le_of_suc-le-suc l)) (below e n (omega arith))
        where
          by_place : (k ≡ n) ⊎ (k < n) → ((k : ℕ) → k < n → own k ≢ 0 → ε k ~ φ k) → own k ≢ 0 → ε k ~ φ k
          by_place (inl q) ih = subst (λ j. own j ≢ 0 → ε j ~ φ j) (sym q) (determined n (omega arith) ih (e n (omega arith)))
          by_place (inr m) ih = ih k m

      -- at the found values, then equal at every row
      at_found_equal : ((k : ℕ) → k < count → own k ≢ 0 → ε k ~ φ k) → (i : ℕ) → i < count → X i ~ units 𝓞.ring (f i) ε
      at_found_equal same i h =
          (stage count (omega arith)).rows i h ⨟ sy (units_same 𝓞.ring (f i) (shaped i h) (λ k. by_place k (lt_or_ge k count)))
        where
          by_place : (k : ℕ) → (k < count) ⊎ (count ≤ k) → FreeOf k (f i) ⊎ (ε k ~ S count k)
          by_place k (inr l) = inl (later i k h (omega arith))
          by_place k (inl l) = by_own (own k) refl
            where
              by_own : (o : ℕ) → own k ≡ o → FreeOf k (f i) ⊎ (ε k ~ S count k)
              by_own zero e = inl (owned i k h l e)
              by_own (suc o) e = inr (same k l (λ z. let y : suc o ≡ 0 = sym e ∙ z in omega arith) ⨟ sy (before count k l))

    pub at_found : AtFound count f own X φ (S count)
    at_found =
        record {
          bounded = λ n h. found_in_unit n h (stage n (omega arith));
          all_bounded = (stage count (omega arith)).unit;
          equal_there = λ i h. (stage count (omega arith)).rows i h;
          always = at_found_equal;
          only = λ ε e. below ε e count (omega arith);
        }
