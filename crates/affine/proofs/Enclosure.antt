-- Each operation's row encloses the exact result: where the operands' exact values are their forms' at symbols that all lie from -1 to 1,
-- and the row's own symbol is 0, the exact result differs from the new form by at most the own coefficient. All in units, over any ordered
-- ring; multiply and reciprocal rest on one product law, and of the rounding rule one equation is used.
use mathlib.Core.Path.{◌≡◌, sym, ◌∙◌, subst}
use mathlib.Core.Bool.{false}
use mathlib.Core.List.{[], ◌∷◌}
use mathlib.Core.Logic.{◌⊎◌, inl, inr}
use Prim.Native.Nat.{ℕ, ◌+◌, ◌≤◌, ◌<◌}
use native.Mathlib.Nat.{mul_comm}
use native.Mathlib.Omega.{arith}
use lib.IntN.{ℤ, pos, negsuc, neg_ℤ, ◌+ℤ◌, ◌*ℤ◌}
use Rattle.integer.specs.Floor.{ceiling_quotient}
use Rattle.integer.proofs.Ring.{con, ◌⊕◌, ◌⊖◌, ◌⊗◌, neg, ◌≐◌, ring}
use Rattle.integer.proofs.Certificate.{OrderedRing, certify, hyp, eqn, nat, ◌⊞◌, ◌⊠◌, ◌≼◌, ◌≋◌, ◌⊢◌}
use Rattle.integer.proofs.Order.{pos-≤ℤ}
use Rattle.integer.proofs.Floor.{ceiling_covers}
use Rattle.integer.proofs.Bound.{Bound, bound_add, bound_minus, bound_cong, bound_weaken, bound_divide, le_cong, le_trans, whole_nonneg, whole_minus, whole_le, cancel_le}
use Rattle.affine.specs.declared.Row.{Row}
use Rattle.affine.specs.declared.Range.{Range}
use Rattle.affine.specs.Limits.{symbols, paired, pairs, unit, unit_squared}
use Rattle.affine.specs.Row.{span}
use Rattle.affine.specs.Steps.{with_own, map_row}
use Rattle.affine.specs.Product.{Rounding, product_rounding, totals, dropped, product_own, product_row}
use Rattle.affine.specs.Reciprocal.{zero_in_range, distance, candidate_linear, candidate_pair, candidate, less_one, error_bound, reciprocal_own, reciprocal_row}
use Rattle.affine.proofs.Lists.{length_tabulate, at_tabulate}
use Rattle.integer.proofs.Sum.{dot_split, dot_set}
use Rattle.affine.proofs.Form.{Shaped, UsesOnly, pair_value, units, product_is_totals}
use Rattle.affine.proofs.FormBounds.{UnitSymbols, units_within_span, lost_within_dropped}
use Rattle.affine.proofs.Distance.{distance_is_end}
use Rattle.affine.proofs.Rounding.{Rounds, product_rounds}

pub candidate_shaped : (squares : ℕ) (x : Row) → Shaped (candidate squares x)
unfolding candidate_linear candidate_pair
candidate_shaped squares x = record { linear = length_tabulate symbols _; pair = length_tabulate pairs _ }

pub candidate_uses : (squares : ℕ) (x : Row) → UsesOnly squares (candidate squares x)
unfolding candidate_pair
candidate_uses squares x = record { unused = λ k h e. at_tabulate pairs _ k h ∙ rw e }

module _ (𝓞 : OrderedRing) where
  open 𝓞.ring use {Carrier as C, eq as ◌~◌, add as ◌⊹◌, mul as ◌·◌, minus, whole, eq_refl as rfl, eq_sym as sy, eq_trans as ◌⨟◌, add_cong, mul_cong, whole_add, whole_mul}
  open 𝓞 use {le}

  infix 4 ◌~◌
  infixr 3 ◌⨟◌
  infixl 6 ◌⊹◌
  infixl 7 ◌·◌
  -- a form's value, each number taken apart
  units_split : (c : ℤ) (f g : ℤ → ℤ) → ((x : ℤ) → x ≡ c *ℤ f x +ℤ g x) → (r : Row) (ε : ℕ → C)
      → units 𝓞.ring r ε ~ whole c · units 𝓞.ring (map_row f r) ε ⊹ units 𝓞.ring (map_row g r) ε
  units_split c f g h r ε =
      add_cong centre (add_cong (dot_split 𝓞.ring c f g h r.linear ε) (dot_split 𝓞.ring c f g h r.pair (pair_value 𝓞.ring ε)))
      ⨟ ring 𝓞.ring 7 (λ c q r L l P p. (c ⊗ q ⊕ r) ⊕ ((c ⊗ L ⊕ l) ⊕ (c ⊗ P ⊕ p)) ≐ c ⊗ (q ⊕ (L ⊕ P)) ⊕ (r ⊕ (l ⊕ p))) tt _ _ _ _ _ _ _
    where
      centre : whole r.centre ~ whole c · whole (f r.centre) ⊹ whole (g r.centre)
      centre = subst (λ y. whole y ~ whole c · whole (f r.centre) ⊹ whole (g r.centre)) (sym (h r.centre)) (whole_add _ _ ⨟ add_cong (whole_mul _ _) (rfl _))

  -- the own coefficient does not count where the own symbol is 0
  pub units_with_own : (own : ℕ) (v : ℤ) (r : Row) (ε : ℕ → C) → ε own ~ whole (pos 0) → units 𝓞.ring (with_own own v r) ε ~ units 𝓞.ring r ε
  units_with_own own v r ε h = add_cong (rfl _) (add_cong (dot_set 𝓞.ring r.linear own v ε h) (rfl _))

  -- a quotient rounded up is enough
  pub ceiling_enough : (n d : ℕ) → 0 < d → le (whole (pos n)) (whole (pos d) · whole (pos (ceiling_quotient n d)))
  ceiling_enough n d h =
      le_cong 𝓞 (rfl _)
      (subst (λ m. whole (pos m) ~ whole (pos d) · whole (pos (ceiling_quotient n d))) (mul_comm d (ceiling_quotient n d)) (whole_mul (pos d) (pos (ceiling_quotient n d))))
      (whole_le 𝓞 (pos-≤ℤ (ceiling_covers n d h)))

  module _ (ε : ℕ → C) (unital : UnitSymbols 𝓞 ε) (squares : ℕ) (few : squares ≤ paired) (x y : Row) (sx : Shaped x) (sy' : Shaped y) (ux : UsesOnly squares x) (uy : UsesOnly squares y) where
    -- the product law: a product of two forms is the totals' form up to the dropped part
    pub product_near_totals : Bound 𝓞 (units 𝓞.ring x ε · units 𝓞.ring y ε ⊹ minus (units 𝓞.ring (totals squares x y) ε)) (whole (pos (dropped squares x y)))
    product_near_totals =
        bound_cong 𝓞
        (certify 𝓞 3 (λ p t l. (p ≋ t ⊕ l) ∷ [] ⊢ (l ≋ p ⊖ t)) 0 (eqn (con (negsuc 0)) 0) tt _ _ _ (product_is_totals 𝓞.ring squares x y sx sy' ε few ux uy))
        (rfl _) (lost_within_dropped 𝓞 ε unital squares x y)

    -- a product's error, for any rounding rule: W is the exact product, all in units
    module _ (ρ : Rounding) (rounds : Rounds ρ) (W : C) (exact : whole (pos unit) · W ~ units 𝓞.ring x ε · units 𝓞.ring y ε) where
      rounded_product : Bound 𝓞 (W ⊹ minus (units 𝓞.ring (map_row ρ.quotient (totals squares x y)) ε))
          (whole (pos (ceiling_quotient (dropped squares x y + span (map_row ρ.remainder (totals squares x y))) unit)))
      rounded_product =
          bound_divide 𝓞 (whole_le 𝓞 (pos-≤ℤ (omega arith)))
          (bound_weaken 𝓞
          (bound_cong 𝓞
          (certify 𝓞 6 (λ u w p t q r. (u ⊗ w ≋ p) ∷ (t ≋ u ⊗ q ⊕ r) ∷ [] ⊢ ((p ⊖ t) ⊕ r ≋ u ⊗ (w ⊖ q))) 0 (eqn (con (negsuc 0)) 0 ⊞ eqn (con (negsuc 0)) 1) tt _ _ _ _ _ _
          exact (units_split (pos unit) ρ.quotient ρ.remainder rounds.parts (totals squares x y) ε))
          (sy (whole_add _ _))
          (bound_add 𝓞 product_near_totals (units_within_span 𝓞 ε unital (map_row ρ.remainder (totals squares x y)))))
          (ceiling_enough _ unit (omega arith)))

    -- multiply
    pub product_encloses : (own : ℕ) → ε own ~ whole (pos 0) → (W : C) → whole (pos unit) · W ~ units 𝓞.ring x ε · units 𝓞.ring y ε
        → Bound 𝓞 (W ⊹ minus (units 𝓞.ring (product_row squares own x y) ε)) (whole (pos (product_own squares x y)))
    unfolding product_row product_own
    product_encloses own off W exact =
        bound_cong 𝓞
        (add_cong (rfl _) (certify 𝓞 2 (λ a b. (a ≋ b) ∷ [] ⊢ (neg b ≋ neg a)) 0 (eqn (con (pos 1)) 0) tt _ _ (units_with_own own _ (map_row product_rounding.quotient (totals squares x y)) ε off)))
        (rfl _) (rounded_product product_rounding product_rounds W exact)

    -- x times y less 1, as a reciprocal's candidate y should make it 0
    pub error_within : Bound 𝓞 (units 𝓞.ring x ε · units 𝓞.ring y ε ⊹ minus (whole (pos unit_squared))) (whole (pos (error_bound squares x y)))
    unfolding error_bound
    error_within =
        bound_cong 𝓞
        (certify 𝓞 6 (λ p c m n d N. (m ≋ c ⊕ neg N) ∷ [] ⊢ ((p ⊖ (c ⊕ n)) ⊕ (m ⊕ n) ≋ p ⊖ N)) 0 (eqn (con (pos 1)) 0) tt _ _ _ _ (whole (pos 0)) _
        (whole_add (totals squares x y).centre (neg_ℤ (pos unit_squared)) ⨟ add_cong (rfl _) (whole_minus 𝓞 (pos unit_squared))))
        (certify 𝓞 3 (λ s a b. (s ≋ a ⊕ b) ∷ [] ⊢ (b ⊕ a ≋ s)) 0 (eqn (con (negsuc 0)) 0) tt _ _ _ (whole_add _ _))
        (bound_add 𝓞 product_near_totals (units_within_span 𝓞 ε unital (less_one (totals squares x y))))

  -- a quotient's error: W X = N, |X Z - N| ≤ B ≤ a o, and X lies at least a above 0
  above_zero : {W X Z N B a o : C} → W · X ~ N → Bound 𝓞 (X · Z ⊹ minus N) B → le B (a · o) → le (whole (pos 1)) a → le (whole (pos 0)) o → le a X → Bound 𝓞 (W ⊹ minus Z) o
  above_zero {W} {X} {Z} {N} {B} {a} {o} e b fits far o0 beyond =
      record {
        low =
            cancel_le 𝓞 positive
            (certify 𝓞 7 (λ W X Z N B a o. (W ⊗ X ≋ N) ∷ (X ⊗ Z ⊖ N ≼ B) ∷ (B ≼ a ⊗ o) ∷ (a ≼ X) ∷ (con (pos 0) ≼ o) ∷ [] ⊢ (X ⊗ neg o ≼ X ⊗ (W ⊖ Z))) 0
            (eqn (con (pos 1)) 0 ⊞ hyp 1 ⊞ hyp 2 ⊞ hyp 3 ⊠ hyp 4) tt W X Z N B a o e b.high fits beyond o0);
        high =
            cancel_le 𝓞 positive
            (certify 𝓞 7 (λ W X Z N B a o. (W ⊗ X ≋ N) ∷ (neg B ≼ X ⊗ Z ⊖ N) ∷ (B ≼ a ⊗ o) ∷ (a ≼ X) ∷ (con (pos 0) ≼ o) ∷ [] ⊢ (X ⊗ (W ⊖ Z) ≼ X ⊗ o)) 0
            (eqn (con (negsuc 0)) 0 ⊞ hyp 1 ⊞ hyp 2 ⊞ hyp 3 ⊠ hyp 4) tt W X Z N B a o e b.low fits beyond o0);
      }
    where
      positive : le (whole (pos 1)) X
      positive = le_trans 𝓞 far beyond

  -- the same where X lies at least a below 0
  below_zero : {W X Z N B a o : C} → W · X ~ N → Bound 𝓞 (X · Z ⊹ minus N) B → le B (a · o) → le (whole (pos 1)) a → le (whole (pos 0)) o → le X (minus a) → Bound 𝓞 (W ⊹ minus Z) o
  below_zero {W} {X} {Z} {N} {B} {a} {o} e b fits far o0 beyond =
      bound_cong 𝓞 (ring 𝓞.ring 2 (λ W Z. neg (neg W ⊖ neg Z) ≐ W ⊖ Z) tt W Z) (rfl _)
      (bound_minus 𝓞
      (above_zero (ring 𝓞.ring 2 (λ W X. neg W ⊗ neg X ≐ W ⊗ X) tt W X ⨟ e)
      (bound_cong 𝓞 (ring 𝓞.ring 3 (λ X Z N. X ⊗ Z ⊖ N ≐ neg X ⊗ neg Z ⊖ N) tt X Z N) (rfl _) b) fits far o0
      (certify 𝓞 2 (λ X a. (X ≼ neg a) ∷ [] ⊢ (a ≼ neg X)) 0 (hyp 0) tt X a beyond)))

  -- a number that lies at least a from 0
  pub Apart : C → C → Type 0
  Apart X a = le a X ⊎ le X (minus a)

  -- so its square is at least 1
  pub apart_square : {X a : C} → le (whole (pos 1)) a → Apart X a → le (whole (pos 1)) (X · X)
  unfolding Apart
  apart_square {X} {a} h (inl l) =
      certify 𝓞 2 (λ X a. (con (pos 1) ≼ a) ∷ (a ≼ X) ∷ [] ⊢ (con (pos 1) ≼ X ⊗ X)) 0 ((hyp 0 ⊞ hyp 1) ⊠ (hyp 0 ⊞ hyp 1) ⊞ nat 2 ⊠ (hyp 0 ⊞ hyp 1)) tt X a h l
  apart_square {X} {a} h (inr l) =
      certify 𝓞 2 (λ X a. (con (pos 1) ≼ a) ∷ (X ≼ neg a) ∷ [] ⊢ (con (pos 1) ≼ X ⊗ X)) 0 ((hyp 0 ⊞ hyp 1) ⊠ (hyp 0 ⊞ hyp 1) ⊞ nat 2 ⊠ (hyp 0 ⊞ hyp 1)) tt X a h l

  apart_from_zero : {W X Z N B a o : C} → W · X ~ N → Bound 𝓞 (X · Z ⊹ minus N) B → le B (a · o) → le (whole (pos 1)) a → le (whole (pos 0)) o → Apart X a → Bound 𝓞 (W ⊹ minus Z) o
  unfolding Apart
  apart_from_zero e b fits far o0 (inl h) = above_zero e b fits far o0 h
  apart_from_zero e b fits far o0 (inr h) = below_zero e b fits far o0 h

  -- a value in a range that does not hold 0 lies as far from 0 as the range does
  module _ (range : Range) (apart : zero_in_range range ≡ false) {X : C} (from : le (whole range.low) X) (to : le X (whole range.high)) where
    pub value_apart : Apart X (whole (pos (distance range)))
    unfolding Apart
    value_apart = by_side (distance_is_end range apart).1
      where
        by_side : (pos (distance range) ≡ range.low) ⊎ (neg_ℤ (pos (distance range)) ≡ range.high)
            → le (whole (pos (distance range))) X ⊎ le X (minus (whole (pos (distance range))))
        by_side (inl e) = inl (subst (λ z. le (whole z) X) (sym e) from)
        by_side (inr e) = inr (le_cong 𝓞 (rfl _) (whole_minus 𝓞 (pos (distance range))) (subst (λ z. le X (whole z)) (sym e) to))

  -- reciprocal: the form's value lies in the operand's own range, and W is the exact reciprocal, in units
  module _ (ε : ℕ → C) (unital : UnitSymbols 𝓞 ε) (x : Row) (sx : Shaped x) (range : Range) (apart : zero_in_range range ≡ false)
      (from : le (whole range.low) (units 𝓞.ring x ε)) (to : le (units 𝓞.ring x ε) (whole range.high)) where
    pub reciprocal_encloses : (squares : ℕ) → squares ≤ paired → UsesOnly squares x → (own : ℕ) → ε own ~ whole (pos 0)
        → (W : C) → W · units 𝓞.ring x ε ~ whole (pos unit_squared)
        → Bound 𝓞 (W ⊹ minus (units 𝓞.ring (reciprocal_row squares own x (distance range)) ε)) (whole (pos (reciprocal_own squares x (distance range))))
    unfolding reciprocal_row reciprocal_own
    reciprocal_encloses squares few ux own off W exact =
        bound_cong 𝓞
        (add_cong (rfl _) (certify 𝓞 2 (λ a b. (a ≋ b) ∷ [] ⊢ (neg b ≋ neg a)) 0 (eqn (con (pos 1)) 0) tt _ _ (units_with_own own _ (candidate squares x) ε off)))
        (rfl _)
        (apart_from_zero exact
        (error_within ε unital squares few x (candidate squares x) sx (candidate_shaped squares x) ux (candidate_uses squares x))
        (ceiling_enough (error_bound squares x (candidate squares x)) (distance range) positive)
        (whole_le 𝓞 (pos-≤ℤ positive))
        (whole_nonneg 𝓞 _)
        (value_apart range apart from to))
      where
        positive : 0 < distance range
        positive = (distance_is_end range apart).0
