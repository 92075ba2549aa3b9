-- The range of a row holds its form's value where every symbol lies from -1 to 1: each term is at most its reach, and the low end is the
-- high end of the terms with their signs turned. Over any ordered ring.
use mathlib.Core.Path.{◌≡◌, refl, subst}
use mathlib.Core.Bool.{Bool, true, false}
use mathlib.Core.List.{List, [], ◌∷◌}
use Prim.Native.Nat.{ℕ, zero, suc, ◌+◌, ◌<◌}
use native.Mathlib.Omega.{arith}
use borrow.Author.Tests.{eqb-true}
use lib.IntN.{ℤ, pos, negsuc, neg_ℤ}
use lib.ListN.{length}
use Rattle.integer.specs.Sum.{sum_abs}
use Rattle.integer.proofs.Ring.{var, con, ◌⊕◌, ◌⊗◌, neg, ◌≐◌, ring}
use Rattle.integer.proofs.Certificate.{OrderedRing, certify, hyp, eqn, sqr, ◌⊞◌, ◌⊠◌, ◌≼◌, ◌≋◌, ◌⊢◌}
use Rattle.integer.proofs.Bound.{Bound, bound_mul, bound_whole, whole_nonneg, whole_minus, le_add, le_cong, le_refl}
use Rattle.affine.specs.declared.Row.{Row}
use Rattle.affine.specs.Limits.{pairs}
use Rattle.affine.specs.Lists.{at, tabulate, sum}
use Rattle.affine.specs.PairOrder.{first_of, second_of, is_square}
use Rattle.affine.specs.Row.{pair_below, pair_above, pairs_below, pairs_above, low, high}
use Rattle.integer.proofs.Sum.{dot, dot_nil, dot_cons, dot_scale_values, dot_within}
use Rattle.affine.proofs.Form.{Shaped, pair_value, units}
use Rattle.affine.proofs.FormBounds.{UnitSymbols, pair_value_within}

-- below is above with the sign turned
pair_below_is_above : (b : Bool) (z : ℤ) → pair_below b z ≡ pair_above b (neg_ℤ z)
unfolding pair_below pair_above
pair_below_is_above true (pos zero) = refl
pair_below_is_above true (pos (suc n)) = refl
pair_below_is_above true (negsuc n) = refl
pair_below_is_above false (pos zero) = refl
pair_below_is_above false (pos (suc n)) = refl
pair_below_is_above false (negsuc n) = refl

module _ (𝓞 : OrderedRing) where
  open 𝓞.ring use {Carrier as C, eq as ◌~◌, add as ◌⊹◌, mul as ◌·◌, minus, whole, eq_refl as rfl, eq_sym as sy, eq_trans as ◌⨟◌, add_cong, mul_cong, whole_add}
  open 𝓞 use {le}

  infix 4 ◌~◌
  infixr 3 ◌⨟◌
  infixl 6 ◌⊹◌
  infixl 7 ◌·◌
  -- a term is at most its reach; of a pair (i,i) the value is not negative
  term_high : (b : Bool) (z : ℤ) (w : C) → (b ≡ true → le (whole (pos 0)) w) → Bound 𝓞 w (whole (pos 1)) → le (whole z · w) (whole (pos (pair_above b z)))
  unfolding pair_above
  term_high true (pos n) w s h =
      certify 𝓞 2 (λ n w. (con (pos 0) ≼ n) ∷ (w ≼ con (pos 1)) ∷ [] ⊢ (n ⊗ w ≼ n)) 0 (hyp 0 ⊠ hyp 1) tt (whole (pos n)) w (whole_nonneg 𝓞 n) h.high
  term_high true (negsuc n) w s h =
      le_cong 𝓞 (mul_cong (sy (whole_minus 𝓞 (pos (suc n)))) (rfl _)) (rfl _)
      (certify 𝓞 2 (λ n w. (con (pos 0) ≼ n) ∷ (con (pos 0) ≼ w) ∷ [] ⊢ (neg n ⊗ w ≼ con (pos 0))) 0 (hyp 0 ⊠ hyp 1) tt (whole (pos (suc n))) w (whole_nonneg 𝓞 (suc n)) (s refl))
  term_high false z w s h =
      le_cong 𝓞 (rfl _) (ring 𝓞.ring 1 (λ n. n ⊗ con (pos 1) ≐ n) tt _) (bound_mul 𝓞 (bound_whole 𝓞 z) h).high

  dot_high : (n : ℕ) (a : List ℤ) (w : ℕ → C) (f : ℕ → ℕ) → length a ≡ n → ((k : ℕ) → k < n → le (whole (at a k) · w k) (whole (pos (f k))))
      → le (dot 𝓞.ring a w) (whole (pos (sum (tabulate n f))))
  unfolding tabulate sum
  dot_high zero [] w f e h = le_cong 𝓞 (sy (dot_nil 𝓞.ring w)) (rfl _) (le_refl 𝓞 _)
  dot_high zero (x ∷ a) w f e h = absurd (omega arith)
  dot_high (suc n) [] w f e h = absurd (omega arith)
  dot_high (suc n) (x ∷ a) w f e h =
      le_cong 𝓞 (sy (dot_cons 𝓞.ring x a w)) (sy (whole_add (pos (f 0)) (pos (sum (tabulate n (λ i. f (suc i)))))))
      (le_add 𝓞 (h 0 (omega arith)) (dot_high n a (λ i. w (suc i)) (λ i. f (suc i)) (omega arith) (λ k l. h (suc k) (omega arith))))

  module _ (ε : ℕ → C) (unit : UnitSymbols 𝓞 ε) (r : Row) (shape : Shaped r) where
    square_nonneg : (k : ℕ) → is_square k ≡ true → le (whole (pos 0)) (pair_value 𝓞.ring ε k)
    square_nonneg k e =
        subst (λ j. le (whole (pos 0)) (ε (first_of k) · ε j)) (eqb-true (first_of k) (second_of k) e)
        (certify 𝓞 1 (λ e. [] ⊢ (con (pos 0) ≼ e ⊗ e)) 0 (sqr (var 0)) tt (ε (first_of k)))

    pairs_high : le (dot 𝓞.ring r.pair (pair_value 𝓞.ring ε)) (whole (pos (pairs_above r.pair)))
    unfolding pairs_above
    pairs_high =
        dot_high pairs r.pair (pair_value 𝓞.ring ε) _ shape.pair
        (λ k h. term_high (is_square k) (at r.pair k) (pair_value 𝓞.ring ε k) (square_nonneg k) (pair_value_within 𝓞 ε unit k))

    turned : (k : ℕ) → whole (neg_ℤ (at r.pair k)) · pair_value 𝓞.ring ε k ~ whole (at r.pair k) · (whole (negsuc 0) · pair_value 𝓞.ring ε k)
    turned k = mul_cong (whole_minus 𝓞 _) (rfl _) ⨟ ring 𝓞.ring 2 (λ z w. neg z ⊗ w ≐ z ⊗ (con (negsuc 0) ⊗ w)) tt _ _

    pairs_low : le (minus (whole (pos (pairs_below r.pair)))) (dot 𝓞.ring r.pair (pair_value 𝓞.ring ε))
    unfolding pairs_below
    pairs_low =
        certify 𝓞 3 (λ s d m. (m ≋ con (negsuc 0) ⊗ d) ∷ (m ≼ s) ∷ [] ⊢ (neg s ≼ d)) 0 (hyp 1 ⊞ eqn (con (pos 1)) 0) tt _ _ _
        (dot_scale_values 𝓞.ring (whole (negsuc 0)) r.pair (pair_value 𝓞.ring ε))
        (dot_high pairs r.pair (λ k. whole (negsuc 0) · pair_value 𝓞.ring ε k) _ shape.pair
        (λ k h. le_cong 𝓞 (turned k) (subst (λ n. whole (pos n) ~ whole (pos (pair_below (is_square k) (at r.pair k)))) (pair_below_is_above (is_square k) (at r.pair k)) (rfl _))
        (term_high (is_square k) (neg_ℤ (at r.pair k)) (pair_value 𝓞.ring ε k) (square_nonneg k) (pair_value_within 𝓞 ε unit k))))

    pub high_holds_value : le (units 𝓞.ring r ε) (whole (high r))
    unfolding high
    high_holds_value =
        le_cong 𝓞 (rfl _) (sy (whole_add r.centre _ ⨟ add_cong (rfl _) (whole_add _ _)))
        (le_add 𝓞 (le_refl 𝓞 _) (le_add 𝓞 (dot_within 𝓞 r.linear ε unit).high pairs_high))

    pub low_holds_value : le (whole (low r)) (units 𝓞.ring r ε)
    unfolding low
    low_holds_value =
        le_cong 𝓞
        (sy (whole_add r.centre _ ⨟ add_cong (rfl _) (whole_minus 𝓞 _ ⨟ minus_sum)))
        (rfl _)
        (le_add 𝓞 (le_refl 𝓞 _) (le_add 𝓞 (dot_within 𝓞 r.linear ε unit).low pairs_low))
      where
        minus_sum : minus (whole (pos (sum_abs r.linear + pairs_below r.pair))) ~ minus (whole (pos (sum_abs r.linear))) ⊹ minus (whole (pos (pairs_below r.pair)))
        minus_sum =
            certify 𝓞 3 (λ s a b. (s ≋ a ⊕ b) ∷ [] ⊢ (neg s ≋ neg a ⊕ neg b)) 0 (eqn (con (negsuc 0)) 0) tt _ _ _ (whole_add _ _)
