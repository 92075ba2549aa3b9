-- Constants, sums and differences are exact, and an input's row encloses every value within its ends: the centre is rounded down, and the own
-- coefficient reaches from it to the high end. In units, over any ordered ring.
use mathlib.Core.Path.{◌≡◌, sym, ap, subst}
use mathlib.Core.List.{List, [], ◌∷◌}
use Prim.Native.Nat.{ℕ, zero, suc}
use lib.IntN.{ℤ, pos, negsuc, ◌+ℤ◌, ◌-ℤ◌, ◌*ℤ◌}
use lib.ListN.{replicate}
use Rattle.integer.proofs.Ring.{CommutativeRing, con, ◌⊕◌, ◌⊖◌, ◌⊗◌, neg, ◌≐◌, ring}
use Rattle.integer.proofs.IntegerRing.{one-*ℤ, neg_ℤ_is_product}
use Rattle.integer.proofs.Certificate.{OrderedRing, certify, hyp, eqn, ◌⊞◌, ◌≼◌, ◌≋◌, ◌⊢◌}
use Rattle.integer.proofs.Bound.{Bound, whole_le, whole_minus}
use Rattle.affine.specs.declared.Row.{Row}
use Rattle.affine.specs.Limits.{symbols, pairs}
use Rattle.affine.specs.Lists.{at, tabulate}
use Rattle.affine.specs.Steps.{constant_row, input_centre, input_row, zip_rows, add_rows, subtract_rows}
use Rattle.affine.proofs.Lists.{tabulate_cong, tabulate_at}
use Rattle.integer.proofs.Sum.{dot, dot_nil, dot_cons, dot_path}
use Rattle.affine.proofs.Dot.{dot_tabulate_add, dot_tabulate_scale}
use Rattle.affine.proofs.Form.{Shaped, pair_value, units}
use Rattle.affine.proofs.Enclosure.{units_with_own}
use Rattle.affine.proofs.InputRow.{centre_below_middle}

module _ (𝓡 : CommutativeRing) where
  open 𝓡 use {Carrier as C, eq as ◌~◌, add as ◌⊹◌, mul as ◌·◌, minus, whole, eq_refl as rfl, eq_sym as sy, eq_trans as ◌⨟◌, add_cong, mul_cong, whole_add, whole_mul}

  infix 4 ◌~◌
  infixr 3 ◌⨟◌
  infixl 6 ◌⊹◌
  infixl 7 ◌·◌
  dot_replicate : (n : ℕ) (w : ℕ → C) → dot 𝓡 (replicate n (pos 0)) w ~ whole (pos 0)
  dot_replicate zero w = dot_nil 𝓡 w
  dot_replicate (suc n) w = dot_cons 𝓡 _ _ w ⨟ add_cong (rfl _) (dot_replicate n (λ i. w (suc i))) ⨟ ring 𝓡 1 (λ x. con (pos 0) ⊗ x ⊕ con (pos 0) ≐ con (pos 0)) tt _

  pub constant_exact : (v : ℤ) (ε : ℕ → C) → units 𝓡 (constant_row v) ε ~ whole v
  constant_exact v ε =
      add_cong (rfl _) (add_cong (dot_replicate symbols ε) (dot_replicate pairs (pair_value 𝓡 ε)))
      ⨟ ring 𝓡 1 (λ v. v ⊕ (con (pos 0) ⊕ con (pos 0)) ≐ v) tt _

  -- number by number a + k b
  module _ (f : ℤ → ℤ → ℤ) (k : ℤ) (is : (a b : ℤ) → f a b ≡ a +ℤ k *ℤ b) where
    zip_dot : (n : ℕ) (a b : List ℤ) (w : ℕ → C) → lib.ListN.length a ≡ n → lib.ListN.length b ≡ n
        → dot 𝓡 (tabulate n (λ i. f (at a i) (at b i))) w ~ dot 𝓡 a w ⊹ whole k · dot 𝓡 b w
    zip_dot n a b w ha hb =
        dot_path 𝓡 w (tabulate_cong n (λ i l. is (at a i) (at b i)))
        ⨟ dot_tabulate_add 𝓡 n (at a) (λ i. k *ℤ at b i) w
        ⨟ add_cong (dot_path 𝓡 w (tabulate_at a n ha)) (dot_tabulate_scale 𝓡 n k (at b) w ⨟ mul_cong (rfl _) (dot_path 𝓡 w (tabulate_at b n hb)))

    zip_exact : (x y : Row) → Shaped x → Shaped y → (ε : ℕ → C) → units 𝓡 (zip_rows f x y) ε ~ units 𝓡 x ε ⊹ whole k · units 𝓡 y ε
    zip_exact x y sx sy' ε =
        add_cong centre (add_cong (zip_dot symbols x.linear y.linear ε sx.linear sy'.linear) (zip_dot pairs x.pair y.pair (pair_value 𝓡 ε) sx.pair sy'.pair))
        ⨟ ring 𝓡 7 (λ k c d L M P Q. (c ⊕ k ⊗ d) ⊕ ((L ⊕ k ⊗ M) ⊕ (P ⊕ k ⊗ Q)) ≐ (c ⊕ (L ⊕ P)) ⊕ k ⊗ (d ⊕ (M ⊕ Q))) tt _ _ _ _ _ _ _
      where
        centre : whole (f x.centre y.centre) ~ whole x.centre ⊹ whole k · whole y.centre
        centre =
            subst (λ z. whole z ~ whole x.centre ⊹ whole k · whole y.centre) (sym (is x.centre y.centre))
            (whole_add x.centre (k *ℤ y.centre) ⨟ add_cong (rfl _) (whole_mul k y.centre))

  pub add_exact : (x y : Row) → Shaped x → Shaped y → (ε : ℕ → C) → units 𝓡 (add_rows x y) ε ~ units 𝓡 x ε ⊹ units 𝓡 y ε
  add_exact x y sx sy' ε =
      zip_exact (λ a b. a +ℤ b) (pos 1) (λ a b. ap (λ z. a +ℤ z) (sym (one-*ℤ b))) x y sx sy' ε ⨟ ring 𝓡 2 (λ x y. x ⊕ con (pos 1) ⊗ y ≐ x ⊕ y) tt _ _

  pub subtract_exact : (x y : Row) → Shaped x → Shaped y → (ε : ℕ → C) → units 𝓡 (subtract_rows x y) ε ~ units 𝓡 x ε ⊹ minus (units 𝓡 y ε)
  subtract_exact x y sx sy' ε =
      zip_exact (λ a b. a -ℤ b) (negsuc 0) (λ a b. ap (λ z. a +ℤ z) (neg_ℤ_is_product b)) x y sx sy' ε ⨟ ring 𝓡 2 (λ x y. x ⊕ con (negsuc 0) ⊗ y ≐ x ⊖ y) tt _ _

module _ (𝓞 : OrderedRing) where
  open 𝓞.ring use {Carrier as C, eq as ◌~◌, add as ◌⊹◌, mul as ◌·◌, minus, whole, eq_refl as rfl, eq_sym as sy, eq_trans as ◌⨟◌, add_cong, mul_cong, whole_add, whole_mul}
  open 𝓞 use {le}

  infix 4 ◌~◌
  infixr 3 ◌⨟◌
  infixl 6 ◌⊹◌
  infixl 7 ◌·◌
  -- input: W is any value within the ends, in units
  pub input_encloses : (own : ℕ) (low high : ℤ) (ε : ℕ → C) → ε own ~ whole (pos 0) → (W : C) → le (whole low) W → le W (whole high)
      → Bound 𝓞 (W ⊹ minus (units 𝓞.ring (input_row own low high) ε)) (whole (high -ℤ input_centre low high))
  input_encloses own low high ε off W l h =
      record {
        low =
            certify 𝓞 7 (λ W l h c u o m. (l ≼ W) ∷ (u ≋ c) ∷ (o ≋ h ⊕ neg c) ∷ (m ≼ l ⊕ h) ∷ (m ≋ con (pos 2) ⊗ c) ∷ [] ⊢ (neg o ≼ W ⊖ u)) 0
            (hyp 0 ⊞ hyp 3 ⊞ eqn (con (negsuc 0)) 1 ⊞ eqn (con (pos 1)) 2 ⊞ eqn (con (pos 1)) 4) tt
            W (whole low) (whole high) c _ _ (whole (pos 2 *ℤ input_centre low high)) l row own_is middle (whole_mul _ _);
        high =
            certify 𝓞 5 (λ W h c u o. (W ≼ h) ∷ (u ≋ c) ∷ (o ≋ h ⊕ neg c) ∷ [] ⊢ (W ⊖ u ≼ o)) 0
            (hyp 0 ⊞ eqn (con (pos 1)) 1 ⊞ eqn (con (pos 1)) 2) tt W (whole high) c _ _ h row own_is;
      }
    where
      c : C
      c = whole (input_centre low high)

      row : units 𝓞.ring (input_row own low high) ε ~ c
      row = units_with_own 𝓞 own _ (constant_row (input_centre low high)) ε off ⨟ constant_exact 𝓞.ring (input_centre low high) ε

      own_is : whole (high -ℤ input_centre low high) ~ whole high ⊹ minus c
      own_is = whole_add high _ ⨟ add_cong (rfl _) (whole_minus 𝓞 (input_centre low high))

      middle : le (whole (pos 2 *ℤ input_centre low high)) (whole low ⊹ whole high)
      middle = Rattle.integer.proofs.Bound.le_cong 𝓞 (rfl _) (whole_add low high) (whole_le 𝓞 (centre_below_middle low high))
