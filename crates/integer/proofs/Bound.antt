-- Orders and bounds in any ordered ring: a positive factor cancels, and |x| ≤ r, said by two ends, passes through sums, products and
-- quotients. Each law is one certificate.
use mathlib.Core.Path.{sym, subst}
use mathlib.Core.List.{[], ◌∷◌}
use Prim.Native.Nat.{ℕ, suc}
use lib.IntN.{ℤ, pos, negsuc, neg_ℤ, nat_abs, ◌-ℤ◌}
use lib.Signed.{◌≤ℤ◌}
use Rattle.integer.proofs.Ring.{con, ◌⊕◌, ◌⊖◌, ◌⊗◌, neg, ◌≐◌, ring}
use Rattle.integer.proofs.IntegerRing.{neg_ℤ_is_product}
use Rattle.integer.proofs.Certificate.{OrderedRing, certify, hyp, eqn, nat, ◌⊞◌, ◌⊠◌, ◌≼◌, ◌≋◌, ◌⊢◌}
use Rattle.integer.proofs.Order.{difference_nonneg}
use Rattle.integer.proofs.Absolute.{nat_abs_of_nonneg}

module _ (𝓞 : OrderedRing) where
  open 𝓞.ring use {Carrier as C, eq as ◌~◌, add as ◌⊹◌, mul as ◌·◌, minus, whole, eq_refl as rfl, eq_sym as sy, eq_trans as ◌⨟◌, whole_add, whole_mul}
  open 𝓞 use {le, nonneg_cong, nonneg_whole, nonneg_cancel, le_of_difference, difference_of_le}

  infix 4 ◌~◌
  infixr 3 ◌⨟◌
  infixl 6 ◌⊹◌
  infixl 7 ◌·◌
  -- ---- the order
  pub le_refl : (x : C) → le x x
  le_refl = certify 𝓞 1 (λ x. [] ⊢ (x ≼ x)) 0 (nat 0) tt

  pub le_trans : {x y z : C} → le x y → le y z → le x z
  le_trans = certify 𝓞 3 (λ x y z. (x ≼ y) ∷ (y ≼ z) ∷ [] ⊢ (x ≼ z)) 0 (hyp 0 ⊞ hyp 1) tt _ _ _

  pub le_cong : {x y u v : C} → x ~ y → u ~ v → le x u → le y v
  le_cong =
      certify 𝓞 4 (λ x y u v. (x ≋ y) ∷ (u ≋ v) ∷ (x ≼ u) ∷ [] ⊢ (y ≼ v)) 0 (hyp 2 ⊞ eqn (con (pos 1)) 0 ⊞ eqn (con (negsuc 0)) 1) tt _ _ _ _

  pub le_add : {x y u v : C} → le x y → le u v → le (x ⊹ u) (y ⊹ v)
  le_add = certify 𝓞 4 (λ x y u v. (x ≼ y) ∷ (u ≼ v) ∷ [] ⊢ (x ⊕ u ≼ y ⊕ v)) 0 (hyp 0 ⊞ hyp 1) tt _ _ _ _

  -- a factor from 1 on cancels
  pub cancel_le : {x y z : C} → le (whole (pos 1)) x → le (x · y) (x · z) → le y z
  cancel_le {x} {y} {z} h k =
      le_of_difference (nonneg_cancel h (nonneg_cong (ring 𝓞.ring 3 (λ x y z. x ⊗ z ⊖ x ⊗ y ≐ x ⊗ (z ⊖ y)) tt x y z) (difference_of_le k)))

  -- ---- whole numbers in the ring
  pub whole_minus : (z : ℤ) → whole (neg_ℤ z) ~ minus (whole z)
  whole_minus z =
      subst (λ y. whole y ~ whole (negsuc 0) · whole z) (sym (neg_ℤ_is_product z)) (whole_mul (negsuc 0) z)
      ⨟ ring 𝓞.ring 1 (λ z. con (negsuc 0) ⊗ z ≐ neg z) tt (whole z)

  pub whole_nonneg : (n : ℕ) → le (whole (pos 0)) (whole (pos n))
  whole_nonneg n = le_of_difference (nonneg_cong (ring 𝓞.ring 1 (λ n. n ≐ n ⊖ con (pos 0)) tt (whole (pos n))) (nonneg_whole n))

  pub whole_le : {a b : ℤ} → a ≤ℤ b → le (whole a) (whole b)
  whole_le {a} {b} h =
      le_of_difference
      (nonneg_cong
      (subst (λ z. whole z ~ whole b ⊹ minus (whole a)) (sym (nat_abs_of_nonneg (difference_nonneg h))) (whole_add b (neg_ℤ a) ⨟ add_minus))
      (nonneg_whole (nat_abs (b -ℤ a))))
    where
      add_minus : whole b ⊹ whole (neg_ℤ a) ~ whole b ⊹ minus (whole a)
      add_minus = 𝓞.ring.add_cong (rfl _) (whole_minus a)

  -- ---- |x| ≤ r
  pub record Bound (x r : C) : Type 0 where
    pub low : le (minus r) x
    pub high : le x r

  pub bound_add : {x y r s : C} → Bound x r → Bound y s → Bound (x ⊹ y) (r ⊹ s)
  bound_add {x} {y} {r} {s} p q =
      record {
        low = certify 𝓞 4 (λ x y r s. (neg r ≼ x) ∷ (neg s ≼ y) ∷ [] ⊢ (neg (r ⊕ s) ≼ x ⊕ y)) 0 (hyp 0 ⊞ hyp 1) tt x y r s p.low q.low;
        high = certify 𝓞 4 (λ x y r s. (x ≼ r) ∷ (y ≼ s) ∷ [] ⊢ (x ⊕ y ≼ r ⊕ s)) 0 (hyp 0 ⊞ hyp 1) tt x y r s p.high q.high;
      }

  pub bound_minus : {x r : C} → Bound x r → Bound (minus x) r
  bound_minus {x} {r} p =
      record {
        low = certify 𝓞 2 (λ x r. (x ≼ r) ∷ [] ⊢ (neg r ≼ neg x)) 0 (hyp 0) tt x r p.high;
        high = certify 𝓞 2 (λ x r. (neg r ≼ x) ∷ [] ⊢ (neg x ≼ r)) 0 (hyp 0) tt x r p.low;
      }

  pub bound_mul : {x y r s : C} → Bound x r → Bound y s → Bound (x · y) (r · s)
  bound_mul {x} {y} {r} {s} p q =
      record {
        low =
            certify 𝓞 4 (λ x y r s. (neg r ≼ x) ∷ (x ≼ r) ∷ (neg s ≼ y) ∷ (y ≼ s) ∷ [] ⊢ (neg (r ⊗ s) ≼ x ⊗ y)) 1
            (hyp 0 ⊠ hyp 2 ⊞ hyp 1 ⊠ hyp 3) tt x y r s p.low p.high q.low q.high;
        high =
            certify 𝓞 4 (λ x y r s. (neg r ≼ x) ∷ (x ≼ r) ∷ (neg s ≼ y) ∷ (y ≼ s) ∷ [] ⊢ (x ⊗ y ≼ r ⊗ s)) 1
            (hyp 1 ⊠ hyp 2 ⊞ hyp 0 ⊠ hyp 3) tt x y r s p.low p.high q.low q.high;
      }

  pub bound_cong : {x y r s : C} → x ~ y → r ~ s → Bound x r → Bound y s
  bound_cong {x} {y} {r} {s} e f p =
      record {
        low =
            certify 𝓞 4 (λ x y r s. (x ≋ y) ∷ (r ≋ s) ∷ (neg r ≼ x) ∷ [] ⊢ (neg s ≼ y)) 0
            (hyp 2 ⊞ eqn (con (negsuc 0)) 0 ⊞ eqn (con (negsuc 0)) 1) tt x y r s e f p.low;
        high = le_cong e f p.high;
      }

  pub bound_weaken : {x r s : C} → Bound x r → le r s → Bound x s
  bound_weaken {x} {r} {s} p h =
      record {
        low = certify 𝓞 3 (λ x r s. (neg r ≼ x) ∷ (r ≼ s) ∷ [] ⊢ (neg s ≼ x)) 0 (hyp 0 ⊞ hyp 1) tt x r s p.low h;
        high = le_trans p.high h;
      }

  -- a factor from 1 on is divided out of both
  pub bound_divide : {d x r : C} → le (whole (pos 1)) d → Bound (d · x) (d · r) → Bound x r
  bound_divide {d} {x} {r} h p =
      record {
        low = cancel_le h (le_cong (ring 𝓞.ring 2 (λ d r. neg (d ⊗ r) ≐ d ⊗ neg r) tt d r) (rfl _) p.low);
        high = cancel_le h p.high;
      }

  -- the quotient of a number by its bound
  pub quotient_within_one : {d q x : C} → le (whole (pos 1)) d → d · q ~ x → Bound x d → Bound q (whole (pos 1))
  quotient_within_one {d} {q} {x} h e p =
      bound_divide h (bound_cong (sy e) (ring 𝓞.ring 1 (λ d. d ≐ d ⊗ con (pos 1)) tt d) p)

  pub bound_natural : (n : ℕ) → Bound (whole (pos n)) (whole (pos n))
  bound_natural n =
      record {
        low = certify 𝓞 1 (λ n. (con (pos 0) ≼ n) ∷ [] ⊢ (neg n ≼ n)) 0 (nat 2 ⊠ hyp 0) tt (whole (pos n)) (whole_nonneg n);
        high = le_refl (whole (pos n));
      }

  pub bound_whole : (z : ℤ) → Bound (whole z) (whole (pos (nat_abs z)))
  bound_whole (pos n) = bound_natural n
  bound_whole (negsuc n) = bound_cong (sy (whole_minus (pos (suc n)))) (rfl _) (bound_minus (bound_natural (suc n)))

  pub zero_within_one : Bound (whole (pos 0)) (whole (pos 1))
  zero_within_one =
      record {
        low = certify 𝓞 0 ([] ⊢ (neg (con (pos 1)) ≼ con (pos 0))) 0 (nat 1) tt;
        high = certify 𝓞 0 ([] ⊢ (con (pos 0) ≼ con (pos 1))) 0 (nat 1) tt;
      }
