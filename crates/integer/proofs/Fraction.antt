-- Fractions are an ordered field with the equality of cross products. Each ring law is an identity of ℤ after cross multiplying, each
-- law with a hypothesis a certificate; a lower part cancels, being above 0. Past this file no proof looks at upper and lower parts.
use mathlib.Core.Path.{◌≡◌, refl, sym, subst}
use mathlib.Core.Logic.{◌≢◌, ◌⊎◌, inl, inr}
use mathlib.Core.Bool.{Bool, true, false}
use mathlib.Core.List.{[], ◌∷◌}
use Prim.Native.Nat.{ℕ, zero, suc, zero-le}
use native.Mathlib.Omega.{arith}
use lib.Dec.{T, ltb}
use lib.IntN.{ℤ, pos, negsuc, ◌+ℤ◌, ◌*ℤ◌}
use lib.Signed.{lt_z, lt_z_yes, ◌≤ℤ◌, ◌<ℤ◌, clash_ℤ}
use Rattle.integer.specs.Fraction.{Fraction, ◌≈◌, ◌≤ℚ◌, ◌<ℚ◌, ◌+ℚ◌, ◌*ℚ◌, neg_ℚ, over, whole, exchange, reciprocal, ◌/ℚ◌}
use Rattle.integer.proofs.Ring.{CommutativeRing, var, con, ◌⊕◌, ◌⊗◌, neg, ◌≐◌}
use Rattle.integer.proofs.IntegerRing.{ring_ℤ}
use Rattle.integer.proofs.Linear.{lin_ℤ, ◌⊴◌, ◌⊲◌, ◌≗◌, ◌⇒◌, so}
use Rattle.integer.proofs.Certificate.{OrderedRing, certify, hyp, eqn, ◌⊞◌, ◌⊠◌, ◌≼◌, ◌≋◌, ◌⊢◌}
use Rattle.integer.proofs.Order.{<ℤ_or-≥ℤ, pos-≤ℤ, ≤ℤ_of-<ℤ, ≤ℤ_antisym, product_nonneg, square_nonneg, nonneg_of_product, nonneg_of_product_left, cancel-≡ℤ, ordered_integers}

-- ---- equality
pub ≈_refl : (x : Fraction) → x ≈ x
≈_refl x = record { cross = refl }

pub ≈_sym : {x y : Fraction} → x ≈ y → y ≈ x
≈_sym e = record { cross = sym e.cross }

pub ≈_trans : {x y z : Fraction} → x ≈ y → y ≈ z → x ≈ z
≈_trans {x} {y} {z} e f =
    record {
      cross =
          cancel-≡ℤ (x.upper *ℤ z.lower) (z.upper *ℤ x.lower) y.lower y.above
          (certify ordered_integers 6 (λ a a' b b' c c'. (a ⊗ b' ≋ b ⊗ a') ∷ (b ⊗ c' ≋ c ⊗ b') ∷ [] ⊢ (a ⊗ c' ⊗ b' ≋ c ⊗ a' ⊗ b')) 0
          (eqn (var 5) 0 ⊞ eqn (var 1) 1) tt x.upper x.lower y.upper y.lower z.upper z.lower e.cross f.cross);
    }

pub +ℚ_cong : {x y u v : Fraction} → x ≈ y → u ≈ v → x +ℚ u ≈ y +ℚ v
unfolding ◌+ℚ◌
+ℚ_cong {x} {y} {u} {v} e f =
    record {
      cross =
          certify ordered_integers 8
          (λ a a' b b' c c' d d'. (a ⊗ b' ≋ b ⊗ a') ∷ (c ⊗ d' ≋ d ⊗ c') ∷ [] ⊢ ((a ⊗ c' ⊕ c ⊗ a') ⊗ (b' ⊗ d') ≋ (b ⊗ d' ⊕ d ⊗ b') ⊗ (a' ⊗ c'))) 0
          (eqn (var 5 ⊗ var 7) 0 ⊞ eqn (var 1 ⊗ var 3) 1) tt
          x.upper x.lower y.upper y.lower u.upper u.lower v.upper v.lower e.cross f.cross;
    }

pub *ℚ_cong : {x y u v : Fraction} → x ≈ y → u ≈ v → x *ℚ u ≈ y *ℚ v
unfolding ◌*ℚ◌
*ℚ_cong {x} {y} {u} {v} e f =
    record {
      cross =
          certify ordered_integers 8
          (λ a a' b b' c c' d d'. (a ⊗ b' ≋ b ⊗ a') ∷ (c ⊗ d' ≋ d ⊗ c') ∷ [] ⊢ ((a ⊗ c) ⊗ (b' ⊗ d') ≋ (b ⊗ d) ⊗ (a' ⊗ c'))) 0
          (eqn (var 4 ⊗ var 7) 0 ⊞ eqn (var 2 ⊗ var 1) 1) tt
          x.upper x.lower y.upper y.lower u.upper u.lower v.upper v.lower e.cross f.cross;
    }

-- ---- the ring laws
pub +ℚ_assoc : (x y z : Fraction) → x +ℚ y +ℚ z ≈ x +ℚ (y +ℚ z)
unfolding ◌+ℚ◌
+ℚ_assoc x y z =
    record {
      cross =
          ring_ℤ 6
          (λ a a' b b' c c'. ((a ⊗ b' ⊕ b ⊗ a') ⊗ c' ⊕ c ⊗ (a' ⊗ b')) ⊗ (a' ⊗ (b' ⊗ c')) ≐ (a ⊗ (b' ⊗ c') ⊕ (b ⊗ c' ⊕ c ⊗ b') ⊗ a') ⊗ (a' ⊗ b' ⊗ c')) tt
          x.upper x.lower y.upper y.lower z.upper z.lower;
    }

pub +ℚ_comm : (x y : Fraction) → x +ℚ y ≈ y +ℚ x
unfolding ◌+ℚ◌
+ℚ_comm x y =
    record {
      cross =
          ring_ℤ 4 (λ a a' b b'. (a ⊗ b' ⊕ b ⊗ a') ⊗ (b' ⊗ a') ≐ (b ⊗ a' ⊕ a ⊗ b') ⊗ (a' ⊗ b')) tt x.upper x.lower y.upper y.lower;
    }

pub *ℚ_assoc : (x y z : Fraction) → x *ℚ y *ℚ z ≈ x *ℚ (y *ℚ z)
unfolding ◌*ℚ◌
*ℚ_assoc x y z =
    record {
      cross =
          ring_ℤ 6 (λ a a' b b' c c'. (a ⊗ b ⊗ c) ⊗ (a' ⊗ (b' ⊗ c')) ≐ (a ⊗ (b ⊗ c)) ⊗ (a' ⊗ b' ⊗ c')) tt
          x.upper x.lower y.upper y.lower z.upper z.lower;
    }

pub *ℚ_comm : (x y : Fraction) → x *ℚ y ≈ y *ℚ x
unfolding ◌*ℚ◌
*ℚ_comm x y =
    record { cross = ring_ℤ 4 (λ a a' b b'. (a ⊗ b) ⊗ (b' ⊗ a') ≐ (b ⊗ a) ⊗ (a' ⊗ b')) tt x.upper x.lower y.upper y.lower }

pub *ℚ_distributive : (x y z : Fraction) → (x +ℚ y) *ℚ z ≈ x *ℚ z +ℚ y *ℚ z
unfolding ◌+ℚ◌ ◌*ℚ◌
*ℚ_distributive x y z =
    record {
      cross =
          ring_ℤ 6
          (λ a a' b b' c c'. ((a ⊗ b' ⊕ b ⊗ a') ⊗ c) ⊗ ((a' ⊗ c') ⊗ (b' ⊗ c')) ≐ ((a ⊗ c) ⊗ (b' ⊗ c') ⊕ (b ⊗ c) ⊗ (a' ⊗ c')) ⊗ (a' ⊗ b' ⊗ c')) tt
          x.upper x.lower y.upper y.lower z.upper z.lower;
    }

pub zero-+ℚ : (x : Fraction) → whole (pos 0) +ℚ x ≈ x
unfolding ◌+ℚ◌
zero-+ℚ x =
    record { cross = ring_ℤ 2 (λ a a'. (con (pos 0) ⊗ a' ⊕ a ⊗ con (pos 1)) ⊗ a' ≐ a ⊗ (con (pos 1) ⊗ a')) tt x.upper x.lower }

pub zero-*ℚ : (x : Fraction) → whole (pos 0) *ℚ x ≈ whole (pos 0)
unfolding ◌*ℚ◌
zero-*ℚ x =
    record { cross = ring_ℤ 2 (λ a a'. (con (pos 0) ⊗ a) ⊗ con (pos 1) ≐ con (pos 0) ⊗ (con (pos 1) ⊗ a')) tt x.upper x.lower }

pub one-*ℚ : (x : Fraction) → whole (pos 1) *ℚ x ≈ x
unfolding ◌*ℚ◌
one-*ℚ x = record { cross = ring_ℤ 2 (λ a a'. (con (pos 1) ⊗ a) ⊗ a' ≐ a ⊗ (con (pos 1) ⊗ a')) tt x.upper x.lower }

pub neg_ℚ_is_product : (x : Fraction) → neg_ℚ x ≈ whole (negsuc 0) *ℚ x
unfolding ◌*ℚ◌ neg_ℚ
neg_ℚ_is_product x =
    record { cross = ring_ℤ 2 (λ a a'. neg a ⊗ (con (pos 1) ⊗ a') ≐ (con (negsuc 0) ⊗ a) ⊗ a') tt x.upper x.lower }

pub whole-+ℚ : (a b : ℤ) → whole (a +ℤ b) ≈ whole a +ℚ whole b
unfolding ◌+ℚ◌
whole-+ℚ a b =
    record { cross = ring_ℤ 2 (λ a b. (a ⊕ b) ⊗ con (pos 1) ≐ (a ⊗ con (pos 1) ⊕ b ⊗ con (pos 1)) ⊗ con (pos 1)) tt a b }

pub whole-*ℚ : (a b : ℤ) → whole (a *ℤ b) ≈ whole a *ℚ whole b
unfolding ◌*ℚ◌
whole-*ℚ a b = record { cross = refl }

abbrev pub ring_of_fractions : CommutativeRing
ring_of_fractions =
    record {
      Carrier = Fraction;
      eq = ◌≈◌;
      add = ◌+ℚ◌;
      mul = ◌*ℚ◌;
      minus = neg_ℚ;
      whole = whole;
      eq_refl = ≈_refl;
      eq_sym = ≈_sym;
      eq_trans = ≈_trans;
      add_cong = +ℚ_cong;
      mul_cong = *ℚ_cong;
      add_assoc = +ℚ_assoc;
      add_comm = +ℚ_comm;
      mul_assoc = *ℚ_assoc;
      mul_comm = *ℚ_comm;
      distributive = *ℚ_distributive;
      zero-add = zero-+ℚ;
      zero_mul = zero-*ℚ;
      one_mul = one-*ℚ;
      minus_mul = neg_ℚ_is_product;
      whole_add = whole-+ℚ;
      whole_mul = whole-*ℚ;
    }

-- ---- the order: a fraction is from 0 on where its upper part is
pub nonneg_ℚ_cong : {x y : Fraction} → x ≈ y → pos 0 ≤ℤ x.upper → pos 0 ≤ℤ y.upper
nonneg_ℚ_cong {x} {y} e h =
    nonneg_of_product y.upper x.lower x.above (subst (λ z. pos 0 ≤ℤ z) e.cross (product_nonneg h (≤ℤ_of-<ℤ y.above)))

pub nonneg_ℚ_add : (x y : Fraction) → pos 0 ≤ℤ x.upper → pos 0 ≤ℤ y.upper → pos 0 ≤ℤ (x +ℚ y).upper
unfolding ◌+ℚ◌
nonneg_ℚ_add x y h k =
    certify ordered_integers 4
    (λ a a' b b'. (con (pos 0) ≼ a) ∷ (con (pos 0) ≼ b) ∷ (con (pos 0) ≼ a') ∷ (con (pos 0) ≼ b') ∷ [] ⊢ (con (pos 0) ≼ a ⊗ b' ⊕ b ⊗ a')) 0
    (hyp 0 ⊠ hyp 3 ⊞ hyp 1 ⊠ hyp 2) tt x.upper x.lower y.upper y.lower h k (≤ℤ_of-<ℤ x.above) (≤ℤ_of-<ℤ y.above)

pub nonneg_ℚ_mul : (x y : Fraction) → pos 0 ≤ℤ x.upper → pos 0 ≤ℤ y.upper → pos 0 ≤ℤ (x *ℚ y).upper
unfolding ◌*ℚ◌
nonneg_ℚ_mul x y h k = product_nonneg h k

pub nonneg_ℚ_square : (x : Fraction) → pos 0 ≤ℤ (x *ℚ x).upper
unfolding ◌*ℚ◌
nonneg_ℚ_square x = square_nonneg x.upper

pub nonneg_ℚ_cancel : (x y : Fraction) → whole (pos 1) ≤ℚ x → pos 0 ≤ℤ (x *ℚ y).upper → pos 0 ≤ℤ y.upper
unfolding ◌*ℚ◌
nonneg_ℚ_cancel x y h k =
    nonneg_of_product_left x.upper y.upper
    (lin_ℤ 2 (λ a a'. con (pos 1) ⊗ a' ⊴ a ⊗ con (pos 1) ⇒ con (pos 0) ⊲ a' ⇒ so (con (pos 0) ⊲ a)) x.upper x.lower (omega arith) h.cross x.above)
    k

pub ≤ℚ_antisym : {x y : Fraction} → x ≤ℚ y → y ≤ℚ x → x ≈ y
≤ℚ_antisym h k = record { cross = ≤ℤ_antisym h.cross k.cross }

pub ≤ℚ_of_difference : {x y : Fraction} → pos 0 ≤ℤ (y +ℚ neg_ℚ x).upper → x ≤ℚ y
unfolding ◌+ℚ◌ neg_ℚ
≤ℚ_of_difference {x} {y} h =
    record {
      cross =
          certify ordered_integers 4 (λ a a' b b'. (con (pos 0) ≼ b ⊗ a' ⊕ neg a ⊗ b') ∷ [] ⊢ (a ⊗ b' ≼ b ⊗ a')) 0 (hyp 0) tt
          x.upper x.lower y.upper y.lower h;
    }

pub difference_of-≤ℚ : {x y : Fraction} → x ≤ℚ y → pos 0 ≤ℤ (y +ℚ neg_ℚ x).upper
unfolding ◌+ℚ◌ neg_ℚ
difference_of-≤ℚ {x} {y} h =
    certify ordered_integers 4 (λ a a' b b'. (a ⊗ b' ≼ b ⊗ a') ∷ [] ⊢ (con (pos 0) ≼ b ⊗ a' ⊕ neg a ⊗ b')) 0 (hyp 0) tt
    x.upper x.lower y.upper y.lower h.cross

abbrev pub ordered_fractions : OrderedRing
ordered_fractions =
    record {
      ring = ring_of_fractions;
      le = ◌≤ℚ◌;
      nonneg = λ x. pos 0 ≤ℤ x.upper;
      nonneg_cong = nonneg_ℚ_cong;
      nonneg_add = λ {x} {y} h k. nonneg_ℚ_add x y h k;
      nonneg_mul = λ {x} {y} h k. nonneg_ℚ_mul x y h k;
      nonneg_square = nonneg_ℚ_square;
      nonneg_whole = λ n. pos-≤ℤ zero-le;
      nonneg_cancel = λ {x} {y} h k. nonneg_ℚ_cancel x y h k;
      antisymmetric = ≤ℚ_antisym;
      le_of_difference = ≤ℚ_of_difference;
      difference_of_le = difference_of-≤ℚ;
    }

-- ---- below
pub ≤ℚ_of-<ℚ : {x y : Fraction} → x <ℚ y → x ≤ℚ y
≤ℚ_of-<ℚ h = record { cross = ≤ℤ_of-<ℤ h.cross }

pub below? : (x y : Fraction) → Dec (x <ℚ y)
below? x y = by_test (lt_z (x.upper *ℤ y.lower) (y.upper *ℤ x.lower)) refl
  where
    by_test : (b : Bool) → lt_z (x.upper *ℤ y.lower) (y.upper *ℤ x.lower) ≡ b → Dec (x <ℚ y)
    by_test true e = yes (record { cross = lt_z_yes (subst T (sym e) tt) })
    by_test false e = no (λ h. subst T e h.cross.lt)

pub not_below_of-≤ℚ : {x y : Fraction} → y ≤ℚ x → ¬ (x <ℚ y)
not_below_of-≤ℚ h k = clash_ℤ k.cross h.cross

pub ≤ℚ_of_not_below : {x y : Fraction} → ¬ (x <ℚ y) → y ≤ℚ x
≤ℚ_of_not_below {x} {y} n = by_cases (<ℤ_or-≥ℤ (x.upper *ℤ y.lower) (y.upper *ℤ x.lower))
  where
    by_cases : ((x.upper *ℤ y.lower) <ℤ (y.upper *ℤ x.lower)) ⊎ ((y.upper *ℤ x.lower) ≤ℤ (x.upper *ℤ y.lower)) → y ≤ℚ x
    by_cases (inl h) = absurd (n (record { cross = h }))
    by_cases (inr h) = record { cross = h }

-- whole numbers that are in order as fractions are so by themselves
pub ≤ℤ_of_whole : (a b : ℤ) → whole a ≤ℚ whole b → a ≤ℤ b
≤ℤ_of_whole a b h = lin_ℤ 2 (λ a b. a ⊗ con (pos 1) ⊴ b ⊗ con (pos 1) ⇒ so (a ⊴ b)) a b (omega arith) h.cross

-- ---- 0 is what has the upper part 0
pub ≈_zero_of_upper : {x : Fraction} → x.upper ≡ pos 0 → x ≈ whole (pos 0)
≈_zero_of_upper {x} e = record { cross = lin_ℤ 2 (λ a a'. a ≗ con (pos 0) ⇒ so (a ⊗ con (pos 1) ≗ con (pos 0) ⊗ a')) x.upper x.lower (omega arith) e }

-- ---- reciprocal and quotient
times_exchange : (x : Fraction) (u : ℤ) → x.upper ≡ u → u ≢ pos 0 → x *ℚ exchange u x.lower ≈ whole (pos 1)
unfolding ◌*ℚ◌ exchange
times_exchange x (pos zero) e n = absurd (n refl)
times_exchange x (pos (suc m)) e n =
    record { cross = certify ordered_integers 3 (λ u d m. (u ≋ m) ∷ [] ⊢ (u ⊗ d ⊗ con (pos 1) ≋ con (pos 1) ⊗ (d ⊗ m))) 0 (eqn (var 1) 0) tt x.upper x.lower (pos (suc m)) e }
times_exchange x (negsuc m) e n =
    record { cross = certify ordered_integers 3 (λ u d m. (u ≋ neg m) ∷ [] ⊢ (u ⊗ neg d ⊗ con (pos 1) ≋ con (pos 1) ⊗ (d ⊗ m))) 0 (eqn (neg (var 1)) 0) tt x.upper x.lower (pos (suc m)) e }

pub times_reciprocal : (x : Fraction) → x.upper ≢ pos 0 → x *ℚ reciprocal x ≈ whole (pos 1)
unfolding reciprocal
times_reciprocal x n = times_exchange x x.upper refl n

pub times_quotient : (x y : Fraction) → y.upper ≢ pos 0 → y *ℚ (x /ℚ y) ≈ x
times_quotient x y n =
    certify ordered_fractions 3 (λ x y r. (y ⊗ r ≋ con (pos 1)) ∷ [] ⊢ (y ⊗ (x ⊗ r) ≋ x)) 0 (eqn (var 0) 0) tt x y (reciprocal y) (times_reciprocal y n)

-- a whole number over d
pub times_over : (z : ℤ) (d : ℕ) (t : T (ltb 0 d)) → whole (pos d) *ℚ over z d t ≈ whole z
unfolding ◌*ℚ◌
times_over z d t = record { cross = ring_ℤ 2 (λ z d. (d ⊗ z) ⊗ con (pos 1) ≐ z ⊗ (con (pos 1) ⊗ d)) tt z (pos d) }
