-- The order of ℤ: monotone products, cancelling a positive factor, and ℤ as an ordered ring. Linear facts come from `lin_ℤ`; what is
-- said of products rests on one case split, that a product of two numbers from 0 on is from 0 on.
use mathlib.Core.Path.{◌≡◌, sym, subst}
use mathlib.Core.Logic.{◌⊎◌, inl, inr}
use mathlib.Core.Bool.{Bool, true, false, not}
use Prim.Native.Nat.{ℕ, zero, suc, ◌*◌, ◌≤◌, ◌<◌, zero-le}
use native.Mathlib.Omega.{arith}
use lib.Dec.{T, le→leb, leb→le, lt→ltb, ltb→lt}
use lib.IntN.{ℤ, pos, negsuc, neg_ℤ, ◌*ℤ◌, ◌-ℤ◌}
use lib.Signed.{lt_z, le_z, ◌≤ℤ◌, ◌<ℤ◌, lt_z_yes, lt_z_no, le_z_yes}
use Rattle.integer.proofs.Ring.{con, ◌⊕◌, ◌⊖◌, ◌⊗◌, ◌≐◌}
use Rattle.integer.proofs.IntegerRing.{ring_ℤ, ring_of_integers}
use Rattle.integer.proofs.Linear.{lin_ℤ, ◌⊴◌, ◌⊲◌, ◌≗◌, ◌⇒◌, so}
use Rattle.integer.proofs.Certificate.{OrderedRing}

-- ---- linear
pub ≤ℤ_trans : {a b c : ℤ} → a ≤ℤ b → b ≤ℤ c → a ≤ℤ c
≤ℤ_trans {a} {b} {c} = lin_ℤ 3 (λ a b c. a ⊴ b ⇒ b ⊴ c ⇒ so (a ⊴ c)) a b c (omega arith)

pub ≤ℤ_antisym : {a b : ℤ} → a ≤ℤ b → b ≤ℤ a → a ≡ b
≤ℤ_antisym {a} {b} = lin_ℤ 2 (λ a b. a ⊴ b ⇒ b ⊴ a ⇒ so (a ≗ b)) a b (omega arith)

pub ≤ℤ_of-≡ : {a b : ℤ} → a ≡ b → a ≤ℤ b
≤ℤ_of-≡ {a} {b} = lin_ℤ 2 (λ a b. a ≗ b ⇒ so (a ⊴ b)) a b (omega arith)

pub ≤ℤ_of-<ℤ : {a b : ℤ} → a <ℤ b → a ≤ℤ b
≤ℤ_of-<ℤ {a} {b} = lin_ℤ 2 (λ a b. a ⊲ b ⇒ so (a ⊴ b)) a b (omega arith)

pub difference_nonneg : {a b : ℤ} → a ≤ℤ b → pos 0 ≤ℤ (b -ℤ a)
difference_nonneg {a} {b} = lin_ℤ 2 (λ a b. a ⊴ b ⇒ so (con (pos 0) ⊴ b ⊖ a)) a b (omega arith)

pub ≤ℤ_of_difference : {a b : ℤ} → pos 0 ≤ℤ (b -ℤ a) → a ≤ℤ b
≤ℤ_of_difference {a} {b} = lin_ℤ 2 (λ a b. con (pos 0) ⊴ b ⊖ a ⇒ so (a ⊴ b)) a b (omega arith)

pub <ℤ_or-≥ℤ : (a b : ℤ) → (a <ℤ b) ⊎ (b ≤ℤ a)
<ℤ_or-≥ℤ a b = by_test (lt_z a b) (λ t. inl (lt_z_yes t)) (λ t. inr (lt_z_no t))
  where
    by_test : {X : Type 0} (c : Bool) → (T c → X) → (T (not c) → X) → X
    by_test true f g = f tt
    by_test false f g = g tt

-- ---- of naturals
pub pos-≤ℤ : {m n : ℕ} → m ≤ n → pos m ≤ℤ pos n
pos-≤ℤ {m} {n} h = le_z_yes (le→leb m n h)

pub pos-<ℤ : {m n : ℕ} → m < n → pos m <ℤ pos n
pos-<ℤ {m} {n} h = lt_z_yes (lt→ltb m n h)

pub ≤_of_pos : (m n : ℕ) → pos m ≤ℤ pos n → m ≤ n
≤_of_pos m n h = leb→le m n h.le

pub <_of_pos : (m n : ℕ) → pos m <ℤ pos n → m < n
<_of_pos m n h = ltb→lt m n h.lt

-- ---- products
pub product_nonneg : {a b : ℤ} → pos 0 ≤ℤ a → pos 0 ≤ℤ b → pos 0 ≤ℤ (a *ℤ b)
product_nonneg {a = pos m} {b = pos n} h k = pos-≤ℤ zero-le
product_nonneg {a = pos m} {b = negsuc n} h k = absurd k.le
product_nonneg {a = negsuc m} {b = b} h k = absurd h.le

pub square_nonneg : (a : ℤ) → pos 0 ≤ℤ (a *ℤ a)
square_nonneg (pos n) = pos-≤ℤ zero-le
square_nonneg (negsuc n) = pos-≤ℤ zero-le

-- ---- a positive factor cancels
pub nonneg_of_product : (x d : ℤ) → pos 0 <ℤ d → pos 0 ≤ℤ (x *ℤ d) → pos 0 ≤ℤ x
nonneg_of_product (pos a) d h k = pos-≤ℤ zero-le
nonneg_of_product (negsuc a) (pos zero) h k = absurd h.lt
nonneg_of_product (negsuc a) (pos (suc d)) h k = absurd (negative (suc a * suc d) (omega arith) k.le)
  where
    negative : (n : ℕ) → 0 < n → T (le_z (pos 0) (neg_ℤ (pos n))) → ⊥
    negative zero p t = omega arith
    negative (suc n) p t = t
nonneg_of_product (negsuc a) (negsuc d) h k = absurd h.lt

pub cancel-≤ℤ : (x y d : ℤ) → pos 0 <ℤ d → (x *ℤ d) ≤ℤ (y *ℤ d) → x ≤ℤ y
cancel-≤ℤ x y d h k =
    ≤ℤ_of_difference
    (nonneg_of_product (y -ℤ x) d h (lin_ℤ 3 (λ x y d. x ⊗ d ⊴ y ⊗ d ⇒ so (con (pos 0) ⊴ (y ⊖ x) ⊗ d)) x y d (omega arith) k))

pub cancel-≡ℤ : (x y d : ℤ) → pos 0 <ℤ d → x *ℤ d ≡ y *ℤ d → x ≡ y
cancel-≡ℤ x y d h e = ≤ℤ_antisym (cancel-≤ℤ x y d h (≤ℤ_of-≡ e)) (cancel-≤ℤ y x d h (≤ℤ_of-≡ (sym e)))

-- ---- ℤ as an ordered ring
pub nonneg_of_product_left : (x y : ℤ) → pos 0 <ℤ x → pos 0 ≤ℤ (x *ℤ y) → pos 0 ≤ℤ y
nonneg_of_product_left x y h k = nonneg_of_product y x h (subst (λ z. pos 0 ≤ℤ z) (ring_ℤ 2 (λ x y. x ⊗ y ≐ y ⊗ x) tt x y) k)

abbrev pub ordered_integers : OrderedRing
ordered_integers =
    record {
      ring = ring_of_integers;
      le = ◌≤ℤ◌;
      nonneg = λ z. pos 0 ≤ℤ z;
      nonneg_cong = λ e h. subst (λ z. pos 0 ≤ℤ z) e h;
      nonneg_add = λ {x} {y}. lin_ℤ 2 (λ x y. con (pos 0) ⊴ x ⇒ con (pos 0) ⊴ y ⇒ so (con (pos 0) ⊴ x ⊕ y)) x y (omega arith);
      nonneg_mul = product_nonneg;
      nonneg_square = square_nonneg;
      nonneg_whole = λ n. pos-≤ℤ zero-le;
      nonneg_cancel = λ {x} {y} h g. nonneg_of_product_left x y (lin_ℤ 1 (λ x. con (pos 1) ⊴ x ⇒ so (con (pos 0) ⊲ x)) x (omega arith) h) g;
      antisymmetric = ≤ℤ_antisym;
      le_of_difference = ≤ℤ_of_difference;
      difference_of_le = difference_nonneg;
    }
