-- The whole numbers are a commutative ring. Distributivity and associativity, which the library lacks, go by induction over successor
-- and predecessor. `ring_ℤ` is the solver at ℤ.
use mathlib.Core.Path.{◌≡◌, refl, sym, ◌∙◌, ap, ap₂}
use Prim.Native.Nat.{ℕ, zero, suc}
use lib.IntN.{ℤ, pos, negsuc, neg_ℤ, ◌+ℤ◌, ◌*ℤ◌, ◌-ℤ◌, suc_ℤ, pred_ℤ, suc_ℤ-*ℤ, pred_ℤ-*ℤ, zero-*ℤ, +ℤ_assoc, +ℤ_comm, *ℤ_comm, +ℤ_idl, suc_ℤ-+ℤ, pred_ℤ-+ℤ, neg_ℤ-+ℤ, neg_ℤ-suc_ℤ, neg_ℤ-pred_ℤ, neg_ℤ-neg_ℤ}
use Rattle.integer.proofs.Ring.{CommutativeRing, ◌⊖◌, Equation, left, right, Open, close, ForAll, Vanishes, value, ring}

pub induction {ℓ} : (P : ℤ → Type ℓ) → P (pos zero) → ((k : ℤ) → P k → P (suc_ℤ k)) → ((k : ℤ) → P k → P (pred_ℤ k)) → (k : ℤ) → P k
induction P z s p (pos zero) = z
induction P z s p (pos (suc n)) = s (pos n) (induction P z s p (pos n))
induction P z s p (negsuc zero) = p (pos zero) z
induction P z s p (negsuc (suc n)) = p (negsuc n) (induction P z s p (negsuc n))

pub *ℤ_distributive : (a b c : ℤ) → (a +ℤ b) *ℤ c ≡ a *ℤ c +ℤ b *ℤ c
*ℤ_distributive a b c =
    induction (λ a. (a +ℤ b) *ℤ c ≡ a *ℤ c +ℤ b *ℤ c)
    (ap (λ x. x *ℤ c) (+ℤ_idl b) ∙ sym (ap (λ x. x +ℤ b *ℤ c) (zero-*ℤ c) ∙ +ℤ_idl (b *ℤ c)))
    (λ k h.
    ap (λ x. x *ℤ c) (suc_ℤ-+ℤ k b)
    ∙ suc_ℤ-*ℤ (k +ℤ b) c
    ∙ ap (λ x. x +ℤ c) h
    ∙ swap (k *ℤ c) (b *ℤ c) c
    ∙ ap (λ x. x +ℤ b *ℤ c) (sym (suc_ℤ-*ℤ k c)))
    (λ k h.
    ap (λ x. x *ℤ c) (pred_ℤ-+ℤ k b)
    ∙ pred_ℤ-*ℤ (k +ℤ b) c
    ∙ ap (λ x. x -ℤ c) h
    ∙ swap (k *ℤ c) (b *ℤ c) (neg_ℤ c)
    ∙ ap (λ x. x +ℤ b *ℤ c) (sym (pred_ℤ-*ℤ k c)))
    a
  where
    swap : (x y z : ℤ) → x +ℤ y +ℤ z ≡ x +ℤ z +ℤ y
    swap x y z = +ℤ_assoc x y z ∙ ap (λ w. x +ℤ w) (+ℤ_comm y z) ∙ sym (+ℤ_assoc x z y)

pub neg_ℤ_is_product : (a : ℤ) → neg_ℤ a ≡ negsuc zero *ℤ a
neg_ℤ_is_product a = sym (pred_ℤ-*ℤ (pos zero) a ∙ ap (λ x. x -ℤ a) (zero-*ℤ a) ∙ +ℤ_idl (neg_ℤ a))

pub one-*ℤ : (a : ℤ) → pos 1 *ℤ a ≡ a
one-*ℤ a = suc_ℤ-*ℤ (pos zero) a ∙ ap (λ x. x +ℤ a) (zero-*ℤ a) ∙ +ℤ_idl a

neg_ℤ-*ℤ : (x y : ℤ) → neg_ℤ x *ℤ y ≡ neg_ℤ (x *ℤ y)
neg_ℤ-*ℤ x y =
    induction (λ x. neg_ℤ x *ℤ y ≡ neg_ℤ (x *ℤ y))
    (zero-*ℤ y ∙ sym (ap neg_ℤ (zero-*ℤ y)))
    (λ k h.
    ap (λ z. z *ℤ y) (neg_ℤ-suc_ℤ k)
    ∙ pred_ℤ-*ℤ (neg_ℤ k) y
    ∙ ap (λ z. z -ℤ y) h
    ∙ sym (neg_ℤ-+ℤ (k *ℤ y) y)
    ∙ ap neg_ℤ (sym (suc_ℤ-*ℤ k y)))
    (λ k h.
    ap (λ z. z *ℤ y) (neg_ℤ-pred_ℤ k)
    ∙ suc_ℤ-*ℤ (neg_ℤ k) y
    ∙ ap (λ z. z +ℤ y) h
    ∙ sym (neg_ℤ-+ℤ (k *ℤ y) (neg_ℤ y) ∙ ap (λ z. neg_ℤ (k *ℤ y) +ℤ z) (neg_ℤ-neg_ℤ y))
    ∙ ap neg_ℤ (sym (pred_ℤ-*ℤ k y)))
    x

pub *ℤ_assoc : (a b c : ℤ) → (a *ℤ b) *ℤ c ≡ a *ℤ (b *ℤ c)
*ℤ_assoc a b c =
    induction (λ a. (a *ℤ b) *ℤ c ≡ a *ℤ (b *ℤ c))
    (ap (λ x. x *ℤ c) (zero-*ℤ b) ∙ zero-*ℤ c ∙ sym (zero-*ℤ (b *ℤ c)))
    (λ k h.
    ap (λ x. x *ℤ c) (suc_ℤ-*ℤ k b)
    ∙ *ℤ_distributive (k *ℤ b) b c
    ∙ ap (λ x. x +ℤ b *ℤ c) h
    ∙ sym (suc_ℤ-*ℤ k (b *ℤ c)))
    (λ k h.
    ap (λ x. x *ℤ c) (pred_ℤ-*ℤ k b)
    ∙ *ℤ_distributive (k *ℤ b) (neg_ℤ b) c
    ∙ ap₂ (λ x y. x +ℤ y) h (neg_ℤ-*ℤ b c)
    ∙ sym (pred_ℤ-*ℤ k (b *ℤ c)))
    a

abbrev pub ring_of_integers : CommutativeRing
ring_of_integers =
    record {
      Carrier = ℤ;
      eq = λ a b. a ≡ b;
      add = λ a b. a +ℤ b;
      mul = λ a b. a *ℤ b;
      minus = neg_ℤ;
      whole = λ z. z;
      eq_refl = λ a. refl;
      eq_sym = λ e. sym e;
      eq_trans = λ e f. e ∙ f;
      add_cong = λ e f. ap₂ (λ x y. x +ℤ y) e f;
      mul_cong = λ e f. ap₂ (λ x y. x *ℤ y) e f;
      add_assoc = +ℤ_assoc;
      add_comm = +ℤ_comm;
      mul_assoc = *ℤ_assoc;
      mul_comm = *ℤ_comm;
      distributive = *ℤ_distributive;
      zero-add = +ℤ_idl;
      zero_mul = zero-*ℤ;
      one_mul = one-*ℤ;
      minus_mul = neg_ℤ_is_product;
      whole_add = λ a b. refl;
      whole_mul = λ a b. refl;
    }

pub ring_ℤ : (n : ℕ) (f : Open Equation n) → Vanishes (left (close n f 0) ⊖ right (close n f 0))
    → ForAll n (λ ρ. value ring_of_integers (left (close n f 0)) ρ ≡ value ring_of_integers (right (close n f 0)) ρ)
ring_ℤ = ring ring_of_integers
