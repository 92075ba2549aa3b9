-- A checker of certificates for ≤ and = over any ordered ring. A certificate is a number made of the hypotheses that cannot be negative:
-- their differences, squares, natural numbers, sums and products of these, and multiples of the equations. Where (s + 1) · (right - left)
-- equals it as a polynomial, `certify 𝓞 n (λ x .. . H ⊢ g) s certificate tt` is "the hypotheses H give g". A goal that is an equation
-- takes a sum of multiples of the equations alone. To find one that fails, state `polynomial (remains ..) ≡ nil` with a hole: it prints what is left.
use mathlib.Core.Path.{subst}
use mathlib.Core.List.{List, [], ◌∷◌}
use Prim.Native.Nat.{ℕ, zero, suc}
use native.Mathlib.Omega.{arith}
use lib.IntN.{pos}
use Rattle.integer.proofs.Ring.{CommutativeRing, Expression, var, con, ◌⊕◌, ◌⊖◌, ◌⊗◌, Vanishes, vanishing_difference, equal_of_difference, value, Open, close, ForAll, for_all}

-- a commutative ring with an order; `nonneg x` is 0 ≤ x, kept apart so that an instance may say it in its simplest way
pub record OrderedRing : Type 1 where
  pub ring : CommutativeRing
  pub le : ring.Carrier → ring.Carrier → Type 0
  pub nonneg : ring.Carrier → Type 0
  pub nonneg_cong : {x y : ring.Carrier} → ring.eq x y → nonneg x → nonneg y
  pub nonneg_add : {x y : ring.Carrier} → nonneg x → nonneg y → nonneg (ring.add x y)
  pub nonneg_mul : {x y : ring.Carrier} → nonneg x → nonneg y → nonneg (ring.mul x y)
  pub nonneg_square : (x : ring.Carrier) → nonneg (ring.mul x x)
  pub nonneg_whole : (n : ℕ) → nonneg (ring.whole (pos n))
  pub nonneg_cancel : {x y : ring.Carrier} → le (ring.whole (pos 1)) x → nonneg (ring.mul x y) → nonneg y
  pub antisymmetric : {x y : ring.Carrier} → le x y → le y x → ring.eq x y
  pub le_of_difference : {x y : ring.Carrier} → nonneg (ring.add y (ring.minus x)) → le x y
  pub difference_of_le : {x y : ring.Carrier} → le x y → nonneg (ring.add y (ring.minus x))

infix 4 ◌≼◌ ◌≋◌
pub data Relation : Type 0 where
  ◌≼◌ ◌≋◌ : Expression → Expression → Relation

infix 3 ◌⊢◌
pub data Sequent : Type 0 where
  ◌⊢◌ : List Relation → Relation → Sequent

infixl 6 ◌⊞◌
infixl 7 ◌⊠◌
pub data Certificate : Type 0 where
  hyp : ℕ → Certificate
  eqn : Expression → ℕ → Certificate
  nat : ℕ → Certificate
  sqr : Expression → Certificate
  ◌⊞◌ ◌⊠◌ : Certificate → Certificate → Certificate

-- what a hypothesis a ≼ b gives that is not negative, and what a ≋ b gives that is 0
abbrev pub gap : Relation → Expression
gap (a ≼ b) = b ⊖ a
gap (a ≋ b) = con (pos 0)

abbrev pub defect : Relation → Expression
defect (a ≼ b) = con (pos 0)
defect (a ≋ b) = a ⊖ b

abbrev pub hypothesis : List Relation → ℕ → Relation
hypothesis [] i = con (pos 0) ≋ con (pos 0)
hypothesis (h ∷ H) zero = h
hypothesis (h ∷ H) (suc i) = hypothesis H i

-- the certified number, and its part that is 0
abbrev pub certified : List Relation → Certificate → Expression
certified H (hyp i) = gap (hypothesis H i)
certified H (eqn e i) = e ⊗ defect (hypothesis H i)
certified H (nat n) = con (pos n)
certified H (sqr e) = e ⊗ e
certified H (c ⊞ d) = certified H c ⊕ certified H d
certified H (c ⊠ d) = certified H c ⊗ certified H d

abbrev pub certified_zero : List Relation → Certificate → Expression
certified_zero H (hyp i) = con (pos 0)
certified_zero H (eqn e i) = e ⊗ defect (hypothesis H i)
certified_zero H (nat n) = con (pos 0)
certified_zero H (sqr e) = con (pos 0)
certified_zero H (c ⊞ d) = certified_zero H c ⊕ certified_zero H d
certified_zero H (c ⊠ d) = con (pos 0)

-- what has to vanish
abbrev pub remains : ℕ → Sequent → Certificate → Expression
remains s (H ⊢ (a ≼ b)) c = con (pos (suc s)) ⊗ (b ⊖ a) ⊖ certified H c
remains s (H ⊢ (a ≋ b)) c = (a ⊖ b) ⊖ certified_zero H c

module _ (𝓞 : OrderedRing) where
  open 𝓞.ring use {Carrier as C, eq as ◌~◌, add as ◌⊹◌, mul as ◌·◌, minus, whole, eq_refl as rfl, eq_sym as sy, eq_trans as ◌⨟◌, add_cong, mul_cong, mul_comm, zero-add as z-add, zero_mul, whole_add}
  open 𝓞 use {le, nonneg, nonneg_cong, nonneg_add, nonneg_mul, nonneg_square, nonneg_whole, nonneg_cancel, le_of_difference, difference_of_le}

  infix 4 ◌~◌
  infixr 3 ◌⨟◌
  infixl 6 ◌⊹◌
  infixl 7 ◌·◌
  abbrev pub Holds : Relation → List C → Type 0
  Holds (a ≼ b) ρ = le (value 𝓞.ring a ρ) (value 𝓞.ring b ρ)
  Holds (a ≋ b) ρ = value 𝓞.ring a ρ ~ value 𝓞.ring b ρ

  -- X, with each hypothesis as an argument
  abbrev pub From : List Relation → List C → Type 0 → Type 0
  From [] ρ X = X
  From (h ∷ H) ρ X = Holds h ρ → From H ρ X

  abbrev pub Follows : Sequent → List C → Type 0
  Follows (H ⊢ g) ρ = From H ρ (Holds g ρ)

  AllHold : List Relation → List C → Type 0
  AllHold [] ρ = Unit {0}
  AllHold (h ∷ H) ρ = Holds h ρ × AllHold H ρ

  from_all : (H : List Relation) (ρ : List C) (X : Type 0) → (AllHold H ρ → X) → From H ρ X
  unfolding AllHold
  from_all [] ρ X f = f tt
  from_all (h ∷ H) ρ X f = λ x. from_all H ρ X (λ xs. f (x, xs))

  hypothesis_holds : (H : List Relation) (ρ : List C) → AllHold H ρ → (i : ℕ) → Holds (hypothesis H i) ρ
  unfolding AllHold
  hypothesis_holds [] ρ a i = rfl _
  hypothesis_holds (h ∷ H) ρ a zero = a.0
  hypothesis_holds (h ∷ H) ρ a (suc i) = hypothesis_holds H ρ a.1 i

  difference_zero : (ρ : List C) (a b : Expression) → value 𝓞.ring a ρ ~ value 𝓞.ring b ρ → value 𝓞.ring (a ⊖ b) ρ ~ whole (pos 0)
  difference_zero ρ a b h =
      add_cong h (rfl _) ⨟ vanishing_difference 𝓞.ring (value 𝓞.ring b ρ ∷ []) (var 0 ⊖ var 0) (con (pos 0)) tt

  gap_nonneg : (h : Relation) (ρ : List C) → Holds h ρ → nonneg (value 𝓞.ring (gap h) ρ)
  gap_nonneg (a ≼ b) ρ p = difference_of_le p
  gap_nonneg (a ≋ b) ρ p = nonneg_whole 0

  defect_zero : (h : Relation) (ρ : List C) → Holds h ρ → value 𝓞.ring (defect h) ρ ~ whole (pos 0)
  defect_zero (a ≼ b) ρ p = rfl _
  defect_zero (a ≋ b) ρ p = difference_zero ρ a b p

  multiple_zero : (e : Expression) (h : Relation) (ρ : List C) → Holds h ρ → value 𝓞.ring (e ⊗ defect h) ρ ~ whole (pos 0)
  multiple_zero e h ρ p = mul_cong (rfl _) (defect_zero h ρ p) ⨟ mul_comm _ _ ⨟ zero_mul _

  certified_nonneg : (H : List Relation) (ρ : List C) → AllHold H ρ → (c : Certificate) → nonneg (value 𝓞.ring (certified H c) ρ)
  certified_nonneg H ρ a (hyp i) = gap_nonneg (hypothesis H i) ρ (hypothesis_holds H ρ a i)
  certified_nonneg H ρ a (eqn e i) =
      nonneg_cong (sy (multiple_zero e (hypothesis H i) ρ (hypothesis_holds H ρ a i))) (nonneg_whole 0)
  certified_nonneg H ρ a (nat n) = nonneg_whole n
  certified_nonneg H ρ a (sqr e) = nonneg_square _
  certified_nonneg H ρ a (c ⊞ d) = nonneg_add (certified_nonneg H ρ a c) (certified_nonneg H ρ a d)
  certified_nonneg H ρ a (c ⊠ d) = nonneg_mul (certified_nonneg H ρ a c) (certified_nonneg H ρ a d)

  certified_zero_is_zero : (H : List Relation) (ρ : List C) → AllHold H ρ → (c : Certificate)
      → value 𝓞.ring (certified_zero H c) ρ ~ whole (pos 0)
  certified_zero_is_zero H ρ a (hyp i) = rfl _
  certified_zero_is_zero H ρ a (eqn e i) = multiple_zero e (hypothesis H i) ρ (hypothesis_holds H ρ a i)
  certified_zero_is_zero H ρ a (nat n) = rfl _
  certified_zero_is_zero H ρ a (sqr e) = rfl _
  certified_zero_is_zero H ρ a (c ⊞ d) = add_cong (certified_zero_is_zero H ρ a c) (certified_zero_is_zero H ρ a d) ⨟ z-add _
  certified_zero_is_zero H ρ a (c ⊠ d) = rfl _

  pub one_le_whole : (n : ℕ) → le (whole (pos 1)) (whole (pos (suc n)))
  one_le_whole n =
      le_of_difference
      (nonneg_cong
      (vanishing_difference 𝓞.ring (whole (pos n) ∷ []) (var 0) ((con (pos 1) ⊕ var 0) ⊖ con (pos 1)) tt
      ⨟ add_cong (subst (λ m. whole (pos 1) ⊹ whole (pos n) ~ whole (pos m)) (omega arith) (sy (whole_add (pos 1) (pos n)))) (rfl _))
      (nonneg_whole n))

  sequent_follows : (s : ℕ) (q : Sequent) (c : Certificate) (ρ : List C) → Vanishes (remains s q c) → Follows q ρ
  sequent_follows s (H ⊢ (a ≼ b)) c ρ t =
      from_all H ρ _
      (λ h. le_of_difference (nonneg_cancel (one_le_whole s) (nonneg_cong
      (sy (vanishing_difference 𝓞.ring ρ (con (pos (suc s)) ⊗ (b ⊖ a)) (certified H c) t)) (certified_nonneg H ρ h c))))
  sequent_follows s (H ⊢ (a ≋ b)) c ρ t =
      from_all H ρ _
      (λ h. equal_of_difference 𝓞.ring _ _ (vanishing_difference 𝓞.ring ρ (a ⊖ b) (certified_zero H c) t ⨟ certified_zero_is_zero H ρ h c))

  pub certify : (n : ℕ) (f : Open Sequent n) (s : ℕ) (c : Certificate) → Vanishes (remains s (close n f 0) c)
      → ForAll n (λ ρ. Follows (close n f 0) ρ)
  certify n f s c t = for_all n _ (λ ρ. sequent_follows s (close n f 0) c ρ t)
