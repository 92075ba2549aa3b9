-- A solver for identities of commutative rings, whatever their equality. An expression is brought to a polynomial with whole-number
-- coefficients; two expressions are equal wherever all coefficients of their difference are 0. So `ring 𝓡 3 (λ a b c. .. ≐ ..) tt`
-- is the identity for all a, b and c: the check computes, and `tt` passes it. That the terms are sorted plays no part in the proof.
use mathlib.Core.Path.{◌≡◌, refl, sym, ap, ap₂, subst}
use mathlib.Core.Bool.{Bool, true, false}
use mathlib.Core.List.{List, [], ◌∷◌}
use Prim.Native.Nat.{ℕ, zero, suc, ◌+◌, compare, Ordering}
use native.Mathlib.Nat.{suc-add, zero-add}
use lib.Dec.{T, eqb, eqb→eq, compare_is_eq}
use lib.IntN.{ℤ, pos, negsuc, ◌+ℤ◌, ◌*ℤ◌}

-- ---- a commutative ring with an equality of its own; `whole` says where a whole number lies in it
pub record CommutativeRing : Type 1 where
  pub Carrier : Type 0
  pub eq : Carrier → Carrier → Type 0
  pub add : Carrier → Carrier → Carrier
  pub mul : Carrier → Carrier → Carrier
  pub minus : Carrier → Carrier
  pub whole : ℤ → Carrier
  pub eq_refl : (a : Carrier) → eq a a
  pub eq_sym : {a b : Carrier} → eq a b → eq b a
  pub eq_trans : {a b c : Carrier} → eq a b → eq b c → eq a c
  pub add_cong : {a b c d : Carrier} → eq a b → eq c d → eq (add a c) (add b d)
  pub mul_cong : {a b c d : Carrier} → eq a b → eq c d → eq (mul a c) (mul b d)
  pub add_assoc : (a b c : Carrier) → eq (add (add a b) c) (add a (add b c))
  pub add_comm : (a b : Carrier) → eq (add a b) (add b a)
  pub mul_assoc : (a b c : Carrier) → eq (mul (mul a b) c) (mul a (mul b c))
  pub mul_comm : (a b : Carrier) → eq (mul a b) (mul b a)
  pub distributive : (a b c : Carrier) → eq (mul (add a b) c) (add (mul a c) (mul b c))
  pub zero-add : (a : Carrier) → eq (add (whole (pos 0)) a) a
  pub zero_mul : (a : Carrier) → eq (mul (whole (pos 0)) a) (whole (pos 0))
  pub one_mul : (a : Carrier) → eq (mul (whole (pos 1)) a) a
  pub minus_mul : (a : Carrier) → eq (minus a) (mul (whole (negsuc 0)) a)
  pub whole_add : (a b : ℤ) → eq (whole (a +ℤ b)) (add (whole a) (whole b))
  pub whole_mul : (a b : ℤ) → eq (whole (a *ℤ b)) (mul (whole a) (whole b))

-- ---- expressions
infixl 6 ◌⊕◌ ◌⊖◌
infixl 7 ◌⊗◌
pub data Expression : Type 0 where
  var : ℕ → Expression
  con : ℤ → Expression
  ◌⊕◌ ◌⊖◌ ◌⊗◌ : Expression → Expression → Expression
  neg : Expression → Expression

infix 4 ◌≐◌
pub data Equation : Type 0 where
  ◌≐◌ : Expression → Expression → Equation

abbrev pub left : Equation → Expression
left (a ≐ b) = a

abbrev pub right : Equation → Expression
right (a ≐ b) = b

-- an X with n variables, bound by a λ; and the X with the variables from the i-th on put in
abbrev pub Open : Type 0 → ℕ → Type 0
Open X zero = X
Open X (suc n) = Expression → Open X n

abbrev pub close : {X : Type 0} (n : ℕ) → Open X n → ℕ → X
close zero x i = x
close (suc n) f i = close n (f (var i)) (suc i)

-- P of every list of n values, the values one argument each
abbrev pub ForAll : {C : Type 0} (n : ℕ) → (List C → Type 0) → Type 0
ForAll zero P = P []
ForAll {C} (suc n) P = (a : C) → ForAll n (λ ρ. P (a ∷ ρ))

pub for_all : {C : Type 0} (n : ℕ) (P : List C → Type 0) → ((ρ : List C) → P ρ) → ForAll n P
for_all zero P f = f []
for_all (suc n) P f = λ a. for_all n (λ ρ. P (a ∷ ρ)) (λ ρ. f (a ∷ ρ))

-- ---- polynomials: terms with a coefficient and the exponent of each variable, sorted by the exponents.
-- All that the check runs is an `abbrev`, so that it computes anywhere.
pub data Polynomial : Type 0 where
  nil : Polynomial
  term : ℤ → List ℕ → Polynomial → Polynomial

abbrev pub unit_exponents : ℕ → List ℕ
unit_exponents zero = 1 ∷ []
unit_exponents (suc i) = 0 ∷ unit_exponents i

abbrev pub add_exponents : List ℕ → List ℕ → List ℕ
add_exponents [] n = n
add_exponents (a ∷ m) [] = a ∷ m
add_exponents (a ∷ m) (b ∷ n) = (a + b) ∷ add_exponents m n

abbrev pub compare_exponents : List ℕ → List ℕ → Ordering
compare_exponents [] [] = Ordering.eq
compare_exponents [] (b ∷ n) = Ordering.lt
compare_exponents (a ∷ m) [] = Ordering.gt
compare_exponents (a ∷ m) (b ∷ n) =
    elim (compare a b) [ Ordering.lt ↦ Ordering.lt | Ordering.eq ↦ compare_exponents m n | Ordering.gt ↦ Ordering.gt ]

-- the term `c m` and the terms that f adds, merged into a polynomial. f stands for the outer recursion, so that this one needs no fuel
abbrev pub merge_term : ℤ → List ℕ → (Polynomial → Polynomial) → Polynomial → Polynomial
merge_term c m f nil = term c m (f nil)
merge_term c m f (term d n q) =
    elim (compare_exponents m n)
    [ Ordering.lt ↦ term c m (f (term d n q)) | Ordering.eq ↦ term (c +ℤ d) n (f q) | Ordering.gt ↦ term d n (merge_term c m f q) ]

abbrev pub add_polynomials : Polynomial → Polynomial → Polynomial
add_polynomials nil q = q
add_polynomials (term c m p) q = merge_term c m (λ r. add_polynomials p r) q

abbrev pub mul_term : ℤ → List ℕ → Polynomial → Polynomial
mul_term c m nil = nil
mul_term c m (term d n p) = term (c *ℤ d) (add_exponents m n) (mul_term c m p)

abbrev pub mul_polynomials : Polynomial → Polynomial → Polynomial
mul_polynomials nil q = nil
mul_polynomials (term c m p) q = add_polynomials (mul_term c m q) (mul_polynomials p q)

abbrev pub polynomial : Expression → Polynomial
polynomial (var i) = term (pos 1) (unit_exponents i) nil
polynomial (con z) = term z [] nil
polynomial (a ⊕ b) = add_polynomials (polynomial a) (polynomial b)
polynomial (a ⊖ b) = add_polynomials (polynomial a) (mul_term (negsuc 0) [] (polynomial b))
polynomial (a ⊗ b) = mul_polynomials (polynomial a) (polynomial b)
polynomial (neg a) = mul_term (negsuc 0) [] (polynomial a)

abbrev pub is_zero : ℤ → Bool
is_zero (pos n) = eqb n 0
is_zero (negsuc n) = false

abbrev pub all_zero : Polynomial → Bool
all_zero nil = true
all_zero (term c m p) = elim (is_zero c) [ true ↦ all_zero p | false ↦ false ]

-- the check: an expression that is 0 whatever its variables are
abbrev pub Vanishes : Expression → Type 0
Vanishes e = T (all_zero (polynomial e))

exponents_equal : (m n : List ℕ) → compare_exponents m n ≡ Ordering.eq → m ≡ n
exponents_equal [] [] e = refl
exponents_equal [] (b ∷ n) e = cc
exponents_equal (a ∷ m) [] e = cc
exponents_equal (a ∷ m) (b ∷ n) e = by_order (compare a b) refl e (λ h. exponents_equal m n h)
  where
    by_order : (o : Ordering) → compare a b ≡ o
        → elim o [ Ordering.lt ↦ Ordering.lt | Ordering.eq ↦ compare_exponents m n | Ordering.gt ↦ Ordering.gt ] ≡ Ordering.eq
        → (compare_exponents m n ≡ Ordering.eq → m ≡ n) → a ∷ m ≡ b ∷ n
    by_order Ordering.lt q e h = cc
    by_order Ordering.eq q e h = ap₂ (λ x y. x ∷ y) (eqb→eq a b (subst (λ o. T (compare_is_eq o)) (sym q) tt)) (h e)
    by_order Ordering.gt q e h = cc

coefficient_zero : (c : ℤ) → is_zero c ≡ true → c ≡ pos 0
coefficient_zero (pos n) e = ap pos (eqb→eq n 0 (subst T (sym e) tt))
coefficient_zero (negsuc n) e = cc

module _ (𝓡 : CommutativeRing) where
  infixl 6 ◌⊹◌
  infixl 7 ◌·◌
  infix 4 ◌~◌
  infixr 3 ◌⨟◌
  open 𝓡 use {Carrier as C, eq as ◌~◌, add as ◌⊹◌, mul as ◌·◌, minus, whole, eq_refl as rfl, eq_sym as sy, eq_trans as ◌⨟◌, add_cong, mul_cong, add_assoc, add_comm, mul_assoc, mul_comm, distributive, zero-add as z-add, zero_mul, one_mul, minus_mul, whole_add, whole_mul}

  -- ---- values: a variable past the end of the list is 0
  abbrev pub first : List C → C
  first [] = whole (pos 0)
  first (x ∷ ρ) = x

  abbrev pub rest : List C → List C
  rest [] = []
  rest (x ∷ ρ) = ρ

  abbrev pub at : List C → ℕ → C
  at ρ zero = first ρ
  at ρ (suc i) = at (rest ρ) i

  abbrev pub value : Expression → List C → C
  value (var i) ρ = at ρ i
  value (con z) ρ = whole z
  value (a ⊕ b) ρ = value a ρ ⊹ value b ρ
  value (a ⊖ b) ρ = value a ρ ⊹ minus (value b ρ)
  value (a ⊗ b) ρ = value a ρ · value b ρ
  value (neg a) ρ = minus (value a ρ)

  power : C → ℕ → C
  power r zero = whole (pos 1)
  power r (suc n) = r · power r n

  monomial_value : List ℕ → List C → C
  monomial_value [] ρ = whole (pos 1)
  monomial_value (e ∷ m) ρ = power (first ρ) e · monomial_value m (rest ρ)

  polynomial_value : Polynomial → List C → C
  polynomial_value nil ρ = whole (pos 0)
  polynomial_value (term c m p) ρ = whole c · monomial_value m ρ ⊹ polynomial_value p ρ

  path : {a b : C} → a ≡ b → a ~ b
  path {a} e = subst (λ x. a ~ x) e (rfl a)

  -- ---- rearrangements
  mul_middle : (a b c d : C) → (a · b) · (c · d) ~ (a · c) · (b · d)
  mul_middle a b c d =
      mul_assoc a b (c · d)
      ⨟ mul_cong (rfl a) (sy (mul_assoc b c d) ⨟ mul_cong (mul_comm b c) (rfl d) ⨟ mul_assoc c b d)
      ⨟ sy (mul_assoc a c (b · d))

  add_left : (a b c : C) → a ⊹ (b ⊹ c) ~ b ⊹ (a ⊹ c)
  add_left a b c = sy (add_assoc a b c) ⨟ add_cong (add_comm a b) (rfl c) ⨟ add_assoc b a c

  distributive_left : (a b c : C) → a · (b ⊹ c) ~ a · b ⊹ a · c
  distributive_left a b c = mul_comm a (b ⊹ c) ⨟ distributive b c a ⨟ add_cong (mul_comm b a) (mul_comm c a)

  mul-zero : (a : C) → a · whole (pos 0) ~ whole (pos 0)
  mul-zero a = mul_comm a (whole (pos 0)) ⨟ zero_mul a

  mul_one : (a : C) → a · whole (pos 1) ~ a
  mul_one a = mul_comm a (whole (pos 1)) ⨟ one_mul a

  minus_cong : {a b : C} → a ~ b → minus a ~ minus b
  minus_cong h = minus_mul _ ⨟ mul_cong (rfl _) h ⨟ sy (minus_mul _)

  minus_add : (b : C) → minus b ⊹ b ~ whole (pos 0)
  minus_add b =
      add_cong (minus_mul b) (sy (one_mul b)) ⨟ sy (distributive _ _ b) ⨟ mul_cong (sy (whole_add (negsuc 0) (pos 1))) (rfl b) ⨟ zero_mul b

  pub equal_of_difference : (a b : C) → a ⊹ minus b ~ whole (pos 0) → a ~ b
  equal_of_difference a b h =
      sy (add_comm _ _ ⨟ z-add a)
      ⨟ add_cong (rfl a) (sy (minus_add b))
      ⨟ sy (add_assoc _ _ _)
      ⨟ add_cong h (rfl b)
      ⨟ z-add b

  -- ---- each operation on polynomials has the value that it should have
  power_add : (r : C) (a b : ℕ) → power r (a + b) ~ power r a · power r b
  unfolding power
  power_add r zero b = path (ap (power r) (zero-add b)) ⨟ sy (one_mul (power r b))
  power_add r (suc a) b =
      path (ap (power r) (suc-add a b)) ⨟ mul_cong (rfl r) (power_add r a b) ⨟ sy (mul_assoc r (power r a) (power r b))

  add_exponents_value : (m n : List ℕ) (ρ : List C) → monomial_value (add_exponents m n) ρ ~ monomial_value m ρ · monomial_value n ρ
  unfolding monomial_value
  add_exponents_value [] n ρ = sy (one_mul (monomial_value n ρ))
  add_exponents_value (a ∷ m) [] ρ = sy (mul_one _)
  add_exponents_value (a ∷ m) (b ∷ n) ρ = mul_cong (power_add (first ρ) a b) (add_exponents_value m n (rest ρ)) ⨟ mul_middle _ _ _ _

  unit_exponents_value : (i : ℕ) (ρ : List C) → monomial_value (unit_exponents i) ρ ~ at ρ i
  unfolding monomial_value power
  unit_exponents_value zero ρ = mul_one _ ⨟ mul_one (first ρ)
  unit_exponents_value (suc i) ρ = one_mul _ ⨟ unit_exponents_value i (rest ρ)

  merge_term_value : (c : ℤ) (m : List ℕ) (f : Polynomial → Polynomial) (v : C) (q : Polynomial) (ρ : List C)
      → ((r : Polynomial) → polynomial_value (f r) ρ ~ v ⊹ polynomial_value r ρ)
      → polynomial_value (merge_term c m f q) ρ ~ whole c · monomial_value m ρ ⊹ (v ⊹ polynomial_value q ρ)
  unfolding polynomial_value
  merge_term_value c m f v nil ρ h = add_cong (rfl _) (h nil)
  merge_term_value c m f v (term d n p) ρ h = by_order (compare_exponents m n) refl (merge_term_value c m f v p ρ h)
    where
      by_order : (o : Ordering) → compare_exponents m n ≡ o
          → polynomial_value (merge_term c m f p) ρ ~ whole c · monomial_value m ρ ⊹ (v ⊹ polynomial_value p ρ)
          → polynomial_value (elim o [ Ordering.lt ↦ term c m (f (term d n p)) | Ordering.eq ↦ term (c +ℤ d) n (f p) | Ordering.gt ↦ term d n (merge_term c m f p) ]) ρ
          ~ whole c · monomial_value m ρ ⊹ (v ⊹ (whole d · monomial_value n ρ ⊹ polynomial_value p ρ))
      by_order Ordering.lt e i = add_cong (rfl _) (h (term d n p))
      by_order Ordering.eq e i =
          add_cong
          (mul_cong (whole_add c d) (rfl _)
          ⨟ distributive _ _ _
          ⨟ add_cong (mul_cong (rfl (whole c)) (path (ap (λ x. monomial_value x ρ) (sym (exponents_equal m n e))))) (rfl _))
          (h p)
          ⨟ add_assoc _ _ _
          ⨟ add_cong (rfl _) (add_left _ _ _)
      by_order Ordering.gt e i = add_cong (rfl _) i ⨟ add_left _ _ _ ⨟ add_cong (rfl _) (add_left _ _ _)

  add_polynomials_value : (p q : Polynomial) (ρ : List C) → polynomial_value (add_polynomials p q) ρ ~ polynomial_value p ρ ⊹ polynomial_value q ρ
  unfolding polynomial_value
  add_polynomials_value nil q ρ = sy (z-add _)
  add_polynomials_value (term c m p) q ρ =
      merge_term_value c m (λ r. add_polynomials p r) (polynomial_value p ρ) q ρ (λ r. add_polynomials_value p r ρ) ⨟ sy (add_assoc _ _ _)

  mul_term_value : (c : ℤ) (m : List ℕ) (p : Polynomial) (ρ : List C)
      → polynomial_value (mul_term c m p) ρ ~ (whole c · monomial_value m ρ) · polynomial_value p ρ
  unfolding polynomial_value
  mul_term_value c m nil ρ = sy (mul-zero _)
  mul_term_value c m (term d n p) ρ =
      add_cong (mul_cong (whole_mul c d) (add_exponents_value m n ρ) ⨟ mul_middle _ _ _ _) (mul_term_value c m p ρ)
      ⨟ sy (distributive_left _ _ _)

  mul_polynomials_value : (p q : Polynomial) (ρ : List C) → polynomial_value (mul_polynomials p q) ρ ~ polynomial_value p ρ · polynomial_value q ρ
  unfolding polynomial_value
  mul_polynomials_value nil q ρ = sy (zero_mul _)
  mul_polynomials_value (term c m p) q ρ =
      add_polynomials_value (mul_term c m q) (mul_polynomials p q) ρ
      ⨟ add_cong (mul_term_value c m q ρ) (mul_polynomials_value p q ρ)
      ⨟ sy (distributive _ _ _)

  minus_value : (p : Polynomial) (ρ : List C) → polynomial_value (mul_term (negsuc 0) [] p) ρ ~ minus (polynomial_value p ρ)
  unfolding monomial_value
  minus_value p ρ = mul_term_value (negsuc 0) [] p ρ ⨟ mul_cong (mul_one _) (rfl _) ⨟ sy (minus_mul _)

  polynomial_is_value : (e : Expression) (ρ : List C) → polynomial_value (polynomial e) ρ ~ value e ρ
  unfolding polynomial_value monomial_value
  polynomial_is_value (var i) ρ = add_comm _ _ ⨟ z-add _ ⨟ one_mul _ ⨟ unit_exponents_value i ρ
  polynomial_is_value (con z) ρ = add_comm _ _ ⨟ z-add _ ⨟ mul_one _
  polynomial_is_value (a ⊕ b) ρ =
      add_polynomials_value (polynomial a) (polynomial b) ρ ⨟ add_cong (polynomial_is_value a ρ) (polynomial_is_value b ρ)
  polynomial_is_value (a ⊖ b) ρ =
      add_polynomials_value (polynomial a) (mul_term (negsuc 0) [] (polynomial b)) ρ
      ⨟ add_cong (polynomial_is_value a ρ) (minus_value (polynomial b) ρ ⨟ minus_cong (polynomial_is_value b ρ))
  polynomial_is_value (a ⊗ b) ρ =
      mul_polynomials_value (polynomial a) (polynomial b) ρ ⨟ mul_cong (polynomial_is_value a ρ) (polynomial_is_value b ρ)
  polynomial_is_value (neg a) ρ = minus_value (polynomial a) ρ ⨟ minus_cong (polynomial_is_value a ρ)

  all_zero_value : (p : Polynomial) (ρ : List C) → T (all_zero p) → polynomial_value p ρ ~ whole (pos 0)
  unfolding polynomial_value
  all_zero_value nil ρ t = rfl _
  all_zero_value (term c m p) ρ t = by_test (is_zero c) refl t (λ h. all_zero_value p ρ h)
    where
      by_test : (b : Bool) → is_zero c ≡ b → T (elim b [ true ↦ all_zero p | false ↦ false ])
          → (T (all_zero p) → polynomial_value p ρ ~ whole (pos 0)) → whole c · monomial_value m ρ ⊹ polynomial_value p ρ ~ whole (pos 0)
      by_test true e t h = add_cong (mul_cong (path (ap whole (coefficient_zero c e))) (rfl _) ⨟ zero_mul _) (h t) ⨟ z-add _
      by_test false e t h = absurd t

  -- ---- what the check gives
  pub vanishing_difference : (ρ : List C) (a b : Expression) → Vanishes (a ⊖ b) → value a ρ ~ value b ρ
  vanishing_difference ρ a b t =
      equal_of_difference _ _ (sy (polynomial_is_value (a ⊖ b) ρ) ⨟ all_zero_value (polynomial (a ⊖ b)) ρ t)

  pub ring : (n : ℕ) (f : Open Equation n) → Vanishes (left (close n f 0) ⊖ right (close n f 0))
      → ForAll n (λ ρ. value (left (close n f 0)) ρ ~ value (right (close n f 0)) ρ)
  ring n f t = for_all n _ (λ ρ. vanishing_difference ρ (left (close n f 0)) (right (close n f 0)) t)
