-- Linear facts of ℤ by `omega`, which reads ℕ alone. A whole number is the difference of two naturals, its positive and its negative
-- part; so an order or equation between expressions is one between sums of such parts. `lin_ℤ n (λ x .. . h ⇒ .. ⇒ so g) x .. (omega arith) h ..`
-- shows g from the hypotheses h. A product of two variables is one unknown: hand over what is known of it as a hypothesis.
use mathlib.Core.Path.{◌≡◌, refl, sym, ◌∙◌, ap, ap₂, subst, subst₂}
use mathlib.Core.List.{List}
use mathlib.Core.Bool.{Bool, true, false}
use Prim.Native.Nat.{ℕ, zero, suc, ◌+◌, ◌*◌, ◌≤◌, ◌<◌}
use native.Mathlib.Nat.{le_antisymm}
use native.Mathlib.Omega.{arith}
use lib.Dec.{T, leb, leb→le, le→leb, leb-suc-suc, leb-zero, leb-suc-zero}
use lib.IntN.{ℤ, pos, negsuc, neg_ℤ, ◌+ℤ◌, ◌*ℤ◌, ◌-ℤ◌, suc_ℤ, pred_ℤ, +ℤ_idr, +ℤ_idl, +ℤ-suc_ℤ, +ℤ-pred_ℤ, suc-pred, +ℤ_one}
use lib.Signed.{le_z, lt_z, ◌≤ℤ◌, ◌<ℤ◌, ≤ℤ_refl}
use Rattle.integer.proofs.Ring.{Expression, var, con, ◌⊕◌, ◌⊖◌, ◌⊗◌, neg, ◌≐◌, at, value, Open, close, ForAll, for_all}
use Rattle.integer.proofs.IntegerRing.{induction, ring_ℤ, ring_of_integers}

-- ---- the order does not change where both sides move by the same number
le_z_suc : (x y : ℤ) → le_z (suc_ℤ x) (suc_ℤ y) ≡ le_z x y
le_z_suc (pos a) (pos b) = leb-suc-suc a b
le_z_suc (pos a) (negsuc zero) = leb-suc-zero a
le_z_suc (pos a) (negsuc (suc b)) = refl
le_z_suc (negsuc zero) (pos b) = leb-zero (suc b)
le_z_suc (negsuc (suc a)) (pos b) = refl
le_z_suc (negsuc zero) (negsuc zero) = refl
le_z_suc (negsuc zero) (negsuc (suc b)) = sym (leb-suc-zero b)
le_z_suc (negsuc (suc a)) (negsuc zero) = sym (leb-zero (suc a))
le_z_suc (negsuc (suc a)) (negsuc (suc b)) = sym (leb-suc-suc b a)

le_z_pred : (x y : ℤ) → le_z (pred_ℤ x) (pred_ℤ y) ≡ le_z x y
le_z_pred x y = sym (le_z_suc (pred_ℤ x) (pred_ℤ y)) ∙ ap₂ le_z (suc-pred x) (suc-pred y)

le_z_add : (x y z : ℤ) → le_z (x +ℤ z) (y +ℤ z) ≡ le_z x y
le_z_add x y z =
    induction (λ z. le_z (x +ℤ z) (y +ℤ z) ≡ le_z x y)
    (ap₂ le_z (+ℤ_idr x) (+ℤ_idr y))
    (λ w h. ap₂ le_z (+ℤ-suc_ℤ x w) (+ℤ-suc_ℤ y w) ∙ le_z_suc (x +ℤ w) (y +ℤ w) ∙ h)
    (λ w h. ap₂ le_z (+ℤ-pred_ℤ x w) (+ℤ-pred_ℤ y w) ∙ le_z_pred (x +ℤ w) (y +ℤ w) ∙ h)
    z

lt_z_is_le_z : (x y : ℤ) → lt_z x y ≡ le_z (suc_ℤ x) y
lt_z_is_le_z (pos a) (pos b) = refl
lt_z_is_le_z (pos a) (negsuc b) = refl
lt_z_is_le_z (negsuc zero) (pos b) = sym (leb-zero b)
lt_z_is_le_z (negsuc (suc a)) (pos b) = refl
lt_z_is_le_z (negsuc zero) (negsuc b) = leb-suc-zero b
lt_z_is_le_z (negsuc (suc a)) (negsuc b) = leb-suc-suc b a

suc_le_of_lt : {x y : ℤ} → x <ℤ y → (x +ℤ pos 1) ≤ℤ y
suc_le_of_lt {x} {y} h = subst (λ z. z ≤ℤ y) (sym (+ℤ_one x)) (record { le = subst T (lt_z_is_le_z x y) h.lt })

lt_of_suc_le : {x y : ℤ} → (x +ℤ pos 1) ≤ℤ y → x <ℤ y
lt_of_suc_le {x} {y} h = record { lt = subst T (sym (lt_z_is_le_z x y)) (subst (λ z. z ≤ℤ y) (+ℤ_one x) h).le }

-- ---- a whole number as a difference of naturals
abbrev difference : ℕ → ℕ → ℤ
difference a b = pos a -ℤ pos b

abbrev pub positive : ℤ → ℕ
positive (pos n) = n
positive (negsuc n) = 0

abbrev pub negative : ℤ → ℕ
negative (pos n) = 0
negative (negsuc n) = suc n

difference_of_parts : (z : ℤ) → difference (positive z) (negative z) ≡ z
difference_of_parts (pos n) = +ℤ_idr (pos n)
difference_of_parts (negsuc n) = +ℤ_idl (negsuc n)

module _ (a b c d : ℕ) {x y : ℤ} (e : difference a b ≡ x) (f : difference c d ≡ y) where
  le_z_difference : le_z (difference a b) (difference c d) ≡ leb (a + d) (c + b)
  le_z_difference =
      sym (le_z_add (difference a b) (difference c d) (pos b +ℤ pos d))
      ∙ ap₂ le_z
      (ring_ℤ 3 (λ a b d. (a ⊖ b) ⊕ (b ⊕ d) ≐ a ⊕ d) tt (pos a) (pos b) (pos d))
      (ring_ℤ 3 (λ c b d. (c ⊖ d) ⊕ (b ⊕ d) ≐ c ⊕ b) tt (pos c) (pos b) (pos d))

  le_of_sums : a + d ≤ c + b → x ≤ℤ y
  le_of_sums h = subst₂ (λ x y. x ≤ℤ y) e f (record { le = subst T (sym le_z_difference) (le→leb _ _ h) })

  sums_of_le : x ≤ℤ y → a + d ≤ c + b
  sums_of_le h = leb→le _ _ (subst T le_z_difference (subst₂ (λ x y. x ≤ℤ y) (sym e) (sym f) h).le)

  equal_of_sums : a + d ≡ c + b → x ≡ y
  equal_of_sums h =
      sym e
      ∙ ring_ℤ 3 (λ a b d. a ⊖ b ≐ (a ⊕ d) ⊖ (b ⊕ d)) tt (pos a) (pos b) (pos d)
      ∙ ap (λ z. pos z -ℤ (pos b +ℤ pos d)) h
      ∙ ring_ℤ 3 (λ c b d. (c ⊕ b) ⊖ (b ⊕ d) ≐ c ⊖ d) tt (pos c) (pos b) (pos d)
      ∙ f

sums_of_equal : (a b c d : ℕ) {x y : ℤ} → difference a b ≡ x → difference c d ≡ y → x ≡ y → a + d ≡ c + b
sums_of_equal a b c d {x} {y} e f h =
    le_antisymm
    (sums_of_le a b c d e f (subst (λ z. x ≤ℤ z) h (≤ℤ_refl x)))
    (sums_of_le c d a b f e (subst (λ z. z ≤ℤ x) h (≤ℤ_refl x)))

-- ---- facts, read over ℤ and over ℕ
infix 4 ◌⊴◌ ◌⊲◌ ◌≗◌
infixr 3 ◌⇒◌
pub data Fact : Type 0 where
  ◌⊴◌ ◌⊲◌ ◌≗◌ : Expression → Expression → Fact

pub data Claim : Type 0 where
  so : Fact → Claim
  ◌⇒◌ : Fact → Claim → Claim

-- the positive (true) or negative part of an expression's value
abbrev pub part : Bool → Expression → List ℤ → ℕ
part true (var i) ρ = positive (at ring_of_integers ρ i)
part false (var i) ρ = negative (at ring_of_integers ρ i)
part true (con z) ρ = positive z
part false (con z) ρ = negative z
part true (a ⊕ b) ρ = part true a ρ + part true b ρ
part false (a ⊕ b) ρ = part false a ρ + part false b ρ
part true (a ⊖ b) ρ = part true a ρ + part false b ρ
part false (a ⊖ b) ρ = part false a ρ + part true b ρ
part true (a ⊗ b) ρ = part true a ρ * part true b ρ + part false a ρ * part false b ρ
part false (a ⊗ b) ρ = part true a ρ * part false b ρ + part false a ρ * part true b ρ
part true (neg a) ρ = part false a ρ
part false (neg a) ρ = part true a ρ

parts_are_value : (e : Expression) (ρ : List ℤ) → difference (part true e ρ) (part false e ρ) ≡ value ring_of_integers e ρ
parts_are_value (var i) ρ = difference_of_parts _
parts_are_value (con z) ρ = difference_of_parts z
parts_are_value (a ⊕ b) ρ =
    ring_ℤ 4 (λ p n q m. (p ⊕ q) ⊖ (n ⊕ m) ≐ (p ⊖ n) ⊕ (q ⊖ m)) tt (pos (part true a ρ)) (pos (part false a ρ)) (pos (part true b ρ)) (pos (part false b ρ))
    ∙ ap₂ ◌+ℤ◌ (parts_are_value a ρ) (parts_are_value b ρ)
parts_are_value (a ⊖ b) ρ =
    ring_ℤ 4 (λ p n q m. (p ⊕ m) ⊖ (n ⊕ q) ≐ (p ⊖ n) ⊖ (q ⊖ m)) tt (pos (part true a ρ)) (pos (part false a ρ)) (pos (part true b ρ)) (pos (part false b ρ))
    ∙ ap₂ ◌-ℤ◌ (parts_are_value a ρ) (parts_are_value b ρ)
parts_are_value (a ⊗ b) ρ =
    ring_ℤ 4 (λ p n q m. (p ⊗ q ⊕ n ⊗ m) ⊖ (p ⊗ m ⊕ n ⊗ q) ≐ (p ⊖ n) ⊗ (q ⊖ m)) tt (pos (part true a ρ)) (pos (part false a ρ)) (pos (part true b ρ)) (pos (part false b ρ))
    ∙ ap₂ ◌*ℤ◌ (parts_are_value a ρ) (parts_are_value b ρ)
parts_are_value (neg a) ρ =
    ring_ℤ 2 (λ p n. n ⊖ p ≐ neg (p ⊖ n)) tt (pos (part true a ρ)) (pos (part false a ρ)) ∙ ap neg_ℤ (parts_are_value a ρ)

abbrev pub FactOfℤ : Fact → List ℤ → Type 0
FactOfℤ (a ⊴ b) ρ = value ring_of_integers a ρ ≤ℤ value ring_of_integers b ρ
FactOfℤ (a ⊲ b) ρ = value ring_of_integers a ρ <ℤ value ring_of_integers b ρ
FactOfℤ (a ≗ b) ρ = value ring_of_integers a ρ ≡ value ring_of_integers b ρ

abbrev pub FactOfℕ : Fact → List ℤ → Type 0
FactOfℕ (a ⊴ b) ρ = part true a ρ + part false b ρ ≤ part true b ρ + part false a ρ
FactOfℕ (a ⊲ b) ρ = part true a ρ + part false b ρ < part true b ρ + part false a ρ
FactOfℕ (a ≗ b) ρ = part true a ρ + part false b ρ ≡ part true b ρ + part false a ρ

abbrev pub ClaimOfℤ : Claim → List ℤ → Type 0
ClaimOfℤ (so a) ρ = FactOfℤ a ρ
ClaimOfℤ (a ⇒ g) ρ = FactOfℤ a ρ → ClaimOfℤ g ρ

abbrev pub ClaimOfℕ : Claim → List ℤ → Type 0
ClaimOfℕ (so a) ρ = FactOfℕ a ρ
ClaimOfℕ (a ⇒ g) ρ = FactOfℕ a ρ → ClaimOfℕ g ρ

-- one more than an expression's value
parts_of_suc : (a : Expression) (ρ : List ℤ) → difference (part true a ρ + 1) (part false a ρ) ≡ value ring_of_integers a ρ +ℤ pos 1
parts_of_suc a ρ =
    ring_ℤ 3 (λ p n c. (p ⊕ c) ⊖ n ≐ (p ⊖ n) ⊕ c) tt (pos (part true a ρ)) (pos (part false a ρ)) (pos 1)
    ∙ ap (λ z. z +ℤ pos 1) (parts_are_value a ρ)

fact_of_ℕ : (a : Fact) (ρ : List ℤ) → FactOfℕ a ρ → FactOfℤ a ρ
fact_of_ℕ (a ⊴ b) ρ h = le_of_sums (part true a ρ) (part false a ρ) (part true b ρ) (part false b ρ) (parts_are_value a ρ) (parts_are_value b ρ) h
fact_of_ℕ (a ⊲ b) ρ h =
    lt_of_suc_le
    (le_of_sums (part true a ρ + 1) (part false a ρ) (part true b ρ) (part false b ρ) (parts_of_suc a ρ) (parts_are_value b ρ) (omega arith))
fact_of_ℕ (a ≗ b) ρ h = equal_of_sums (part true a ρ) (part false a ρ) (part true b ρ) (part false b ρ) (parts_are_value a ρ) (parts_are_value b ρ) h

fact_of_ℤ : (a : Fact) (ρ : List ℤ) → FactOfℤ a ρ → FactOfℕ a ρ
fact_of_ℤ (a ⊴ b) ρ h = sums_of_le (part true a ρ) (part false a ρ) (part true b ρ) (part false b ρ) (parts_are_value a ρ) (parts_are_value b ρ) h
fact_of_ℤ (a ⊲ b) ρ h =
    let g = sums_of_le (part true a ρ + 1) (part false a ρ) (part true b ρ) (part false b ρ) (parts_of_suc a ρ) (parts_are_value b ρ) (suc_le_of_lt h) in
    omega arith
fact_of_ℤ (a ≗ b) ρ h = sums_of_equal (part true a ρ) (part false a ρ) (part true b ρ) (part false b ρ) (parts_are_value a ρ) (parts_are_value b ρ) h

claim_of_ℕ : (g : Claim) (ρ : List ℤ) → ClaimOfℕ g ρ → ClaimOfℤ g ρ
claim_of_ℕ (so a) ρ h = fact_of_ℕ a ρ h
claim_of_ℕ (a ⇒ g) ρ f = λ h. claim_of_ℕ g ρ (f (fact_of_ℤ a ρ h))

pub lin_ℤ : (n : ℕ) (f : Open Claim n) → ForAll {C = ℤ} n (λ ρ. ClaimOfℕ (close n f 0) ρ → ClaimOfℤ (close n f 0) ρ)
lin_ℤ n f = for_all n _ (claim_of_ℕ (close n f 0))
