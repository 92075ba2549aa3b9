-- Dot products of whole-number coefficients with values of any commutative ring, and sums of absolute values: both follow the addition,
-- scaling, appending and lengthening of lists, by induction; and |dot| is at most the sum of absolutes where the values lie from -1 to 1.
use mathlib.Core.Path.{◌≡◌, sym, ◌∙◌, subst}
use mathlib.Core.List.{List, [], ◌∷◌, ◌++◌, map}
use mathlib.Core.Logic.{◌≢◌, ◌⊎◌, inl, inr}
use Prim.Native.Nat.{ℕ, zero, suc, ◌+◌, ◌*◌, ◌≤◌, ◌<◌}
use native.Mathlib.Nat.{zero-add, suc-add}
use native.Mathlib.Numerals.{add-one}
use native.Mathlib.Omega.{arith}
use lib.ListN.{length, get_or, take, set}
use lib.Seq.{take-suc}
use lib.IntN.{ℤ, pos, nat_abs, ◌+ℤ◌, ◌*ℤ◌}
use Rattle.integer.specs.Fraction.{Fraction, ◌≈◌, whole, ◌*ℚ◌}
use Rattle.integer.specs.Sum.{sum_abs, weighted_sum}
use Rattle.integer.proofs.Absolute.{nat_abs_add, nat_abs_mul}
use Rattle.integer.proofs.Ring.{CommutativeRing, con, ◌⊕◌, ◌⊖◌, ◌⊗◌, ◌≐◌, ring}
use Rattle.integer.proofs.Certificate.{OrderedRing}
use Rattle.integer.proofs.Bound.{Bound, bound_add, bound_mul, bound_cong, bound_whole}
use Rattle.integer.proofs.Fraction.{ring_of_fractions, ≈_refl, +ℚ_cong}

-- ---- sums of absolute values
pub sum_abs_append : (xs ys : List ℤ) → sum_abs (xs ++ ys) ≡ sum_abs xs + sum_abs ys
sum_abs_append [] ys = sym (zero-add (sum_abs ys))
sum_abs_append (x ∷ xs) ys = let h = sum_abs_append xs ys in omega arith

-- number by number; where one list ends, the other's numbers stand alone
abbrev pub add_lists : List ℤ → List ℤ → List ℤ
add_lists [] ys = ys
add_lists (x ∷ xs) [] = x ∷ xs
add_lists (x ∷ xs) (y ∷ ys) = (x +ℤ y) ∷ add_lists xs ys

-- each number times c
abbrev pub scale_list : ℤ → List ℤ → List ℤ
scale_list c [] = []
scale_list c (x ∷ xs) = (c *ℤ x) ∷ scale_list c xs

pub sum_abs_add : (xs ys : List ℤ) → sum_abs (add_lists xs ys) ≤ sum_abs xs + sum_abs ys
sum_abs_add [] ys = omega arith
sum_abs_add (x ∷ xs) [] = omega arith
sum_abs_add (x ∷ xs) (y ∷ ys) = let h = sum_abs_add xs ys in let t = nat_abs_add x y in omega arith

pub sum_abs_scale : (c : ℤ) (xs : List ℤ) → sum_abs (scale_list c xs) ≡ nat_abs c * sum_abs xs
sum_abs_scale c [] = omega arith
sum_abs_scale c (x ∷ xs) = let h = sum_abs_scale c xs in let t = nat_abs_mul c x in omega arith

-- one element more of a list that is read from the front
pub sum_abs_more : (xs : List ℤ) (i : ℕ) → i < length xs → sum_abs (take (i + 1) xs) ≡ sum_abs (take i xs) + nat_abs (get_or xs i (pos 0))
sum_abs_more xs i h =
    rw (add-one, take-suc xs i (pos 0))
    (sum_abs_append (take i xs) (get_or xs i (pos 0) ∷ []) ∙ omega arith)

pub sum_abs_element : (xs : List ℤ) (i : ℕ) → nat_abs (get_or xs i (pos 0)) ≤ sum_abs xs
sum_abs_element [] i = omega arith
sum_abs_element (x ∷ xs) zero = omega arith
sum_abs_element (x ∷ xs) (suc i) = let h = sum_abs_element xs i in omega arith

pub sum_abs_take : (n : ℕ) (xs : List ℤ) → sum_abs (take n xs) ≤ sum_abs xs
sum_abs_take zero xs = omega arith
sum_abs_take (suc n) [] = omega arith
sum_abs_take (suc n) (x ∷ xs) = let h = sum_abs_take n xs in omega arith

-- ---- dot products: the coefficients are a list, the values a function of the index
module _ (𝓡 : CommutativeRing) where
  open 𝓡 use {Carrier as C, eq as ◌~◌, add as ◌⊹◌, mul as ◌·◌, minus, whole as k, eq_refl as rfl, eq_sym as sy, eq_trans as ◌⨟◌, add_cong, mul_cong, zero-add as z-add, whole_add, whole_mul}

  infix 4 ◌~◌
  infixr 3 ◌⨟◌
  infixl 6 ◌⊹◌
  infixl 7 ◌·◌
  unfoldable pub dot : List ℤ → (ℕ → C) → C
  dot [] w = k (pos 0)
  dot (x ∷ a) w = k x · w 0 ⊹ dot a (λ i. w (suc i))

  pub dot_nil : (w : ℕ → C) → dot [] w ~ k (pos 0)
  unfolding dot
  dot_nil w = rfl _

  pub dot_cons : (x : ℤ) (a : List ℤ) (w : ℕ → C) → dot (x ∷ a) w ~ k x · w 0 ⊹ dot a (λ i. w (suc i))
  unfolding dot
  dot_cons x a w = rfl _

  pub dot_path : {a b : List ℤ} (w : ℕ → C) → a ≡ b → dot a w ~ dot b w
  dot_path {a} w e = subst (λ b. dot a w ~ dot b w) e (rfl _)

  -- a term whose coefficient is 0 may have any value
  term_same : (x : ℤ) {u w : C} → (x ≡ pos 0) ⊎ (u ~ w) → k x · u ~ k x · w
  term_same x {u} {w} (inl e) = subst (λ z. k z · u ~ k z · w) (sym e) (ring 𝓡 2 (λ a b. con (pos 0) ⊗ a ≐ con (pos 0) ⊗ b) tt u w)
  term_same x (inr e) = mul_cong (rfl _) e

  -- only the values beside coefficients that are not 0 count
  pub dot_same : (a : List ℤ) {u w : ℕ → C} → ((i : ℕ) → i < length a → (get_or a i (pos 0) ≡ pos 0) ⊎ (u i ~ w i)) → dot a u ~ dot a w
  unfolding dot
  dot_same [] h = rfl _
  dot_same (x ∷ a) h = add_cong (term_same x (h 0 (omega arith))) (dot_same a (λ i l. h (suc i) (omega arith)))

  pub dot_cong : (a : List ℤ) {u w : ℕ → C} → ((i : ℕ) → i < length a → u i ~ w i) → dot a u ~ dot a w
  dot_cong a h = dot_same a (λ i l. inr (h i l))

  pub dot_scale_values : (x : C) (a : List ℤ) (w : ℕ → C) → dot a (λ i. x · w i) ~ x · dot a w
  unfolding dot
  dot_scale_values x [] w = ring 𝓡 1 (λ x. con (pos 0) ≐ x ⊗ con (pos 0)) tt _
  dot_scale_values x (y ∷ a) w =
      add_cong (rfl _) (dot_scale_values x a (λ i. w (suc i)))
      ⨟ ring 𝓡 4 (λ x y v A. y ⊗ (x ⊗ v) ⊕ x ⊗ A ≐ x ⊗ (y ⊗ v ⊕ A)) tt _ _ _ _

  pub dot_append : (a b : List ℤ) (w : ℕ → C) → dot (a ++ b) w ~ dot a w ⊹ dot b (λ i. w (length a + i))
  unfolding dot
  dot_append [] b w = dot_cong b (λ i l. subst (λ j. w i ~ w j) (sym (zero-add i)) (rfl _)) ⨟ sy (z-add _)
  dot_append (x ∷ a) b w =
      add_cong (rfl _)
      (dot_append a b (λ i. w (suc i))
      ⨟ add_cong (rfl _) (dot_cong b (λ i l. subst (λ j. w (suc (length a + i)) ~ w j) (sym (suc-add (length a) i)) (rfl _))))
      ⨟ ring 𝓡 3 (λ x A B. x ⊕ (A ⊕ B) ≐ x ⊕ A ⊕ B) tt _ _ _

  -- each coefficient taken apart, as a number is into its quotient and remainder
  pub dot_split : (c : ℤ) (f g : ℤ → ℤ) → ((x : ℤ) → x ≡ c *ℤ f x +ℤ g x) → (a : List ℤ) (w : ℕ → C)
      → dot a w ~ k c · dot (map f a) w ⊹ dot (map g a) w
  unfolding dot
  dot_split c f g h [] w = ring 𝓡 1 (λ c. con (pos 0) ≐ c ⊗ con (pos 0) ⊕ con (pos 0)) tt _
  dot_split c f g h (x ∷ a) w =
      add_cong (mul_cong parts (rfl _)) (dot_split c f g h a (λ i. w (suc i)))
      ⨟ ring 𝓡 6 (λ c q r v Q R. (c ⊗ q ⊕ r) ⊗ v ⊕ (c ⊗ Q ⊕ R) ≐ c ⊗ (q ⊗ v ⊕ Q) ⊕ (r ⊗ v ⊕ R)) tt _ _ _ _ _ _
    where
      parts : k x ~ k c · k (f x) ⊹ k (g x)
      parts = subst (λ y. k y ~ k c · k (f x) ⊹ k (g x)) (sym (h x)) (whole_add _ _ ⨟ add_cong (whole_mul _ _) (rfl _))

  -- a coefficient whose value is 0 may be any number
  pub dot_set : (a : List ℤ) (i : ℕ) (v : ℤ) (w : ℕ → C) → w i ~ k (pos 0) → dot (set a i v) w ~ dot a w
  unfolding dot
  dot_set [] i v w h = rfl _
  dot_set (x ∷ a) zero v w h =
      add_cong (mul_cong (rfl _) h ⨟ ring 𝓡 2 (λ v x. v ⊗ con (pos 0) ≐ x ⊗ con (pos 0)) tt _ _ ⨟ mul_cong (rfl _) (sy h)) (rfl _)
  dot_set (x ∷ a) (suc i) v w h = add_cong (rfl _) (dot_set a i v (λ j. w (suc j)) h)

  -- one value changed
  pub dot_change : (a : List ℤ) (i : ℕ) {u w : ℕ → C} → ((j : ℕ) → j ≢ i → (get_or a j (pos 0) ≡ pos 0) ⊎ (u j ~ w j))
      → dot a u ~ dot a w ⊹ k (get_or a i (pos 0)) · (u i ⊹ minus (w i))
  unfolding dot
  dot_change [] i h = ring 𝓡 1 (λ d. con (pos 0) ≐ con (pos 0) ⊕ con (pos 0) ⊗ d) tt _
  dot_change (x ∷ a) zero {u} {w} h =
      add_cong (rfl _) (dot_same a (λ j l. h (suc j) (λ e. let f : suc j ≡ 0 = e in omega arith)))
      ⨟ ring 𝓡 4 (λ x u w A. x ⊗ u ⊕ A ≐ (x ⊗ w ⊕ A) ⊕ x ⊗ (u ⊖ w)) tt _ _ _ _
  dot_change (x ∷ a) (suc i) {u} {w} h =
      add_cong (term_same x (h 0 (λ e. let f : 0 ≡ suc i = e in omega arith)))
      (dot_change a i {u = λ j. u (suc j)} {w = λ j. w (suc j)} (λ j n. h (suc j) (λ e. n (let f : suc j ≡ suc i = e in omega arith))))
      ⨟ ring 𝓡 4 (λ x w A E. x ⊗ w ⊕ (A ⊕ E) ≐ (x ⊗ w ⊕ A) ⊕ E) tt _ _ _ _

-- ---- bounds
module _ (𝓞 : OrderedRing) where
  open 𝓞.ring use {Carrier as C, whole as k, eq_refl as rfl, eq_sym as sy, eq_trans as ◌⨟◌, whole_add}

  infixr 3 ◌⨟◌
  pub dot_within : (a : List ℤ) (w : ℕ → C) → ((i : ℕ) → Bound 𝓞 (w i) (k (pos 1))) → Bound 𝓞 (dot 𝓞.ring a w) (k (pos (sum_abs a)))
  unfolding dot
  dot_within [] w h = bound_whole 𝓞 (pos 0)
  dot_within (x ∷ a) w h =
      bound_cong 𝓞 (rfl _)
      (ring 𝓞.ring 2 (λ x s. x ⊗ con (pos 1) ⊕ s ≐ x ⊕ s) tt _ _ ⨟ sy (whole_add (pos (nat_abs x)) (pos (sum_abs a))))
      (bound_add 𝓞 (bound_mul 𝓞 (bound_whole 𝓞 x) (h 0)) (dot_within a (λ i. w (suc i)) (λ i. h (suc i))))

-- ---- the sum over fractions is the dot product
pub weighted_sum_is_dot : (a : List ℤ) (w : ℕ → Fraction) → weighted_sum a w ≈ dot ring_of_fractions a w
unfolding weighted_sum dot
weighted_sum_is_dot [] w = ≈_refl (whole (pos 0))
weighted_sum_is_dot (x ∷ a) w = +ℚ_cong (≈_refl (whole x *ℚ w 0)) (weighted_sum_is_dot a (λ i. w (suc i)))
