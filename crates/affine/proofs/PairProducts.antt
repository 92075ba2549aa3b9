-- The product of two sums over symbols is one sum over the pairs of symbols: the products that meet in a pair, times the pair's two values.
-- Over any commutative ring, by induction on the number of symbols along the order of the pairs.
use mathlib.Core.Path.{◌≡◌, sym, ap, ◌∙◌, subst, fun_ext}
use mathlib.Core.List.{List, ◌++◌}
use Prim.Native.Nat.{ℕ, zero, suc, ◌+◌, ◌<◌}
use lib.Dec.{eqb, eqb-zero-suc, eqb-suc-suc}
use lib.IntN.{ℤ, pos, ◌+ℤ◌, ◌*ℤ◌, *ℤ_comm}
use lib.ListN.{get_or, get_or-append}
use lib.Seq.{get_or-append-add}
use Rattle.integer.proofs.Ring.{CommutativeRing, con, ◌⊕◌, ◌⊗◌, ◌≐◌, ring}
use Rattle.affine.specs.Lists.{pick, tabulate}
use Rattle.affine.specs.PairOrder.{over_pairs, firsts, seconds}
use Rattle.affine.proofs.Lists.{length_tabulate, get_or_tabulate}
use Rattle.affine.proofs.PairOrder.{length_over_pairs, get_or_over_pairs}
use Rattle.integer.proofs.Sum.{dot, dot_nil, dot_cons, dot_cong, dot_path, dot_append, dot_scale_values}
use Rattle.affine.proofs.Dot.{dot_tabulate_add, dot_tabulate_scale}

-- the products that meet in a pair, of coefficients by index
abbrev pub meet : (ℕ → ℤ) → (ℕ → ℤ) → ℕ → ℕ → ℤ
meet f g i j = pick (eqb i j) (f i *ℤ g j) (f i *ℤ g j +ℤ f j *ℤ g i)

meet_first : (f g : ℕ → ℤ) (j : ℕ) → meet f g 0 (suc j) ≡ f 0 *ℤ g (suc j) +ℤ f (suc j) *ℤ g 0
meet_first f g j = rw (eqb-zero-suc j)

meet_later : (f g : ℕ → ℤ) (i j : ℕ) → meet f g (suc i) (suc j) ≡ meet (λ n. f (suc n)) (λ n. g (suc n)) i j
meet_later f g i j = rw (eqb-suc-suc i j)

module _ (𝓡 : CommutativeRing) where
  open 𝓡 use {Carrier as C, eq as ◌~◌, add as ◌⊹◌, mul as ◌·◌, minus, whole, eq_refl as rfl, eq_sym as sy, eq_trans as ◌⨟◌, add_cong, mul_cong, whole_mul}

  infix 4 ◌~◌
  infixr 3 ◌⨟◌
  infixl 6 ◌⊹◌
  infixl 7 ◌·◌
  path : {a b : C} → a ≡ b → a ~ b
  path {a} e = subst (λ x. a ~ x) e (rfl a)

  -- values in the order of the pairs, by index
  listed : ℕ → (ℕ → ℕ → C) → ℕ → C
  listed n v k = get_or (over_pairs n v) k (whole (pos 0))

  -- the first symbol's pairs taken off
  over_pairs_step : (n : ℕ) (c : ℕ → ℕ → ℤ) (v : ℕ → ℕ → C) → dot 𝓡 (over_pairs (suc n) c) (listed (suc n) v)
      ~ whole (c 0 0) · v 0 0 ⊹ (dot 𝓡 (tabulate n (λ j. c 0 (suc j))) (λ j. v 0 (suc j)) ⊹ dot 𝓡 (over_pairs n (λ i j. c (suc i) (suc j))) (listed n (λ i j. v (suc i) (suc j))))
  unfolding over_pairs listed
  over_pairs_step n c v =
      dot_cons 𝓡 _ _ _
      ⨟ add_cong (rfl _)
      (dot_append 𝓡 (tabulate n (λ j. c 0 (suc j))) _ _
      ⨟ add_cong
      (dot_cong 𝓡 (tabulate n (λ j. c 0 (suc j)))
      (λ k h. let l : k < n = rw (length_tabulate n (λ j. c 0 (suc j))) at h in
      path (get_or-append row later (whole (pos 0)) k (rw (length_tabulate n (λ j. v 0 (suc j))) l) ∙ get_or_tabulate n (λ j. v 0 (suc j)) (whole (pos 0)) k l)))
      (dot_cong 𝓡 (over_pairs n (λ i j. c (suc i) (suc j)))
      (λ k h. path (ap (λ m. get_or (row ++ later) (m + k) (whole (pos 0))) (length_tabulate n (λ j. c 0 (suc j)) ∙ sym (length_tabulate n (λ j. v 0 (suc j)))) ∙ get_or-append-add row later k (whole (pos 0))))))
    where
      row : List C
      row = tabulate n (λ j. v 0 (suc j))

      later : List C
      later = over_pairs n (λ i j. v (suc i) (suc j))

  product_listed : (n : ℕ) (f g : ℕ → ℤ) (e : ℕ → C)
      → dot 𝓡 (over_pairs n (meet f g)) (listed n (λ i j. e i · e j)) ~ dot 𝓡 (tabulate n f) e · dot 𝓡 (tabulate n g) e
  unfolding over_pairs tabulate
  product_listed zero f g e = dot_nil 𝓡 _ ⨟ ring 𝓡 0 (con (pos 0) ≐ con (pos 0) ⊗ con (pos 0)) tt ⨟ mul_cong (sy (dot_nil 𝓡 e)) (sy (dot_nil 𝓡 e))
  product_listed (suc n) f g e =
      over_pairs_step n (meet f g) (λ i j. e i · e j)
      ⨟ add_cong (mul_cong (whole_mul (f 0) (g 0)) (rfl _))
      (add_cong
      (dot_path 𝓡 _ (ap (λ h. tabulate n h) (fun_ext (λ j. meet_first f g j)))
      ⨟ dot_scale_values 𝓡 (e 0) _ (λ j. e (suc j))
      ⨟ mul_cong (rfl _)
      (dot_tabulate_add 𝓡 n (λ j. f 0 *ℤ g (suc j)) (λ j. f (suc j) *ℤ g 0) (λ j. e (suc j))
      ⨟ add_cong (dot_tabulate_scale 𝓡 n (f 0) (λ j. g (suc j)) (λ j. e (suc j)))
      (dot_path 𝓡 _ (ap (λ h. tabulate n h) (fun_ext (λ j. *ℤ_comm (f (suc j)) (g 0)))) ⨟ dot_tabulate_scale 𝓡 n (g 0) (λ j. f (suc j)) (λ j. e (suc j)))))
      (dot_path 𝓡 _ (ap (λ h. over_pairs n h) (fun_ext (λ i. fun_ext (λ j. meet_later f g i j))))
      ⨟ product_listed n (λ i. f (suc i)) (λ i. g (suc i)) (λ i. e (suc i))))
      ⨟ ring 𝓡 5 (λ x y e A B. (x ⊗ y) ⊗ (e ⊗ e) ⊕ (e ⊗ (x ⊗ B ⊕ y ⊗ A) ⊕ A ⊗ B) ≐ (x ⊗ e ⊕ A) ⊗ (y ⊗ e ⊕ B)) tt _ _ _ _ _
      ⨟ mul_cong (sy (dot_cons 𝓡 _ _ _)) (sy (dot_cons 𝓡 _ _ _))

  pub product_over_pairs : (n : ℕ) (f g : ℕ → ℤ) (e : ℕ → C)
      → dot 𝓡 (over_pairs n (meet f g)) (λ k. e (get_or (firsts n) k 0) · e (get_or (seconds n) k 0)) ~ dot 𝓡 (tabulate n f) e · dot 𝓡 (tabulate n g) e
  unfolding listed
  product_over_pairs n f g e =
      dot_cong 𝓡 (over_pairs n (meet f g))
      (λ k h. path (sym (get_or_over_pairs n (λ i j. e i · e j) (whole (pos 0)) k (rw (length_over_pairs n (meet f g)) at h))))
      ⨟ product_listed n f g e
