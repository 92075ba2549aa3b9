-- Dot products with tabulated coefficients: number by number added, and scaled. By induction on the count.
use Prim.Native.Nat.{ℕ, zero, suc}
use lib.IntN.{ℤ, pos, ◌+ℤ◌, ◌*ℤ◌}
use Rattle.integer.proofs.Ring.{CommutativeRing, con, ◌⊕◌, ◌⊗◌, ◌≐◌, ring}
use Rattle.integer.proofs.Sum.{dot}
use Rattle.affine.specs.Lists.{tabulate}

module _ (𝓡 : CommutativeRing) where
  open 𝓡 use {Carrier as C, eq as ◌~◌, add as ◌⊹◌, mul as ◌·◌, whole, eq_refl as rfl, eq_sym as sy, eq_trans as ◌⨟◌, add_cong, mul_cong, zero-add as z-add, whole_add, whole_mul}

  infix 4 ◌~◌
  infixr 3 ◌⨟◌
  infixl 6 ◌⊹◌
  infixl 7 ◌·◌
  pub dot_tabulate_add : (n : ℕ) (f g : ℕ → ℤ) (w : ℕ → C) → dot 𝓡 (tabulate n (λ i. f i +ℤ g i)) w ~ dot 𝓡 (tabulate n f) w ⊹ dot 𝓡 (tabulate n g) w
  unfolding dot tabulate
  dot_tabulate_add zero f g w = sy (z-add _)
  dot_tabulate_add (suc n) f g w =
      add_cong (mul_cong (whole_add (f 0) (g 0)) (rfl _)) (dot_tabulate_add n (λ i. f (suc i)) (λ i. g (suc i)) (λ i. w (suc i)))
      ⨟ ring 𝓡 5 (λ x y h A B. (x ⊕ y) ⊗ h ⊕ (A ⊕ B) ≐ (x ⊗ h ⊕ A) ⊕ (y ⊗ h ⊕ B)) tt _ _ _ _ _

  pub dot_tabulate_scale : (n : ℕ) (c : ℤ) (f : ℕ → ℤ) (w : ℕ → C) → dot 𝓡 (tabulate n (λ i. c *ℤ f i)) w ~ whole c · dot 𝓡 (tabulate n f) w
  unfolding dot tabulate
  dot_tabulate_scale zero c f w = ring 𝓡 1 (λ c. con (pos 0) ≐ c ⊗ con (pos 0)) tt _
  dot_tabulate_scale (suc n) c f w =
      add_cong (mul_cong (whole_mul c (f 0)) (rfl _)) (dot_tabulate_scale n c (λ i. f (suc i)) (λ i. w (suc i)))
      ⨟ ring 𝓡 4 (λ c x h A. (c ⊗ x) ⊗ h ⊕ c ⊗ A ≐ c ⊗ (x ⊗ h ⊕ A)) tt _ _ _ _
