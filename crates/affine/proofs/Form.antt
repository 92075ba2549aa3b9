-- The value of a row's form, in units, and the product of two of them: the totals' form, and the products that no total holds.
-- Over any commutative ring; the values of the symbols are a function of their index.
use mathlib.Core.Path.{◌≡◌, refl, ap, subst}
use mathlib.Core.Bool.{Bool, true, false}
use mathlib.Core.List.{List, [], ◌∷◌}
use Prim.Native.Nat.{ℕ, zero, suc, ◌≤◌, ◌<◌}
use native.Mathlib.Omega.{arith}
use borrow.Author.Tests.{lt-ltb, le-ltb, ltb-true}
use lib.Dec.{eqb, ltb, leb-suc-suc}
use lib.IntN.{ℤ, pos, ◌+ℤ◌, ◌*ℤ◌, *ℤ-zero, zero-*ℤ}
use lib.ListN.{length, take}
use Rattle.integer.proofs.Ring.{CommutativeRing, con, ◌⊕◌, ◌⊖◌, ◌⊗◌, ◌≐◌, ring}
use Rattle.affine.specs.declared.Row.{Row}
use Rattle.affine.specs.Limits.{symbols, paired, pairs}
use Rattle.affine.specs.Lists.{pick, at, tabulate}
use Rattle.affine.specs.PairOrder.{first_of, second_of, in_use}
use Rattle.affine.specs.Product.{crosswise, meeting, linear_totals, pair_totals, totals}
use Rattle.affine.proofs.Lists.{tabulate_cong, tabulate_at}
use Rattle.affine.proofs.PairOrder.{first_le_second}
use Rattle.affine.proofs.PairSymbols.{tabulate_pairs}
use Rattle.affine.proofs.PairProducts.{meet, product_over_pairs}
use Rattle.integer.proofs.Sum.{dot, dot_nil, dot_cons, dot_path}
use Rattle.affine.proofs.Dot.{dot_tabulate_add, dot_tabulate_scale}

-- a row of as many numbers as a row has
pub record Shaped (r : Row) : Type 0 where
  pub linear : length r.linear ≡ symbols
  pub pair : length r.pair ≡ pairs

-- "Pairs are used only among the first "squares" inputs."
pub record UsesOnly (squares : ℕ) (r : Row) : Type 0 where
  pub unused : (k : ℕ) → k < pairs → in_use squares k ≡ false → at r.pair k ≡ pos 0

-- a coefficient by its index, 0 from the first index on that is not squared
masked : ℕ → List ℤ → ℕ → ℤ
masked squares a i = pick (ltb i squares) (at a i) (pos 0)

masked_in : (squares : ℕ) (a : List ℤ) (i : ℕ) → ltb i squares ≡ true → masked squares a i ≡ at a i
unfolding masked
masked_in squares a i e = rw e

masked_out : (squares : ℕ) (a : List ℤ) (i : ℕ) → ltb i squares ≡ false → masked squares a i ≡ pos 0
unfolding masked
masked_out squares a i e = rw e

zero_total : (c d x y : ℤ) (t : Bool) → pos 0 ≡ crosswise c (pos 0) d (pos 0) +ℤ pick t (x *ℤ pos 0) (x *ℤ pos 0 +ℤ pos 0 *ℤ y)
zero_total c d x y true = simp *ℤ-zero
zero_total c d x y false = simp (*ℤ-zero, zero-*ℤ)

-- a pair's total is its crosswise part and the masked products, where the coefficients of the pairs not in use are 0
masked_total : (squares : ℕ) (c p d q : ℤ) (a b : List ℤ) (i j : ℕ) → i ≤ j → (ltb j squares ≡ false → p ≡ pos 0) → (ltb j squares ≡ false → q ≡ pos 0)
    → pick (ltb j squares) (crosswise c q d p +ℤ meeting a b i j) (pos 0) ≡ crosswise c q d p +ℤ meet (masked squares a) (masked squares b) i j
masked_total squares c p d q a b i j h hp hq = by_test (ltb j squares) refl
  where
    by_test : (t : Bool) → ltb j squares ≡ t → pick t (crosswise c q d p +ℤ meeting a b i j) (pos 0) ≡ crosswise c q d p +ℤ meet (masked squares a) (masked squares b) i j
    by_test true e =
        let g : ltb i squares ≡ true = lt-ltb i squares (omega (arith, ltb-true j squares e)) in
        rw (masked_in squares a i g, masked_in squares b j e, masked_in squares a j e, masked_in squares b i g)
    by_test false e =
        rw (hp e, hq e, masked_out squares b j e, masked_out squares a j e)
        (zero_total c d (masked squares a i) (masked squares b i) (eqb i j))

module _ (𝓡 : CommutativeRing) where
  open 𝓡 use {Carrier as C, eq as ◌~◌, add as ◌⊹◌, mul as ◌·◌, minus, whole, eq_refl as rfl, eq_sym as sy, eq_trans as ◌⨟◌, add_cong, mul_cong, whole_add, whole_mul}

  infix 4 ◌~◌
  infixr 3 ◌⨟◌
  infixl 6 ◌⊹◌
  infixl 7 ◌·◌
  path : {a b : C} → a ≡ b → a ~ b
  path {a} e = subst (λ x. a ~ x) e (rfl a)

  -- the product of a pair's two symbols
  abbrev pub pair_value : (ℕ → C) → ℕ → C
  pair_value ε k = ε (first_of k) · ε (second_of k)

  -- the terms of a row's symbols and pairs
  abbrev pub noise : Row → (ℕ → C) → C
  noise r ε = dot 𝓡 r.linear ε ⊹ dot 𝓡 r.pair (pair_value ε)

  -- the form's value, in units
  abbrev pub units : Row → (ℕ → C) → C
  units r ε = whole r.centre ⊹ noise r ε

  -- the terms of the symbols that stand in pairs in use
  abbrev pub squared_noise : ℕ → Row → (ℕ → C) → C
  squared_noise squares r ε = dot 𝓡 (take squares r.linear) ε

  dot_zeros : (n : ℕ) (w : ℕ → C) → dot 𝓡 (tabulate n (λ i. pos 0)) w ~ whole (pos 0)
  unfolding tabulate
  dot_zeros zero w = dot_nil 𝓡 w
  dot_zeros (suc n) w = dot_cons 𝓡 _ _ w ⨟ add_cong (rfl _) (dot_zeros n (λ i. w (suc i))) ⨟ ring 𝓡 1 (λ x. con (pos 0) ⊗ x ⊕ con (pos 0) ≐ con (pos 0)) tt _

  dot_masked : (n squares : ℕ) (a : List ℤ) (w : ℕ → C) → squares ≤ n → squares ≤ length a → dot 𝓡 (tabulate n (masked squares a)) w ~ dot 𝓡 (take squares a) w
  unfolding tabulate masked
  dot_masked n zero a w h l = dot_path 𝓡 w (tabulate_cong n (λ i _. rw (le-ltb i 0 (omega arith)))) ⨟ dot_zeros n w ⨟ sy (dot_nil 𝓡 w)
  dot_masked zero (suc s) a w h l = absurd (omega arith)
  dot_masked (suc n) (suc s) [] w h l = absurd (omega arith)
  dot_masked (suc n) (suc s) (x ∷ a) w h l =
      dot_cons 𝓡 _ _ w
      ⨟ add_cong (mul_cong (path (ap whole (masked_in (suc s) (x ∷ a) 0 (lt-ltb 0 (suc s) (omega arith))))) (rfl _))
      (dot_path 𝓡 _ (tabulate_cong n (λ i _. rw (leb-suc-suc (suc i) s))) ⨟ dot_masked n s a (λ i. w (suc i)) (omega arith) (omega arith))
      ⨟ sy (dot_cons 𝓡 _ _ w)

  -- ---- the totals' form
  module _ (squares : ℕ) (x y : Row) (sx : Shaped x) (sy' : Shaped y) (ε : ℕ → C) where
    linear_totals_lem : dot 𝓡 (linear_totals x y) ε ~ whole x.centre · dot 𝓡 y.linear ε ⊹ whole y.centre · dot 𝓡 x.linear ε
    unfolding linear_totals
    linear_totals_lem =
        dot_tabulate_add 𝓡 symbols _ _ ε
        ⨟ add_cong (dot_tabulate_scale 𝓡 symbols x.centre (at y.linear) ε ⨟ mul_cong (rfl _) (dot_path 𝓡 ε (tabulate_at y.linear symbols sy'.linear)))
        (dot_tabulate_scale 𝓡 symbols y.centre (at x.linear) ε ⨟ mul_cong (rfl _) (dot_path 𝓡 ε (tabulate_at x.linear symbols sx.linear)))

    module _ (few : squares ≤ paired) (ux : UsesOnly squares x) (uy : UsesOnly squares y) where
      -- the masked products of all pairs are those of two sums
      masked_products : dot 𝓡 (tabulate pairs (λ k. meet (masked squares x.linear) (masked squares y.linear) (first_of k) (second_of k))) (pair_value ε)
          ~ squared_noise squares x ε · squared_noise squares y ε
      masked_products =
          dot_path 𝓡 _ (tabulate_pairs F)
          ⨟ product_over_pairs 𝓡 paired (masked squares x.linear) (masked squares y.linear) ε
          ⨟ mul_cong (dot_masked paired squares x.linear ε few (omega (arith, sx.linear))) (dot_masked paired squares y.linear ε few (omega (arith, sy'.linear)))
        where
          F : ℕ → ℕ → ℤ
          F = meet (masked squares x.linear) (masked squares y.linear)

      pair_totals_lem : dot 𝓡 (pair_totals squares x y) (pair_value ε)
          ~ (whole x.centre · dot 𝓡 y.pair (pair_value ε) ⊹ whole y.centre · dot 𝓡 x.pair (pair_value ε)) ⊹ squared_noise squares x ε · squared_noise squares y ε
      unfolding pair_totals
      pair_totals_lem =
          dot_path 𝓡 _ (tabulate_cong pairs (λ k h. masked_total squares x.centre (at x.pair k) y.centre (at y.pair k) x.linear y.linear (first_of k) (second_of k) (first_le_second paired k h) (ux.unused k h) (uy.unused k h)))
          ⨟ dot_tabulate_add 𝓡 pairs _ _ (pair_value ε)
          ⨟ add_cong
          (dot_tabulate_add 𝓡 pairs _ _ (pair_value ε)
          ⨟ add_cong (dot_tabulate_scale 𝓡 pairs x.centre (at y.pair) (pair_value ε) ⨟ mul_cong (rfl _) (dot_path 𝓡 _ (tabulate_at y.pair pairs sy'.pair)))
          (dot_tabulate_scale 𝓡 pairs y.centre (at x.pair) (pair_value ε) ⨟ mul_cong (rfl _) (dot_path 𝓡 _ (tabulate_at x.pair pairs sx.pair))))
          masked_products

      -- the product of two forms is the totals' form, and the products of two noises that no total holds
      pub product_is_totals : units x ε · units y ε
          ~ units (totals squares x y) ε ⊹ (noise x ε · noise y ε ⊹ minus (squared_noise squares x ε · squared_noise squares y ε))
      product_is_totals =
          ring 𝓡 8 (λ c d A P B Q S T. (c ⊕ (A ⊕ P)) ⊗ (d ⊕ (B ⊕ Q)) ≐ (c ⊗ d ⊕ ((c ⊗ B ⊕ d ⊗ A) ⊕ ((c ⊗ Q ⊕ d ⊗ P) ⊕ S ⊗ T))) ⊕ ((A ⊕ P) ⊗ (B ⊕ Q) ⊖ S ⊗ T)) tt
          (whole x.centre) (whole y.centre) (dot 𝓡 x.linear ε) (dot 𝓡 x.pair (pair_value ε)) (dot 𝓡 y.linear ε) (dot 𝓡 y.pair (pair_value ε)) (squared_noise squares x ε) (squared_noise squares y ε)
          ⨟ add_cong (add_cong (sy (whole_mul x.centre y.centre)) (add_cong (sy linear_totals_lem) (sy pair_totals_lem))) (rfl _)
