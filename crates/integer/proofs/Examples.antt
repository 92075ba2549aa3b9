-- Worked examples: divisions on both sides of 0 by divisors of both signs, exact halves and their neighbours, roots, and one use each of the solver and of the two provers of orders.
use mathlib.Core.Path.{◌≡◌, refl}
use mathlib.Core.List.{List, [], ◌∷◌, map}
use native.Mathlib.Omega.{arith}
use lib.IntN.{ℤ, pos, negsuc, neg_ℤ, nat_abs, ◌+ℤ◌, ◌-ℤ◌, ◌*ℤ◌}
use lib.Signed.{◌≤ℤ◌}
use Rattle.integer.specs.Floor.{floor_quotient, floor_remainder}
use Rattle.integer.specs.Nearest.{nearest_quotient, nearest_remainder}
use Rattle.integer.specs.Root.{root, root_in}
use Rattle.integer.specs.Fraction.{Fraction, ◌≤ℚ◌, ◌+ℚ◌, ◌*ℚ◌, whole}
use Rattle.integer.proofs.Ring.{var, con, ◌⊕◌, ◌⊖◌, ◌⊗◌, neg, ◌≐◌}
use Rattle.integer.proofs.IntegerRing.{ring_ℤ}
use Rattle.integer.proofs.Linear.{lin_ℤ, ◌⊴◌, ◌⇒◌, so}
use Rattle.integer.proofs.Certificate.{certify, hyp, sqr, ◌⊞◌, ◌⊠◌, ◌≼◌, ◌⊢◌}
use Rattle.integer.proofs.Order.{ordered_integers}
use Rattle.integer.proofs.Fraction.{ordered_fractions}

-- dividend, divisor, quotient and remainder
record Division : Type 0 where
  dividend : ℤ
  divisor : ℤ
  quotient : ℤ
  remainder : ℤ

divisions : List Division
divisions =
    record { dividend = pos 4095; divisor = pos 4096; quotient = pos 0; remainder = pos 4095 }
    ∷ record { dividend = negsuc 0; divisor = pos 4096; quotient = negsuc 0; remainder = pos 4095 }
    ∷ record { dividend = negsuc 4095; divisor = pos 4096; quotient = negsuc 0; remainder = pos 0 }
    ∷ record { dividend = pos 16777216; divisor = negsuc 12287; quotient = negsuc 1365; remainder = negsuc 8191 }
    ∷ record { dividend = negsuc 16777215; divisor = negsuc 12287; quotient = pos 1365; remainder = negsuc 4095 }
    ∷ []

divide : Division → Division
divide e =
    record {
      dividend = e.dividend;
      divisor = e.divisor;
      quotient = floor_quotient e.dividend e.divisor;
      remainder = floor_remainder e.dividend e.divisor;
    }

divisions_hold : map divide divisions ≡ divisions
unfolding divisions divide floor_quotient floor_remainder
divisions_hold = refl

-- to the nearest by 4096: exact halves, which go upward on both sides of 0, and their neighbours; by 3, which has no halves
nearest : List Division
nearest =
    record { dividend = pos 2047; divisor = pos 4096; quotient = pos 0; remainder = pos 2047 }
    ∷ record { dividend = pos 2048; divisor = pos 4096; quotient = pos 1; remainder = negsuc 2047 }
    ∷ record { dividend = pos 2049; divisor = pos 4096; quotient = pos 1; remainder = negsuc 2046 }
    ∷ record { dividend = pos 6144; divisor = pos 4096; quotient = pos 2; remainder = negsuc 2047 }
    ∷ record { dividend = negsuc 0; divisor = pos 4096; quotient = pos 0; remainder = negsuc 0 }
    ∷ record { dividend = negsuc 2046; divisor = pos 4096; quotient = pos 0; remainder = negsuc 2046 }
    ∷ record { dividend = negsuc 2047; divisor = pos 4096; quotient = pos 0; remainder = negsuc 2047 }
    ∷ record { dividend = negsuc 2048; divisor = pos 4096; quotient = negsuc 0; remainder = pos 2047 }
    ∷ record { dividend = negsuc 6143; divisor = pos 4096; quotient = negsuc 0; remainder = negsuc 2047 }
    ∷ record { dividend = pos 4; divisor = pos 3; quotient = pos 1; remainder = pos 1 }
    ∷ record { dividend = pos 5; divisor = pos 3; quotient = pos 2; remainder = negsuc 0 }
    ∷ []

divide_nearest : Division → Division
divide_nearest e =
    record {
      dividend = e.dividend;
      divisor = e.divisor;
      quotient = nearest_quotient e.dividend (nat_abs e.divisor);
      remainder = nearest_remainder e.dividend (nat_abs e.divisor);
    }

nearest_hold : map divide_nearest nearest ≡ nearest
unfolding nearest divide_nearest floor_quotient nearest_quotient nearest_remainder
nearest_hold = refl

-- perfect squares and their neighbours, and the greatest 64-bit number
roots_hold : map root (0 ∷ 1 ∷ 2 ∷ 3 ∷ 4 ∷ 8 ∷ 9 ∷ 10 ∷ 16777215 ∷ 16777216 ∷ 16777217 ∷ 18446744073709551615 ∷ [])
    ≡ 0 ∷ 1 ∷ 1 ∷ 1 ∷ 2 ∷ 2 ∷ 3 ∷ 3 ∷ 4095 ∷ 4096 ∷ 4096 ∷ 4294967295 ∷ []
unfolding root root_in
roots_hold = refl

-- an identity of degree 6 in 8 variables
product_of_squares : (a b c d e f g h : ℤ)
    → (a *ℤ b *ℤ c +ℤ d *ℤ e *ℤ f +ℤ g *ℤ h) *ℤ (a *ℤ b *ℤ c +ℤ d *ℤ e *ℤ f -ℤ g *ℤ h)
    ≡ a *ℤ a *ℤ b *ℤ b *ℤ c *ℤ c +ℤ pos 2 *ℤ (a *ℤ b *ℤ c *ℤ d *ℤ e *ℤ f) +ℤ d *ℤ d *ℤ e *ℤ e *ℤ f *ℤ f -ℤ g *ℤ g *ℤ h *ℤ h
product_of_squares =
    ring_ℤ 8
    (λ a b c d e f g h.
    (a ⊗ b ⊗ c ⊕ d ⊗ e ⊗ f ⊕ g ⊗ h) ⊗ (a ⊗ b ⊗ c ⊕ d ⊗ e ⊗ f ⊖ g ⊗ h)
    ≐ a ⊗ a ⊗ b ⊗ b ⊗ c ⊗ c ⊕ con (pos 2) ⊗ (a ⊗ b ⊗ c ⊗ d ⊗ e ⊗ f) ⊕ d ⊗ d ⊗ e ⊗ e ⊗ f ⊗ f ⊖ g ⊗ g ⊗ h ⊗ h)
    tt

-- 2 x y ≤ x² + y² over fractions, by a square
twice_product : (x y : Fraction) → whole (pos 2) *ℚ x *ℚ y ≤ℚ x *ℚ x +ℚ y *ℚ y
twice_product = certify ordered_fractions 2 (λ x y. [] ⊢ (con (pos 2) ⊗ x ⊗ y ≼ x ⊗ x ⊕ y ⊗ y)) 0 (sqr (var 0 ⊖ var 1)) tt

-- a linear order over ℤ
weighted_sum_monotone : (a b c d : ℤ) → a ≤ℤ b → c ≤ℤ d → (a +ℤ pos 2 *ℤ c) ≤ℤ (b +ℤ pos 2 *ℤ d)
weighted_sum_monotone a b c d = lin_ℤ 4 (λ a b c d. a ⊴ b ⇒ c ⊴ d ⇒ so (a ⊕ con (pos 2) ⊗ c ⊴ b ⊕ con (pos 2) ⊗ d)) a b c d (omega arith)

-- |x| ≤ a and |y| ≤ b give x y ≤ a b, by products of the hypotheses
product_within : (x y a b : ℤ) → neg_ℤ a ≤ℤ x → x ≤ℤ a → neg_ℤ b ≤ℤ y → y ≤ℤ b → (x *ℤ y) ≤ℤ (a *ℤ b)
product_within =
    certify ordered_integers 4
    (λ x y a b. (neg a ≼ x) ∷ (x ≼ a) ∷ (neg b ≼ y) ∷ (y ≼ b) ∷ [] ⊢ (x ⊗ y ≼ a ⊗ b)) 1 (hyp 1 ⊠ hyp 2 ⊞ hyp 0 ⊠ hyp 3) tt
