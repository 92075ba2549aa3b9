-- Lists of whole numbers, as the coefficients of a form: their absolute values summed, and the sum of each coefficient times a value.
use Rattle.std.specs.Prelude.{List, [], ◌∷◌, ℕ, suc, ◌+◌, ℤ, pos, nat_abs}
use Rattle.integer.specs.Fraction.{Fraction, whole, ◌+ℚ◌, ◌*ℚ◌}

-- the sum of the absolute values
abbrev pub sum_abs : List ℤ → ℕ
sum_abs [] = 0
sum_abs (x ∷ xs) = nat_abs x + sum_abs xs

-- each coefficient times the value at its index, summed
unfoldable pub weighted_sum : List ℤ → (ℕ → Fraction) → Fraction
weighted_sum [] w = whole (pos 0)
weighted_sum (x ∷ xs) w = whole x *ℚ w 0 +ℚ weighted_sum xs (λ i. w (suc i))
