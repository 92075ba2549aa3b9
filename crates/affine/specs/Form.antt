-- "A row" (manual, section 4.6): "The form's value is the centre plus each coefficient times its symbol, or times the product of its pair's two symbols,
-- all worked in fractions and divided by 4096; it is not rounded." The values of the symbols are a function of the index, counted from 0.
use Rattle.std.specs.Prelude.{ℕ, pos}
use Rattle.integer.specs.Fraction.{Fraction, ◌+ℚ◌, ◌*ℚ◌, ◌/ℚ◌, whole}
use Rattle.integer.specs.Sum.{weighted_sum}
use Rattle.affine.specs.declared.Row.{Row}
use Rattle.affine.specs.Limits.{unit}
use Rattle.affine.specs.PairOrder.{first_of, second_of}

unfoldable pub form_value : Row → (ℕ → Fraction) → Fraction
form_value r ε =
    (whole r.centre +ℚ (weighted_sum r.linear ε +ℚ weighted_sum r.pair (λ k. ε (first_of k) *ℚ ε (second_of k)))) /ℚ whole (pos unit)
