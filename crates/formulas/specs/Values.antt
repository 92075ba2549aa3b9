-- The exact value of a formula, in fractions.
use Rattle.std.specs.Prelude.{ℕ, pos, ⊤}
use Rattle.integer.specs.Fraction.{Fraction, ◌≈◌, ◌+ℚ◌, ◌-ℚ◌, ◌*ℚ◌, whole, reciprocal}
use Rattle.evaluation.specs.Values.{in_units}
use Rattle.formulas.specs.Grammar.{Tree, letter, literal, binary}
use Rattle.formulas.specs.declared.Sign.{Sign}
use Rattle.formulas.specs.declared.Sign.TheVariants.{Plus, Minus, Times, Over}

-- What a sign makes of two values; a division multiplies by the exact reciprocal.
abbrev pub sign_value : Sign → Fraction → Fraction → Fraction
sign_value Plus a b = a +ℚ b
sign_value Minus a b = a -ℚ b
sign_value Times a b = a *ℚ b
sign_value Over a b = a *ℚ reciprocal b

-- A letter is the fraction given for its input, counted from 0; a literal is itself over 4096.
unfoldable pub value : (ℕ → Fraction) → Tree → Fraction
value x (letter i) = x i
value x (literal v) = in_units (pos v)
value x (binary g a b) = sign_value g (value x a) (value x b)

-- What a division makes of a by b, times b, is a again, wherever b is not 0; of other signs nothing is said.
abbrev pub Divides : Sign → Fraction → Fraction → Type 0
Divides Plus a b = ⊤
Divides Minus a b = ⊤
Divides Times a b = ⊤
Divides Over a b = ¬ (b ≈ whole (pos 0)) → sign_value Over a b *ℚ b ≈ a

-- That holds of each sign of a formula and of what stands on both sides of it.
unfoldable pub EachDivides : (ℕ → Fraction) → Tree → Type 0
EachDivides x (letter i) = ⊤
EachDivides x (literal v) = ⊤
EachDivides x (binary g a b) = Divides g (value x a) (value x b) × EachDivides x a × EachDivides x b
