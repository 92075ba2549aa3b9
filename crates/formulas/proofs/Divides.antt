-- A division's value times that of its right is that of its left.
use Prim.Native.Nat.{ℕ}
use Rattle.integer.specs.Fraction.{Fraction, ◌/ℚ◌}
use Rattle.integer.proofs.Fraction.{≈_trans, *ℚ_comm, ≈_zero_of_upper, times_quotient}
use Rattle.formulas.specs.Grammar.{Tree, letter, literal, binary}
use Rattle.formulas.specs.Values.{value, Divides, EachDivides}
use Rattle.formulas.specs.declared.Sign.{Sign}
use Rattle.formulas.specs.declared.Sign.TheVariants.{Plus, Minus, Times, Over}

divides : (g : Sign) (a b : Fraction) → Divides g a b
divides Plus a b = tt
divides Minus a b = tt
divides Times a b = tt
divides Over a b = λ some. ≈_trans (*ℚ_comm (a /ℚ b) b) (times_quotient a b (λ e. some (≈_zero_of_upper e)))

pub each_divides : (x : ℕ → Fraction) (t : Tree) → EachDivides x t
unfolding EachDivides
each_divides x (letter i) = tt
each_divides x (literal v) = tt
each_divides x (binary g a b) = (divides g (value x a) (value x b), each_divides x a, each_divides x b)
