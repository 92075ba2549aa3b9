-- The exact value of a row: an input's fraction, or what its step makes of the exact values of earlier rows.
use mathlib.Core.Path.{◌≡◌, refl, sym, ap, ◌∙◌}
use mathlib.Core.List.{[], ◌∷◌, ◌++◌}
use Prim.Native.Nat.{ℕ, zero, suc, ◌-◌, ◌≤◌, ◌<◌}
use native.Mathlib.Omega.{arith}
use borrow.Author.Tests.{lt-ltb, le-ltb}
use lib.IntN.{ℤ, pos}
use lib.ListN.{length, get_or}
use Rattle.integer.specs.Fraction.{Fraction, whole}
use Rattle.sheet.specs.declared.Schedule.{Schedule}
use Rattle.sheet.specs.Lines.{natural, step_at}
use Rattle.sheet.proofs.Passing.{Natural}
use Rattle.evaluation.specs.Values.{named_value, exact_step, exact_row, exact_values, exact_value}
use Rattle.evaluation.proofs.Sequence.{grown, length_grown, get_or_grown}

module _ (c : Schedule) (x : ℕ → Fraction) where
  -- the exact values grow as rows do
  exact_grown : (n : ℕ) → exact_values c x n ≡ grown (exact_row c x) n
  unfolding exact_values grown
  exact_grown zero = refl
  exact_grown (suc n) = ap (λ l. l ++ (exact_row c x l ∷ [])) (exact_grown n)

  length_exact : (n : ℕ) → length (exact_values c x n) ≡ n
  length_exact n = ap length (exact_grown n) ∙ length_grown (exact_row c x) n

  -- the exact value that is named is that of the row of that number
  pub named_value_lem : (n : ℕ) (z : ℤ) → Natural 1 n z → named_value (exact_values c x n) z ≡ exact_value c x (natural z - 1)
  named_value_lem n z h =
      ap (λ l. get_or l (natural z - 1) (whole (pos 0))) (exact_grown n)
      ∙ get_or_grown (exact_row c x) n (whole (pos 0)) (natural z - 1) (omega (arith, h.from, h.to))
      ∙ ap (exact_row c x) (sym (exact_grown (natural z - 1)))

  pub input_value : (n : ℕ) → n < natural c.inputs → exact_value c x n ≡ x n
  unfolding exact_row
  input_value n h = rw (length_exact n, lt-ltb n (natural c.inputs) h)

  pub step_value : (n : ℕ) → natural c.inputs ≤ n → exact_value c x n ≡ exact_step (exact_values c x n) (step_at c (n - natural c.inputs))
  unfolding exact_row
  step_value n h = rw (length_exact n, le-ltb n (natural c.inputs) h)
