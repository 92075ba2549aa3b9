-- The steps made from a formula have its exact value.
use mathlib.Core.Path.{◌≡◌, refl, ap, ap₂, ◌∙◌}
use mathlib.Core.List.{List, [], ◌∷◌}
use Prim.Native.Nat.{ℕ, suc, ◌+◌, ◌-◌, ◌≤◌}
use native.Mathlib.Omega.{arith}
use lib.IntN.{pos}
use Rattle.integer.specs.Fraction.{Fraction, ◌+ℚ◌, ◌-ℚ◌, ◌*ℚ◌, reciprocal}
use Rattle.capacity.specs.Limits.{max_steps}
use Rattle.sheet.specs.Lines.{natural, step_at}
use Rattle.sheet.specs.declared.Step.{Step}
use Rattle.sheet.specs.declared.Schedule.{Schedule}
use Rattle.evaluation.proofs.ExactRows.{named_value_lem, input_value, step_value}
use Rattle.evaluation.specs.Work.{row_count}
use Rattle.evaluation.specs.Values.{named_value, exact_step, exact_values, exact_value}
use Rattle.formulas.specs.Grammar.{Tree, letter, literal, binary}
use Rattle.formulas.specs.Values.{sign_value, value}
use Rattle.formulas.specs.Steps.{step_of, sign_steps, sign_count, step_count, row_of, steps_of, schedule_of}
use Rattle.formulas.specs.Claims.{Accepted}
use Rattle.formulas.specs.declared.Sign.{Sign}
use Rattle.formulas.specs.declared.Sign.TheVariants.{Plus, Minus, Times, Over}
use Rattle.formulas.specs.declared.InputBlock.{InputBlock}
use Rattle.formulas.proofs.StepLaws.{length_steps, step_at_lem, LettersBelow, letters_below, RowIn, row_more, left_in, right_in, last_row, Each, each_first, each_behind, each_parts}

module _ (c : Schedule) (x : ℕ → Fraction) where
  abbrev exact : ℕ → Fraction
  exact n = exact_value c x n

  -- the step behind m rows makes the next row
  abbrev Makes : ℕ → Step → Type 0
  Makes m t = exact m ≡ exact_step (exact_values c x m) t

  -- a step of two rows
  of_rows : (op : Fraction → Fraction → Fraction) (m a b : ℕ) → RowIn a m → RowIn b m
      → exact m ≡ op (named_value (exact_values c x m) (pos a)) (named_value (exact_values c x m) (pos b)) → exact m ≡ op (exact (a - 1)) (exact (b - 1))
  of_rows op m a b p q e = e ∙ ap₂ op (named_value_lem c x m (pos a) p) (named_value_lem c x m (pos b) q)

  -- the last row of a sign's steps
  sign_value_lem : (g : Sign) (m a b : ℕ) → RowIn a m → RowIn b m → Each Makes m (sign_steps g m a b)
      → exact (m + sign_count g - 1) ≡ sign_value g (exact (a - 1)) (exact (b - 1))
  unfolding exact_step
  sign_value_lem Plus m a b p q f = let e : m + 1 - 1 ≡ m = omega arith in rw e (of_rows ◌+ℚ◌ m a b p q (each_first Makes m (step_of 2 a b 0) [] f))
  sign_value_lem Minus m a b p q f = let e : m + 1 - 1 ≡ m = omega arith in rw e (of_rows ◌-ℚ◌ m a b p q (each_first Makes m (step_of 3 a b 0) [] f))
  sign_value_lem Times m a b p q f = let e : m + 1 - 1 ≡ m = omega arith in rw e (of_rows ◌*ℚ◌ m a b p q (each_first Makes m (step_of 4 a b 0) [] f))
  sign_value_lem Over m a b p q f =
      let over : Step = step_of 5 b 0 0 in
      let times : Step = step_of 4 a (suc m) 0 in
      let e : suc m - 1 ≡ m = omega arith in
      let inverse : exact (suc m - 1) ≡ reciprocal (exact (b - 1)) = rw e (each_first Makes m over (times ∷ []) f ∙ ap reciprocal (named_value_lem c x m (pos b) q)) in
      let last : m + 2 - 1 ≡ m + 1 = omega arith in
      let own : RowIn (suc m) (m + 1) = record { is = refl; from = omega arith; to = omega arith } in
      let second = each_first Makes (m + 1) times [] (each_behind Makes m 1 (over ∷ []) (times ∷ []) refl f) in
      rw last (of_rows ◌*ℚ◌ (m + 1) a (suc m) (row_more p (omega arith)) own second ∙ ap (λ v. exact (a - 1) *ℚ v) inverse)

  -- the row of a formula whose steps make the rows behind the first m
  row_value : (m : ℕ) (t : Tree) → natural c.inputs ≤ m → LettersBelow (natural c.inputs) t → Each Makes m (steps_of m t)
      → exact (row_of m t - 1) ≡ value x t
  unfolding LettersBelow steps_of step_count value exact_step
  row_value m (letter i) h below f = let e : suc i - 1 ≡ i = omega arith in rw e (input_value c x i below)
  row_value m (literal v) h below f = let e : m + 1 - 1 ≡ m = omega arith in rw e (each_first Makes m (step_of 1 0 0 v) [] f)
  row_value m (binary g a b) h below f =
      let inputs : ℕ = natural c.inputs in
      let n : ℕ = m + step_count a in
      let parts = each_parts Makes g m a b f in
      let last : m + (step_count a + step_count b + sign_count g) - 1 ≡ n + step_count b + sign_count g - 1 = omega arith in
      rw last (sign_value_lem g (n + step_count b) (row_of m a) (row_of n b) (left_in inputs m a b h below.0) (right_in inputs m a b h below.1) parts.of_sign)
      ∙ ap₂ (sign_value g) (row_value m a h below.0 parts.of_left) (row_value n b (omega arith) below.1 parts.of_right)

-- the schedule of a formula works its steps behind the inputs
made : (block : InputBlock) (t : Tree) → step_count t ≤ max_steps → (x : ℕ → Fraction)
    → let n : ℕ = natural block.inputs in Each (Makes (schedule_of block t) x) n (steps_of n t)
unfolding schedule_of
made block t few x j h =
    let c : Schedule = schedule_of block t in
    let n : ℕ = natural block.inputs in
    let k : n + j - n ≡ j = omega arith in
    step_value c x (n + j) (omega arith) ∙ ap (λ (i : ℕ). exact_step (exact_values c x (n + j)) (step_at c i)) k ∙ ap (exact_step (exact_values c x (n + j))) (step_at_lem block t j few (omega (arith, length_steps n t)))

pub last_value : (block : InputBlock) (s : List ℕ) (t : Tree) → Accepted block s t → (x : ℕ → Fraction)
    → exact_value (schedule_of block t) x (row_count (schedule_of block t) - 1) ≡ value x t
unfolding schedule_of
last_value block s t a x =
    let n : ℕ = natural block.inputs in
    rw (← last_row n t a.some_step)
    (row_value (schedule_of block t) x n t (omega arith) (letters_below a.formula) (made block t a.few_steps x))
