-- The steps that are made from a formula, and the schedule that they stand in.
use Rattle.std.specs.Prelude.{List, [], ◌∷◌, ◌++◌, ℕ, suc, ◌+◌, ◌≤◌, pos, get_or}
use Rattle.sheet.specs.declared.End.{End}
use Rattle.sheet.specs.declared.Step.{Step}
use Rattle.sheet.specs.declared.Schedule.{Schedule}
use Rattle.capacity.specs.Limits.{max_inputs, max_steps}
use Rattle.sheet.specs.Limits.{end_limit}
use Rattle.sheet.specs.Lines.{natural, zero_end, zero_step}
use Rattle.sheet.specs.Same.{up_to}
use Rattle.formulas.specs.Grammar.{Tree, letter, literal, binary}
use Rattle.formulas.specs.declared.Sign.{Sign}
use Rattle.formulas.specs.declared.Sign.TheVariants.{Plus, Minus, Times, Over}
use Rattle.formulas.specs.declared.InputBlock.{InputBlock}

abbrev pub step_of : ℕ → ℕ → ℕ → ℕ → Step
step_of code first second value = record { code = pos code; first = pos first; second = pos second; value = pos value }

-- The steps of a sign between the rows a and b, where m rows stand before them: "a division is a reciprocal of the right and then the left multiplied by it".
abbrev pub sign_steps : Sign → ℕ → ℕ → ℕ → List Step
sign_steps Plus m a b = step_of 2 a b 0 ∷ []
sign_steps Minus m a b = step_of 3 a b 0 ∷ []
sign_steps Times m a b = step_of 4 a b 0 ∷ []
sign_steps Over m a b = step_of 5 b 0 0 ∷ step_of 4 a (suc m) 0 ∷ []

abbrev pub sign_count : Sign → ℕ
sign_count Plus = 1
sign_count Minus = 1
sign_count Times = 1
sign_count Over = 2

-- How many steps a formula makes: "each literal is a constant step and a letter is none".
unfoldable pub step_count : Tree → ℕ
step_count (letter i) = 0
step_count (literal v) = 1
step_count (binary g a b) = step_count a + step_count b + sign_count g

-- The row of a formula whose steps follow m rows: a letter's is its input's, any other's is that of its last step.
abbrev pub row_of : ℕ → Tree → ℕ
row_of m (letter i) = suc i
row_of m (literal v) = m + 1
row_of m (binary g a b) = m + step_count (binary g a b)

-- The steps of a formula behind m rows: "left operand, right operand, then the sign".
unfoldable pub steps_of : ℕ → Tree → List Step
steps_of m (letter i) = []
steps_of m (literal v) = step_of 1 0 0 v ∷ []
steps_of m (binary g a b) =
    steps_of m a
    ++ (steps_of (m + step_count a) b ++ sign_steps g (m + step_count a + step_count b) (row_of m a) (row_of (m + step_count a) b))

-- Every literal is within a constant's limits; it has no minus, so only the upper one can be passed.
unfoldable pub LiteralsWithin : Tree → Type 0
LiteralsWithin (letter i) = Unit {0}
LiteralsWithin (literal v) = v ≤ end_limit
LiteralsWithin (binary g a b) = LiteralsWithin a × LiteralsWithin b

-- The ends of the inputs within their count, and 0 beyond it.
abbrev pub ends_within : ℕ → List End → List End
ends_within inputs ends = up_to max_inputs inputs (λ i. get_or ends i zero_end) zero_end

-- The schedule of a formula: the inputs beside it, its steps, and 0 beyond the counts.
unfoldable pub schedule_of : InputBlock → Tree → Schedule
schedule_of block t = record {
  inputs = block.inputs;
  squares = block.squares;
  steps = pos (step_count t);
  ends = ends_within (natural block.inputs) block.ends;
  step = up_to max_steps (step_count t) (λ j. get_or (steps_of (natural block.inputs) t) j zero_step) zero_step;
}
