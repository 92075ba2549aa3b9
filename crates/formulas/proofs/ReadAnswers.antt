-- What the call answers, by what its parts found: inputs that are refused, a literal beyond the limits, too few or too many steps, a schedule.
use mathlib.Core.Path.{◌≡◌, sym, ap, ◌∙◌}
use mathlib.Core.Bool.{false}
use mathlib.Core.Logic.{◌≢◌}
use mathlib.Core.List.{List}
use Prim.Native.Nat.{ℕ, ◌≤◌, ◌<◌}
use native.Mathlib.Omega.{arith}
use borrow.Author.Tests.{eq-eqb, ne_eqb, lt-ltb, le-ltb}
use Rattle.capacity.specs.Limits.{max_steps}
use Rattle.sheet.specs.Results.{refusal_of}
use Rattle.sheet.specs.declared.causes.Refused.{Refused}
use Rattle.sheet.proofs.Results.{err_some}
use Rattle.formulas.specs.Grammar.{Tree}
use Rattle.formulas.specs.Reading.{tree}
use Rattle.formulas.specs.Steps.{step_count, schedule_of}
use Rattle.formulas.specs.Answer.{inputs_test, literal_beyond, steps_beyond, first_beyond, refused, answered, steps_answer, text_answer, answer_of}
use Rattle.formulas.specs.declared.InputBlock.{InputBlock}

pub inputs_refused : (block : InputBlock) (s : List ℕ) (r : Refused) → refusal_of r ≡ inputs_test block → refused (refusal_of r) ≡ answer_of block s
unfolding answer_of
inputs_refused block s r e = ap refused e ∙ sym (simp (ne_eqb (inputs_test block).number 0 (err_some r e)))

-- ---- the text
module _ (block : InputBlock) (s : List ℕ) (t : Tree) where
  pub beyond_told : first_beyond 1 false s ≢ 0 → text_answer block s (tree t) ≡ refused (literal_beyond (first_beyond 1 false s))
  beyond_told h = simp (ne_eqb (first_beyond 1 false s) 0 h)

  pub steps_told : first_beyond 1 false s ≡ 0 → text_answer block s (tree t) ≡ steps_answer block t
  steps_told h = simp (eq-eqb (first_beyond 1 false s) 0 h)

-- ---- the steps
pub no_step : (block : InputBlock) (t : Tree) → step_count t ≡ 0 → steps_answer block t ≡ refused steps_beyond
no_step block t h = simp (eq-eqb (step_count t) 0 h)

pub many_steps : (block : InputBlock) (t : Tree) → max_steps < step_count t → steps_answer block t ≡ refused steps_beyond
many_steps block t h = simp (ne_eqb (step_count t) 0 (omega arith), lt-ltb max_steps (step_count t) h)

pub some_steps : (block : InputBlock) (t : Tree) → step_count t ≢ 0 → step_count t ≤ max_steps → steps_answer block t ≡ answered (schedule_of block t)
some_steps block t g h = simp (ne_eqb (step_count t) 0 g, le-ltb max_steps (step_count t) h)
