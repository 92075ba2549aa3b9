-- The cases of an answer: of a formula by its literals and steps, and of a call by the test of its inputs.
use mathlib.Core.Path.{◌≡◌, refl, sym, subst}
use mathlib.Core.Logic.{◌⊎◌, inl, inr}
use mathlib.Core.Bool.{true, false}
use mathlib.Core.List.{List}
use Prim.Native.Nat.{ℕ, ◌+◌, ◌≤◌, ◌<◌}
use native.Mathlib.Omega.{arith}
use borrow.Author.Tests.{eqb-true, eqb-false, ltb-true, ltb-false}
use lib.Dec.{eqb, ltb}
use Rattle.capacity.specs.Limits.{max_steps}
use Rattle.sheet.specs.Causes.{accepted}
use Rattle.sheet.specs.Lines.{natural, step_at}
use Rattle.sheet.specs.Tests.{step_passes}
use Rattle.sheet.specs.Answers.{ReadAnswer}
use Rattle.sheet.proofs.Choice.{pick_elim}
use Rattle.sheet.proofs.LinesPass.{OfInputs, refused_of_inputs}
use Rattle.formulas.specs.Grammar.{Tree}
use Rattle.formulas.specs.Reading.{tree, formula_of}
use Rattle.formulas.specs.Steps.{step_count, schedule_of}
use Rattle.formulas.specs.Answer.{sheet_of, inputs_test, literal_beyond, steps_beyond, first_beyond, refused, answered, text_answer, answer_of}
use Rattle.formulas.specs.declared.InputBlock.{InputBlock}
use Rattle.formulas.proofs.InputsPass.{passes}

-- a formula: a literal beyond the limits, no step or too many, or its schedule
pub tree_cases : (block : InputBlock) (s : List ℕ) (t : Tree) (P : ReadAnswer → Type 0)
    → ((first_beyond 1 false s ≡ 0 → ⊥) → P (refused (literal_beyond (first_beyond 1 false s))))
    → (first_beyond 1 false s ≡ 0 → (step_count t ≡ 0) ⊎ (max_steps < step_count t) → P (refused steps_beyond))
    → (first_beyond 1 false s ≡ 0 → 0 < step_count t → step_count t ≤ max_steps → P (answered (schedule_of block t)))
    → P (text_answer block s (tree t))
tree_cases block s t P beyond wrong right =
    pick_elim P (eqb (first_beyond 1 false s) 0) _ _
    (λ l. let z = eqb-true (first_beyond 1 false s) 0 l in pick_elim P (eqb (step_count t) 0) _ _
    (λ m. wrong z (inl (eqb-true (step_count t) 0 m)))
    (λ m. pick_elim P (ltb max_steps (step_count t)) _ _
    (λ k. wrong z (inr (ltb-true max_steps (step_count t) k)))
    (λ k. right z (omega (arith, eqb-false (step_count t) 0 m)) (ltb-false max_steps (step_count t) k))))
    (λ l. beyond (eqb-false (first_beyond 1 false s) 0 l))

-- the only step of the sheet by which inputs are tested is the constant 0
only_step : (block : InputBlock) (j : ℕ) → j ≡ 0
    → let t = step_at (sheet_of block) j in step_passes (natural block.inputs + j) t.code t.first t.second t.value ≡ true
unfolding sheet_of step_passes
only_step block j e = subst (λ (i : ℕ). let t = step_at (sheet_of block) i in step_passes (natural block.inputs + i) t.code t.first t.second t.value ≡ true) (sym e) refl

-- so a refusal of the inputs is by 3 or 4
pub inputs_low : (block : InputBlock) → OfInputs (inputs_test block).number
unfolding sheet_of
inputs_low block = refused_of_inputs (sheet_of block) (λ j h. only_step block j (omega arith))

-- a call: inputs that pass, and the answer of the text, or their refusal, which is by 3 or 4
pub answer_cases : (block : InputBlock) (s : List ℕ) (P : ReadAnswer → Type 0)
    → (inputs_test block ≡ accepted → P (text_answer block s (formula_of (natural block.inputs) s)))
    → (3 ≤ (inputs_test block).number → (inputs_test block).number ≤ 4 → P (refused (inputs_test block)))
    → P (answer_of block s)
unfolding answer_of
answer_cases block s P right wrong =
    let low = inputs_low block in
    pick_elim P (eqb (inputs_test block).number 0) _ _
    (λ z. right (passes block (eqb-true (inputs_test block).number 0 z)))
    (λ z. wrong (low.1 (eqb-false (inputs_test block).number 0 z)) low.0)
