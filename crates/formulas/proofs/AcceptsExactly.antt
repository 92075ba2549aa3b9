-- The call accepts exactly the formulas of at least one step whose steps, bytes and literals are within the limits, beside inputs that pass.
use mathlib.Core.Path.{◌≡◌}
use mathlib.Core.Bool.{false}
use mathlib.Core.List.{List}
use Prim.Native.Nat.{ℕ}
use native.Mathlib.Omega.{arith}
use borrow.Author.Tests.{eq-eqb, ne_eqb, le-ltb}
use Rattle.capacity.specs.Limits.{max_steps}
use Rattle.sheet.specs.Causes.{accepted}
use Rattle.sheet.specs.Lines.{natural}
use Rattle.sheet.specs.Answers.{ReadAnswer}
use Rattle.formulas.specs.Grammar.{Tree}
use Rattle.formulas.specs.Reading.{Outcome, no_formula, tree, formula_of}
use Rattle.formulas.specs.Steps.{step_count, schedule_of}
use Rattle.formulas.specs.Answer.{inputs_test, first_beyond, answered, text_answer, answer_of}
use Rattle.formulas.specs.Claims.{Accepted}
use Rattle.formulas.specs.declared.InputBlock.{InputBlock}
use Rattle.formulas.proofs.LiteralsWithin.{literals_within}
use Rattle.formulas.proofs.Judged.{Judged, judged, formula_judged}
use Rattle.formulas.proofs.InputsPass.{some_input, answer_text}
use Rattle.formulas.proofs.AnswerCases.{tree_cases, answer_cases}

module _ (block : InputBlock) (s : List ℕ) where
  -- an answer of this text, if it tells no cause, is that of an accepted tree
  abbrev Right : ReadAnswer → Type 0
  Right a = a.refusal.number ≡ 0 → (t : Tree) × Accepted block s t

  text_right : inputs_test block ≡ accepted → (o : Outcome) → Judged (natural block.inputs) s o → Right (text_answer block s o)
  text_right h (no_formula place) j = λ e. absurd (omega arith)
  text_right h (tree t) (short, f) =
      tree_cases block s t Right (λ b e. absurd (omega arith)) (λ z w e. absurd (omega arith))
      (λ z m k e.
      let a : Accepted block s t = record {
        inputs_pass = h;
        formula = f;
        short = short;
        literals = (literals_within (natural block.inputs) s t f).0 z;
        some_step = m;
        few_steps = k;
      } in
      (t, a))

  pub accepted_tree : Right (answer_of block s)
  accepted_tree =
      let inputs = natural block.inputs in
      answer_cases block s Right (λ h. text_right h (formula_of inputs s) (judged inputs (some_input block h) s)) (λ a b e. absurd (omega arith))

  pub accepted_answer : (t : Tree) → Accepted block s t → answer_of block s ≡ answered (schedule_of block t)
  accepted_answer t a =
      let f = a.formula in
      let inputs = natural block.inputs in
      let l = eq-eqb (first_beyond 1 false s) 0 ((literals_within inputs s t f).1 a.literals) in
      let m = ne_eqb (step_count t) 0 (λ e. omega (arith, a.some_step)) in
      rw (answer_text block s a.inputs_pass, formula_judged inputs s t a.short f, l, m, le-ltb max_steps (step_count t) a.few_steps)
