-- A refusal by 5 or 11 is told exactly where a literal is beyond the limits, and of no step or too many.
use mathlib.Core.Path.{◌≡◌, refl, sym, ap}
use mathlib.Core.Logic.{◌⊎◌, inl, inr}
use mathlib.Core.Bool.{false}
use mathlib.Core.List.{List}
use Prim.Native.Nat.{ℕ, ◌≤◌, ◌<◌}
use native.Mathlib.Omega.{arith}
use borrow.Author.Tests.{eq-eqb, ne_eqb, lt-ltb}
use lib.Dec.{eqb}
use Rattle.capacity.specs.Limits.{max_steps}
use Rattle.sheet.specs.Causes.{accepted}
use Rattle.sheet.specs.Lines.{natural}
use Rattle.sheet.specs.Answers.{Refusal, ReadAnswer}
use Rattle.sheet.proofs.Choice.{pick_elim}
use Rattle.formulas.specs.Grammar.{Tree}
use Rattle.formulas.specs.Reading.{Outcome, no_formula, tree, formula_of}
use Rattle.formulas.specs.Steps.{step_count}
use Rattle.formulas.specs.Answer.{inputs_test, literal_beyond, steps_beyond, first_beyond, refused, steps_answer, text_answer, answer_of}
use Rattle.formulas.specs.Claims.{LiteralBeyond, StepsBeyond}
use Rattle.formulas.specs.declared.InputBlock.{InputBlock}
use Rattle.formulas.proofs.LiteralsWithin.{literals_within, beyond_first, first_beyond_lem}
use Rattle.formulas.proofs.Judged.{Judged, judged, formula_judged}
use Rattle.formulas.proofs.InputsPass.{some_input, answer_text}
use Rattle.formulas.proofs.AnswerCases.{tree_cases, answer_cases}

-- what refusals say of their numbers
pub number_of : {r q : Refusal} → r ≡ q → r.number ≡ q.number
number_of e = ap (λ (r : Refusal). r.number) e

module _ (block : InputBlock) (s : List ℕ) where
  abbrev inputs : ℕ
  inputs = natural block.inputs

  -- ---- 5

  text_5 : (place : ℕ) → inputs_test block ≡ accepted → (o : Outcome) → Judged inputs s o → (text_answer block s o).refusal ≡ literal_beyond place
      → LiteralBeyond block s place
  text_5 place h (no_formula p) j = λ e. absurd (omega (arith, number_of e))
  text_5 place h (tree t) (short, f) =
      tree_cases block s t (λ a. a.refusal ≡ literal_beyond place → LiteralBeyond block s place)
      (λ b e.
      let is : first_beyond 1 false s ≡ place = ap (λ (r : Refusal). r.place) e in
      let found = beyond_first f b in
      record { inputs_pass = h; t = t; formula = f; short = short; value = found.0; first = rw is at found.1 })
      (λ z w e. absurd (omega (arith, number_of e)))
      (λ z m k e. absurd (omega (arith, number_of e)))

  pub place_of_5 : (place : ℕ) → (answer_of block s).refusal ≡ literal_beyond place → LiteralBeyond block s place
  place_of_5 place =
      answer_cases block s (λ a. a.refusal ≡ literal_beyond place → LiteralBeyond block s place)
      (λ h. text_5 place h (formula_of inputs s) (judged inputs (some_input block h) s))
      (λ a b e. absurd (omega (arith, number_of e)))

  pub told_at_5 : (place : ℕ) → LiteralBeyond block s place → answer_of block s ≡ refused (literal_beyond place)
  told_at_5 place w =
      let at = first_beyond_lem w.formula (record { place = place; value = w.value }) w.first in
      let some = ne_eqb place 0 (λ e. omega (arith, at.1)) in
      rw (answer_text block s w.inputs_pass, formula_judged inputs s w.t w.short w.formula, at.0, some)

  -- ---- 11

  text_11 : inputs_test block ≡ accepted → (o : Outcome) → Judged inputs s o → (text_answer block s o).refusal ≡ steps_beyond → StepsBeyond block s
  text_11 h (no_formula p) j = λ e. absurd (omega (arith, number_of e))
  text_11 h (tree t) (short, f) =
      tree_cases block s t (λ a. a.refusal ≡ steps_beyond → StepsBeyond block s)
      (λ b e. absurd (omega (arith, number_of e)))
      (λ z w e. record { inputs_pass = h; t = t; formula = f; short = short; literals = (literals_within inputs s t f).0 z; count = w })
      (λ z m k e. absurd (omega (arith, number_of e)))

  pub cause_of_11 : (answer_of block s).refusal ≡ steps_beyond → StepsBeyond block s
  cause_of_11 =
      answer_cases block s (λ a. a.refusal ≡ steps_beyond → StepsBeyond block s)
      (λ h. text_11 h (formula_of inputs s) (judged inputs (some_input block h) s))
      (λ a b e. absurd (omega (arith, number_of e)))

  -- a count that is refused
  counted : (t : Tree) → (step_count t ≡ 0) ⊎ (max_steps < step_count t) → steps_answer block t ≡ refused steps_beyond
  counted t (inl z) = rw (eq-eqb (step_count t) 0 z)
  counted t (inr l) = rw (lt-ltb max_steps (step_count t) l) (pick_elim (λ (a : ReadAnswer). a ≡ refused steps_beyond) (eqb (step_count t) 0) _ _ (λ e. refl) (λ e. refl))

  pub told_11 : StepsBeyond block s → answer_of block s ≡ refused steps_beyond
  told_11 w =
      let clear = eq-eqb (first_beyond 1 false s) 0 ((literals_within inputs s w.t w.formula).1 w.literals) in
      rw (answer_text block s w.inputs_pass, formula_judged inputs s w.t w.short w.formula, clear) (counted w.t w.count)

  -- ---- 3 and 4

  -- no text is refused by these
  text_later : (q : Refusal) → 3 ≤ q.number → q.number ≤ 4 → (o : Outcome) → (text_answer block s o).refusal ≡ q → ⊥
  text_later q a b (no_formula p) = λ e. omega (arith, number_of e)
  text_later q a b (tree t) =
      tree_cases block s t (λ (w : ReadAnswer). w.refusal ≡ q → ⊥)
      (λ h e. omega (arith, number_of e)) (λ z w e. omega (arith, number_of e)) (λ z m k e. omega (arith, number_of e))

  pub refused_inputs : (q : Refusal) → 3 ≤ q.number → q.number ≤ 4 → (answer_of block s).refusal ≡ q → q ≡ inputs_test block
  refused_inputs q a b =
      answer_cases block s (λ (w : ReadAnswer). w.refusal ≡ q → q ≡ inputs_test block)
      (λ h e. absurd (text_later q a b (formula_of inputs s) e))
      (λ l m e. sym e)
