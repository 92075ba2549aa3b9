-- Inputs that pass 3 and 4: there is one at least, and there are no more than there may be; and the answer is the text's.
use mathlib.Core.Path.{◌≡◌, ap}
use mathlib.Core.List.{List}
use Prim.Native.Nat.{ℕ, ◌≤◌, ◌<◌}
use borrow.Author.Tests.{eq-eqb}
use Rattle.capacity.specs.Limits.{max_inputs}
use Rattle.sheet.specs.Causes.{accepted}
use Rattle.sheet.specs.Lines.{natural}
use Rattle.sheet.specs.Answers.{Refusal}
use Rattle.sheet.proofs.Passed.{passed, test_accepted}
use Rattle.formulas.specs.Reading.{formula_of}
use Rattle.formulas.specs.Answer.{sheet_of, inputs_test, text_answer, answer_of}
use Rattle.formulas.specs.declared.InputBlock.{InputBlock}

pub passes : (block : InputBlock) → (inputs_test block).number ≡ 0 → inputs_test block ≡ accepted
passes block z = test_accepted (sheet_of block) z

pub some_input : (block : InputBlock) → inputs_test block ≡ accepted → 0 < natural block.inputs
unfolding sheet_of
some_input block h = (passed (sheet_of block) (ap (λ (r : Refusal). r.number) h)).counts.inputs_in.from

pub few_inputs : (block : InputBlock) → inputs_test block ≡ accepted → natural block.inputs ≤ max_inputs
unfolding sheet_of
few_inputs block h = (passed (sheet_of block) (ap (λ (r : Refusal). r.number) h)).counts.inputs_in.to

pub answer_text : (block : InputBlock) (s : List ℕ) → inputs_test block ≡ accepted → answer_of block s ≡ text_answer block s (formula_of (natural block.inputs) s)
unfolding answer_of
answer_text block s h = rw (eq-eqb (inputs_test block).number 0 (ap (λ (r : Refusal). r.number) h))
