-- Formulas beside three inputs from 1 to 2, one of them with square terms, and what is answered for each. `claims::examples` says that it is so.
use Rattle.std.specs.Prelude.{◌≡◌, ℕ, List, [], ◌∷◌, map, length, pos, replicate, codes}
use Rattle.std.proofs.lemmas.List.Edits.{sets}
use Rattle.capacity.specs.Limits.{max_inputs, max_steps}
use Rattle.sheet.specs.Answers.{ReadAnswer}
use Rattle.sheet.specs.Causes.{refusal}
use Rattle.sheet.specs.Lines.{zero_end, zero_step}
use Rattle.sheet.specs.declared.End.{End}
use Rattle.sheet.specs.declared.Step.{Step}
use Rattle.formulas.specs.Steps.{step_of}
use Rattle.formulas.specs.Answer.{answered, refused, answer_of}
use Rattle.formulas.specs.declared.InputBlock.{InputBlock}

abbrev pub three_ends : List End
three_ends = let e : End = record { low = pos 4096; high = pos 8192 } in sets (replicate max_inputs zero_end) 0 (e ∷ e ∷ e ∷ [])

abbrev pub three_inputs : InputBlock
three_inputs = record { inputs = pos 3; squares = pos 1; ends = three_ends }

pub record Example : Type 0 where
  pub text : List ℕ
  pub answer : ReadAnswer

-- a text, and the steps of its schedule
abbrev pub makes : List ℕ → List Step → Example
makes text steps = record {
  text = text;
  answer =
      answered (record { inputs = pos 3; squares = pos 1; steps = pos (length steps); ends = three_ends; step = sets (replicate max_steps zero_step) 0 steps });
}

-- a text, and number and place of its refusal
abbrev pub told : List ℕ → ℕ → ℕ → Example
told text number place = record { text = text; answer = refused (refusal number place) }

unfoldable pub examples : List Example
examples =
    makes (codes "(a+8192)*b/c") (step_of 1 0 0 8192 ∷ step_of 2 1 4 0 ∷ step_of 4 5 2 0 ∷ step_of 5 3 0 0 ∷ step_of 4 6 7 0 ∷ [])
    -- a sign of equal rank takes all that stands before it, and products come before sums
    ∷ makes (codes "a-b-c") (step_of 3 1 2 0 ∷ step_of 3 4 3 0 ∷ [])
    ∷ makes (codes "a+b*c") (step_of 4 2 3 0 ∷ step_of 2 1 4 0 ∷ [])
    -- the steps of the left, those of the right, the reciprocal of the right, the product
    ∷ makes (codes "1/(2-a)") (step_of 1 0 0 1 ∷ step_of 1 0 0 2 ∷ step_of 3 5 1 0 ∷ step_of 5 6 0 0 ∷ step_of 4 4 7 0 ∷ [])
    -- the first byte that no formula has there
    ∷ told (codes "") 10 1
    ∷ told (codes "-a") 10 1
    ∷ told (codes "a+") 10 3
    ∷ told (codes "a+01") 10 4
    ∷ told (codes "a)") 10 2
    ∷ told (codes "a*d") 10 3
    ∷ told (codes "(((((((((((((((((a)))))))))))))))))") 10 17
    -- a literal beyond the limits, and no step
    ∷ told (codes "a+(268435457)") 5 4
    ∷ told (codes "((a))") 11 0
    ∷ []

-- Each text of the table has its answer.
abbrev pub ExamplesWorked : Type 0
ExamplesWorked = map (λ e. answer_of three_inputs e.text) examples ≡ map (λ e. e.answer) examples
