-- What the call `read` answers: 3 and 4 of the inputs, then 10, 5, 11 of the formula, then its schedule.
use Rattle.std.specs.Prelude.{Bool, true, false, List, [], ◌∷◌, ℕ, suc, ◌+◌, ◌*◌, eqb, ltb, pos, replicate}
use Rattle.sheet.specs.Choice.{pick}
use Rattle.sheet.specs.Number.{digit_of}
use Rattle.capacity.specs.Limits.{max_steps}
use Rattle.sheet.specs.Limits.{end_limit}
use Rattle.sheet.specs.Causes.{refusal, accepted, step_wrong}
use Rattle.sheet.specs.Lines.{natural, zero_schedule}
use Rattle.sheet.specs.Writing.{test_of}
use Rattle.sheet.specs.Answers.{Refusal, ReadAnswer}
use Rattle.sheet.specs.declared.Schedule.{Schedule}
use Rattle.formulas.specs.Grammar.{Tree}
use Rattle.formulas.specs.Reading.{Outcome, no_formula, tree, formula_of}
use Rattle.formulas.specs.Steps.{step_of, step_count, schedule_of}
use Rattle.formulas.specs.declared.InputBlock.{InputBlock}

-- 10: not such a formula, or a letter beyond the inputs | the first byte that no formula has there
abbrev pub no_formula_refusal : ℕ → Refusal
no_formula_refusal place = refusal 10 place

-- 5: a literal beyond a constant's limits | its first byte
abbrev pub literal_beyond : ℕ → Refusal
literal_beyond place = refusal step_wrong place

-- 11: no step, or more than a schedule has room for, "11 counts to 40" | place 0
abbrev pub steps_beyond : Refusal
steps_beyond = refusal 11 0

-- "Inputs, ends and squares come beside the formula and are tested first by 3 and 4, as on a sheet": on the sheet whose only step is the constant 0.
unfoldable pub sheet_of : InputBlock → Schedule
sheet_of block = record { inputs = block.inputs; squares = block.squares; steps = pos 1; ends = block.ends; step = replicate max_steps (step_of 1 0 0 0) }

abbrev pub inputs_test : InputBlock → Refusal
inputs_test block = test_of (sheet_of block)

-- The value of the digits at the front of a text, behind digits of value v.
unfoldable pub front_value : ℕ → List ℕ → ℕ
front_value v [] = v
front_value v (b ∷ bs) = pick (ltb (digit_of b) 10) (front_value (v * 10 + digit_of b) bs) v

-- "the first byte of the first such literal", in a text that starts at this place, or 0 where there is none. A literal starts at a digit with none before it.
unfoldable pub first_beyond : ℕ → Bool → List ℕ → ℕ
first_beyond place inside [] = 0
first_beyond place inside (b ∷ bs) =
    pick (ltb (digit_of b) 10)
    (pick inside (first_beyond (suc place) true bs) (pick (ltb end_limit (front_value 0 (b ∷ bs))) place (first_beyond (suc place) true bs)))
    (first_beyond (suc place) false bs)

-- "Beside a refusal every other answer is 0, no, or a schedule of zeros."
abbrev pub refused : Refusal → ReadAnswer
refused r = record { refusal = r; schedule = zero_schedule }

abbrev pub answered : Schedule → ReadAnswer
answered c = record { refusal = accepted; schedule = c }

-- "11: no step, or more than .."
abbrev pub steps_answer : InputBlock → Tree → ReadAnswer
steps_answer block t =
    pick (eqb (step_count t) 0) (refused steps_beyond) (pick (ltb max_steps (step_count t)) (refused steps_beyond) (answered (schedule_of block t)))

-- "Tested 10, 5, 11."
abbrev pub text_answer : InputBlock → List ℕ → Outcome → ReadAnswer
text_answer block s (no_formula place) = refused (no_formula_refusal place)
text_answer block s (tree t) = pick (eqb (first_beyond 1 false s) 0) (steps_answer block t) (refused (literal_beyond (first_beyond 1 false s)))

-- What reading the text s beside these inputs answers.
unfoldable pub answer_of : InputBlock → List ℕ → ReadAnswer
answer_of block s =
    pick (eqb (inputs_test block).number 0) (text_answer block s (formula_of (natural block.inputs) s)) (refused (inputs_test block))
