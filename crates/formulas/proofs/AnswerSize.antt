-- The numbers of a refusal are small: no cause is above 11, and no place is beyond the text's first 200 bytes and one more.
use mathlib.Core.Bool.{Bool, true, false}
use mathlib.Core.List.{List, [], ◌∷◌}
use Prim.Native.Nat.{ℕ, suc, ◌+◌, ◌≤◌}
use native.Mathlib.Omega.{arith}
use lib.Dec.{ltb}
use lib.ListN.{length}
use Rattle.sheet.specs.Answers.{Refusal, ReadAnswer}
use Rattle.sheet.specs.Limits.{end_limit}
use Rattle.sheet.specs.Lines.{natural}
use Rattle.sheet.specs.Number.{digit_of}
use Rattle.sheet.proofs.Choice.{pick_elim}
use Rattle.sheet.proofs.RefusalSize.{test_small}
use Rattle.formulas.specs.Limits.{max_text}
use Rattle.formulas.specs.Reading.{Outcome, no_formula, tree, formula_of}
use Rattle.formulas.specs.Answer.{sheet_of, front_value, first_beyond, text_answer, answer_of}
use Rattle.formulas.specs.Claims.{FirstWrong, wrong_byte, stops_short, goes_on}
use Rattle.formulas.specs.declared.InputBlock.{InputBlock}
use Rattle.formulas.proofs.InputsPass.{some_input}
use Rattle.formulas.proofs.Judged.{Judged, judged}
use Rattle.formulas.proofs.AnswerCases.{tree_cases, answer_cases}

pub record Small (r : Refusal) : Type 0 where
  pub number_small : r.number ≤ 12
  pub place_small : r.place ≤ suc max_text

beyond_small : (place : ℕ) (inside : Bool) (s : List ℕ) → first_beyond place inside s ≤ place + length s
unfolding first_beyond
beyond_small place inside [] = omega arith
beyond_small place inside (b ∷ bs) =
    let P : ℕ → Type 0 = λ n. n ≤ place + suc (length bs) in
    let later = λ (i : Bool). beyond_small (suc place) i bs in
    pick_elim P (ltb (digit_of b) 10) _ _
    (λ _. pick_elim P inside _ _
    (λ _. omega (arith, later true))
    (λ _. pick_elim P (ltb end_limit (front_value 0 (b ∷ bs))) _ _ (λ _. omega arith) (λ _. omega (arith, later true))))
    (λ _. omega (arith, later false))

wrong_small : {inputs : ℕ} {s : List ℕ} {place : ℕ} → FirstWrong inputs s place → place ≤ suc max_text
wrong_small (wrong_byte l m h n) = omega arith
wrong_small (stops_short l h n) = omega arith
wrong_small (goes_on l h) = omega arith

module _ (block : InputBlock) (s : List ℕ) where
  abbrev SmallIn : ReadAnswer → Type 0
  SmallIn a = Small a.refusal

  text_small : (o : Outcome) → Judged (natural block.inputs) s o → SmallIn (text_answer block s o)
  text_small (no_formula p) j = record { number_small = omega arith; place_small = wrong_small j }
  text_small (tree t) (short, f) =
      tree_cases block s t SmallIn
      (λ b. record { number_small = omega arith; place_small = omega (arith, short, beyond_small 1 false s) })
      (λ z w. record { number_small = omega arith; place_small = omega arith })
      (λ z m k. record { number_small = omega arith; place_small = omega arith })

  pub answer_small : Small (answer_of block s).refusal
  answer_small =
      let inputs = natural block.inputs in
      answer_cases block s SmallIn
      (λ h. text_small (formula_of inputs s) (judged inputs (some_input block h) s))
      (λ a b. let t = test_small (sheet_of block) in record { number_small = t.number_small; place_small = omega (arith, t.place_small) })
