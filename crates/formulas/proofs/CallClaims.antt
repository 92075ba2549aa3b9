-- What the call `read` says of its result besides the answer, from the answer and the theorems on formulas.
use Rattle.std.proofs.Common.{◌≡◌, refl, sym, ap, ◌∙◌, ℕ, ◌≤◌, ◌<◌, ◌-◌, ◌++◌, List, length, arith}
use Rattle.std.proofs.Math.Seq.{take-append_seam}
use Rattle.std.specs.Prelude.{◌⊎◌, ◌↔◌, Result, Ok, Err, IfOk, IfErr, IsOk}
use mathlib.Core.Logic.{inl, inr}
use native.Mathlib.Decide.{ℕ_discrete}
use Rattle.integer.specs.Fraction.{Fraction}
use Rattle.sheet.specs.Answers.{Refusal, ReadAnswer}
use Rattle.sheet.specs.Causes.{accepted}
use Rattle.sheet.specs.Lines.{natural}
use Rattle.sheet.specs.Results.{number, refusal_of, read_answer}
use Rattle.sheet.specs.Writing.{test_of}
use Rattle.sheet.specs.declared.Schedule.{Schedule}
use Rattle.sheet.specs.declared.causes.Cause.{Cause}
use Rattle.sheet.specs.declared.causes.Cause.TheVariants.{CountWrong, EndWrong, StepWrong, NoFormula, StepCount}
use Rattle.sheet.specs.declared.causes.Refused.{Refused}
use Rattle.sheet.proofs.Results.{number_one, number_above, number_some, read_zero, read_answer_one}
use Rattle.evaluation.specs.Work.{row_count}
use Rattle.evaluation.specs.Values.{exact_value}
use Rattle.formulas.specs.Limits.{max_text}
use Rattle.formulas.specs.Grammar.{Tree, Formula}
use Rattle.formulas.specs.Reading.{Outcome, no_formula, tree, formula_of}
use Rattle.formulas.specs.Values.{value}
use Rattle.formulas.specs.Steps.{schedule_of}
use Rattle.formulas.specs.Answer.{inputs_test, text_answer, refused, answer_of}
use Rattle.formulas.specs.Claims.{Accepted, refused_at, WrongByte, LiteralBeyond, StepsBeyond, Reason, of_inputs, of_byte, of_literal, of_steps}
use Rattle.formulas.specs.declared.InputBlock.{InputBlock}
use Rattle.formulas.proofs.OneReading.{one_reading}
use Rattle.formulas.proofs.AnswerCases.{inputs_low, tree_cases, answer_cases}
use Rattle.formulas.proofs.AcceptsExactly.{accepted_tree, accepted_answer}
use Rattle.formulas.proofs.SchedulePasses.{schedule_passes}
use Rattle.formulas.proofs.SameValue.{last_value}
use Rattle.formulas.proofs.PlaceOf10.{place_of_10, told_at_10}
use Rattle.formulas.proofs.Refusals.{number_of, place_of_5, told_at_5, cause_of_11, told_11, refused_inputs}
use Rattle.formulas.proofs.ReadAnswers.{inputs_refused}
use Rattle.formulas.proofs.BeginningTells.{beginning_tells}

module _ (block : InputBlock) (s : List ℕ) where
  -- the tree of what was accepted, with its schedule
  accepted_of : (c : Schedule) → read_answer (Ok c) ≡ answer_of block s → (t : Tree) × Accepted block s t × (c ≡ schedule_of block t)
  accepted_of c e =
      let z = read_zero c e in
      let (t, a) = accepted_tree block s (ap (λ (r : Refusal). r.number) z.0) in
      (t, a, sym z.1 ∙ ap (λ (w : ReadAnswer). w.schedule) (accepted_answer block s t a))

  -- ---- what is accepted

  pub schedule : (result : Result Schedule Refused) → read_answer result ≡ answer_of block s → (t : Tree) → Accepted block s t → result ≡ Ok (schedule_of block t)
  schedule result e t a = read_answer_one result (Ok (schedule_of block t)) (e ∙ accepted_answer block s t a)

  pub accepts : (result : Result Schedule Refused) → read_answer result ≡ answer_of block s → IsOk result ↔ ((t : Tree) × Accepted block s t)
  accepts (Ok c) e = (λ _. let (t, a, q) = accepted_of c e in (t, a), λ _. refl)
  accepts (Err r) e = (λ h. absurd cc, λ (t, a). let q : Err r ≡ Ok (schedule_of block t) = schedule (Err r) e t a in absurd cc)

  pub passes : (result : Result Schedule Refused) → read_answer result ≡ answer_of block s → IfOk result (λ c. test_of c ≡ accepted)
  passes (Ok c) e = let (t, a, q) = accepted_of c e in rw q (schedule_passes block s t a)
  passes (Err r) e = tt

  pub same_value : (result : Result Schedule Refused) → read_answer result ≡ answer_of block s
      → IfOk result (λ c. (t : Tree) → Formula (natural block.inputs) s t → (x : ℕ → Fraction) → exact_value c x (row_count c - 1) ≡ value x t)
  same_value (Ok c) e =
      λ t f x.
      let (u, a, q) = accepted_of c e in
      rw (q, one_reading (natural block.inputs) s t u f a.formula) (last_value block s u a x)
  same_value (Err r) e = tt

  -- ---- refusals

  told : (result : Result Schedule Refused) (r : Refused) → read_answer result ≡ answer_of block s → answer_of block s ≡ refused (refusal_of r) → result ≡ Err r
  told result r e h = read_answer_one result (Err r) (e ∙ h)

  refusal_is : (result : Result Schedule Refused) (r : Refused) → read_answer result ≡ answer_of block s → result ≡ Err r → (answer_of block s).refusal ≡ refusal_of r
  refusal_is result r e h = ap (λ (a : ReadAnswer). a.refusal) (sym e ∙ ap read_answer h)

  pub wrong_byte : (result : Result Schedule Refused) → read_answer result ≡ answer_of block s
      → (place : ℕ) → (result ≡ Err (refused_at NoFormula place)) ↔ WrongByte block s place
  wrong_byte result e place =
      let r = refused_at NoFormula place in
      (λ h. place_of_10 block s place (refusal_is result r e h), λ w. told result r e (told_at_10 block s place w))

  pub literal_beyond : (result : Result Schedule Refused) → read_answer result ≡ answer_of block s
      → (place : ℕ) → (result ≡ Err (refused_at StepWrong place)) ↔ LiteralBeyond block s place
  literal_beyond result e place =
      let r = refused_at StepWrong place in
      (λ h. place_of_5 block s place (refusal_is result r e h), λ w. told result r e (told_at_5 block s place w))

  pub steps_beyond : (result : Result Schedule Refused) → read_answer result ≡ answer_of block s
      → (result ≡ Err (refused_at StepCount 0)) ↔ StepsBeyond block s
  steps_beyond result e =
      let r = refused_at StepCount 0 in
      (λ h. cause_of_11 block s (refusal_is result r e h), λ w. told result r e (told_11 block s w))

  -- a number from 3 to 4 is that of a cause of inputs
  cause_between : (cause : Cause) → 3 ≤ number cause → number cause ≤ 4 → (cause ≡ CountWrong) ⊎ (cause ≡ EndWrong)
  cause_between cause a b = elim (ℕ_discrete (number cause) 3) [
    | yes e ↦ inl (number_one cause CountWrong e)
    | no e ↦ inr (number_one cause EndWrong (omega (arith, e)))
  ]

  between_cause : (cause : Cause) → (cause ≡ CountWrong) ⊎ (cause ≡ EndWrong) → (3 ≤ number cause) × (number cause ≤ 4)
  between_cause cause (inl e) = rw e (omega arith, omega arith)
  between_cause cause (inr e) = rw e (omega arith, omega arith)

  pub wrong_inputs : (result : Result Schedule Refused) → read_answer result ≡ answer_of block s → (r : Refused)
      → ((result ≡ Err r) × ((r.cause ≡ CountWrong) ⊎ (r.cause ≡ EndWrong))) ↔ (refusal_of r ≡ inputs_test block)
  wrong_inputs result e r = (
    λ (h, w). let low = between_cause r.cause w in refused_inputs block s (refusal_of r) low.0 low.1 (refusal_is result r e h),
    λ q.
        let low = inputs_low block in
        let is : number r.cause ≡ (inputs_test block).number = ap (λ (w : Refusal). w.number) q in (
          told result r e (sym (inputs_refused block s r q)),
          cause_between r.cause (omega (arith, is, low.1 (λ z. omega (arith, is, number_above r.cause)))) (omega (arith, is, low.0)),
        ),
  )

  -- ---- each refusal has one of these reasons

  -- what a text is refused by: its number tells the cause, and the call says why
  text_reason : (r : Refused) → read_answer (Err r) ≡ answer_of block s → (o : Outcome) → (text_answer block s o).refusal ≡ refusal_of r → Reason block s r
  text_reason r is (no_formula place) =
      λ e.
      let cause : r.cause ≡ NoFormula = number_one r.cause NoFormula (sym (number_of e)) in
      let same : Err r ≡ Err (refused_at NoFormula r.place) = rw cause refl in
      of_byte cause ((wrong_byte (Err r) is r.place).0 same)
  text_reason r is (tree t) =
      tree_cases block s t (λ (a : ReadAnswer). a.refusal ≡ refusal_of r → Reason block s r)
      (λ b e.
      let cause : r.cause ≡ StepWrong = number_one r.cause StepWrong (sym (number_of e)) in
      of_literal cause ((literal_beyond (Err r) is r.place).0 (rw cause refl)))
      (λ z w e.
      let cause : r.cause ≡ StepCount = number_one r.cause StepCount (sym (number_of e)) in
      let place : r.place ≡ 0 = ap (λ (q : Refusal). q.place) (sym e) in
      let same : r ≡ refused_at StepCount 0 = rw (cause, place) refl in
      of_steps same ((steps_beyond (Err r) is).0 (ap Err same)))
      (λ z m k e. absurd (number_some r.cause (sym (number_of e))))

  pub reason : (result : Result Schedule Refused) → read_answer result ≡ answer_of block s → IfErr result (Reason block s)
  reason (Ok c) e = tt
  reason (Err r) e =
      answer_cases block s (λ (a : ReadAnswer). a.refusal ≡ refusal_of r → Reason block s r)
      (λ h. text_reason r e (formula_of (natural block.inputs) s))
      (λ a b q. of_inputs (sym q))
      (ap (λ (a : ReadAnswer). a.refusal) (sym e))

  -- ---- long texts

  pub long_text : (result : Result Schedule Refused) → read_answer result ≡ answer_of block s → max_text < length s → (rest : List ℕ) → read_answer result ≡ answer_of block (s ++ rest)
  long_text result e h rest = e ∙ rw (take-append_seam s rest) at (beginning_tells block (s ++ rest) (length s) h)
