-- 10 is told exactly at the first wrong place.
use mathlib.Core.Path.{◌≡◌, refl, ap}
use mathlib.Core.List.{List, [], append-nil}
use Prim.Native.Nat.{ℕ, suc, ◌≤◌, ◌<◌}
use native.Mathlib.Omega.{arith}
use lib.ListN.{length, take, drop, take-append-drop}
use lib.Seq.{take-length, take-take}
use Rattle.sheet.specs.Lines.{natural}
use Rattle.sheet.specs.Answers.{Refusal}
use Rattle.formulas.specs.Limits.{max_text}
use Rattle.formulas.specs.Grammar.{Tree, Formula}
use Rattle.formulas.specs.Reading.{Outcome, no_formula, tree, formula_of}
use Rattle.formulas.specs.Answer.{no_formula_refusal, refused, text_answer, answer_of}
use Rattle.formulas.specs.Claims.{Begins, FirstWrong, wrong_byte, stops_short, goes_on, WrongByte}
use Rattle.formulas.specs.declared.InputBlock.{InputBlock}
use Rattle.formulas.proofs.InputsPass.{some_input, answer_text}
use Rattle.formulas.proofs.AnswerCases.{tree_cases, answer_cases}
use Rattle.formulas.proofs.Begun.{begins_shorter}
use Rattle.formulas.proofs.Judged.{Judged, judged}

-- ---- there is one such place

-- what each kind of wrong place says: i bytes begin a formula, and one more, if there is one among the first 200, does not
record Stops (inputs : ℕ) (s : List ℕ) (i : ℕ) : Type 0 where
  there : i ≤ length s
  early : i ≤ max_text
  begins : Begins inputs (take i s)
  no_more : i < length s → i < max_text → ¬ Begins inputs (take (suc i) s)

begins_take : (inputs i : ℕ) (s : List ℕ) → Begins inputs s → Begins inputs (take i s)
begins_take inputs i s h = begins_shorter inputs (take i s) (drop i s) (rw (take-append-drop i s) h)

module _ {inputs : ℕ} {s : List ℕ} where
  stops : {place : ℕ} → FirstWrong inputs s place → (i : ℕ) × (place ≡ suc i) × Stops inputs s i
  stops (wrong_byte {i = i} l m h n) = (i, refl, record { there = omega arith; early = omega arith; begins = h; no_more = λ _ _. n })
  stops (stops_short l h n) = (length s, refl, record { there = omega arith; early = l; begins = rw (take-length s) h; no_more = λ a _. absurd (omega arith) })
  stops (goes_on l h) = (max_text, refl, record { there = omega arith; early = omega arith; begins = h; no_more = λ _ a. absurd (omega arith) })

  not_later : {i j : ℕ} → Stops inputs s i → Stops inputs s j → ¬ (i < j)
  not_later {i} {j} a b l =
      a.no_more (omega (arith, b.there)) (omega (arith, b.early)) (rw (take-take (suc i) j s l) at (begins_take inputs (suc i) (take j s) b.begins))

  one_place : {p q : ℕ} → FirstWrong inputs s p → FirstWrong inputs s q → p ≡ q
  one_place h g = let (i, e, a) = stops h in let (j, d, b) = stops g in omega (arith, not_later a b, not_later b a)

  -- a formula of at most 200 bytes has none
  right : {place : ℕ} {t : Tree} → length s ≤ max_text → Formula inputs s t → ¬ FirstWrong inputs s place
  right {t = t} k f (wrong_byte {i = i} l m h n) = n (begins_take inputs (suc i) s ([], t, rw (append-nil s) f))
  right {t = t} k f (stops_short l h n) = n t f
  right k f (goes_on l h) = omega arith

  wrong_judged : {place : ℕ} → FirstWrong inputs s place → (o : Outcome) → Judged inputs s o → o ≡ no_formula place
  wrong_judged h (no_formula p) g = ap no_formula (one_place g h)
  wrong_judged h (tree t) g = absurd (right g.0 g.1 h)

-- ---- it is told, and only it

text_wrong : (block : InputBlock) (s : List ℕ) (place : ℕ) (o : Outcome) → Judged (natural block.inputs) s o → (text_answer block s o).refusal ≡ no_formula_refusal place
    → FirstWrong (natural block.inputs) s place
text_wrong block s place (no_formula p) j e = let q : p ≡ place = ap (λ (r : Refusal). r.place) e in rw q at j
text_wrong block s place (tree t) j e =
    absurd (tree_cases block s t (λ a. ¬ (a.refusal.number ≡ 10)) (λ b n. omega arith) (λ z w n. omega arith) (λ z m k n. omega arith) (ap (λ (r : Refusal). r.number) e))

pub place_of_10 : (block : InputBlock) (s : List ℕ) (place : ℕ) → (answer_of block s).refusal ≡ no_formula_refusal place → WrongByte block s place
place_of_10 block s place =
    let inputs = natural block.inputs in
    answer_cases block s (λ a. a.refusal ≡ no_formula_refusal place → WrongByte block s place)
    (λ h e. record { inputs_pass = h; first = text_wrong block s place (formula_of inputs s) (judged inputs (some_input block h) s) e })
    (λ a b e. absurd (omega (arith, ap (λ (r : Refusal). r.number) e)))

pub told_at_10 : (block : InputBlock) (s : List ℕ) (place : ℕ) → WrongByte block s place → answer_of block s ≡ refused (no_formula_refusal place)
told_at_10 block s place w =
    let inputs = natural block.inputs in
    let is = wrong_judged w.first (formula_of inputs s) (judged inputs (some_input block w.inputs_pass) s) in
    rw (answer_text block s w.inputs_pass, is)
