-- `whole` reads the front of the text as a sum, and then looks for a byte behind it.
use mathlib.Core.Path.{◌≡◌, ◌∙◌, ap, subst₂}
use mathlib.Core.List.{List}
use Prim.Native.Nat.{ℕ, ◌≤◌, min}
use lib.ListN.{length, take}
use Rattle.std.proofs.lemmas.Result.{err_from_is_err_and}
use Rattle.capacity.specs.Limits.{max_inputs}
use Rattle.formulas.specs.Limits.{max_text, max_nesting}
use Rattle.formulas.specs.Built.{no_steps, Breaks, PartRight}
use Rattle.formulas.specs.declared.steps.Steps.{Steps}
use Rattle.formulas.proofs.FrontReads.{front, front_taken, whole_breaks, whole_behind, whole_right}
use Rattle.formulas.proofs.builder.whole.Goals as goal

-- what is told of the bytes and the steps that the code reads, told of the front and no steps
at_front : (inputs : ℕ) (few : inputs ≤ max_inputs) (text : List ℕ) {n : ℕ} {s : Steps} → n ≡ min (length text) max_text → s ≡ no_steps inputs few → (P : List ℕ → Steps → Type 0)
    → P (take n text) s → P (front inputs text) (no_steps inputs few)
at_front inputs few text e f P = subst₂ P (ap (λ (k : ℕ). take k text) e ∙ front_taken inputs text) f

pub returns-in_err-part : goal.returns-in_err-part
returns-in_err-part c =
    let a = c.args in
    let inputs = a.steps.now.inputs in
    let place = c.in_err-part.field-0.0.place in
    let p = err_from_is_err_and c.from_residual.result c.from_residual.ensures.1 in
    rw (p.1, p.2)
    (whole_breaks inputs a.text.now place
    (at_front inputs a.steps.now.few_inputs a.text.now c.min-end.ensures c.requires (λ bytes s. Breaks bytes s.inputs 2 max_nesting 0 place) c.in_err-part.ensures))

pub returns-then-part-text : goal.returns-then-part-text
returns-then-part-text c =
    let a = c.args in
    let inputs = a.steps.now.inputs in
    let after = c.chain.new.steps in
    let p = c.in_ok-part.part in
    let r = at_front inputs a.steps.now.few_inputs a.text.now c.min-end.ensures c.requires (λ bytes s. PartRight bytes s.inputs 2 max_nesting 0 s after p) c.in_ok-part.ensures in
    rw c.wrong_at.ensures (whole_behind inputs a.text.now a.steps.now.few_inputs after p r c.if-part-text.true)

pub returns : goal.returns
returns c =
    let a = c.args in
    let inputs = a.steps.now.inputs in
    let after = c.chain.new.steps in
    let p = c.in_ok-part.part in
    let r = at_front inputs a.steps.now.few_inputs a.text.now c.min-end.ensures c.requires (λ bytes s. PartRight bytes s.inputs 2 max_nesting 0 s after p) c.in_ok-part.ensures in
    whole_right inputs a.text.now a.steps.now.few_inputs after p r c.if-part-text.false
