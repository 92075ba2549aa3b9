-- A row that was made may be an operand where its coefficients and its range may.
use mathlib.Core.Path.{◌≡◌, sym, ap, ◌∙◌, subst}
use Prim.Native.Nat.{ℕ}
use mathlib.Core.Path.{refl}
use Rattle.std.specs.Prelude.{Result, Ok, Err, IfOk, ◌≤◌}
use Rattle.affine.specs.Limits.{span_limit}
use Rattle.affine.specs.declared.NoRow.{NoRow}
use Rattle.affine.specs.declared.Row.{Row}
use Rattle.affine.specs.declared.Range.{Range}
use Rattle.affine.specs.declared.Made.{Made}
use Rattle.affine.specs.Answer.{Answer}
use Rattle.affine.specs.Told.{answer_of}
use Rattle.affine.specs.Row.{span, radius, NoneFrom}
use Rattle.affine.specs.Steps.{accepted, checked_with}
use Rattle.affine.specs.Root.{Centred}
use Rattle.affine.proofs.Answers.{checked_accepted, answer_within, answer_radius}
use Rattle.row_examples.specs.Operand.{OperandOf}

pub made_operand : (k : ℕ) (m : Made) (r : Row) (own : Range) → answer_of (Ok m) ≡ checked_with r own → NoneFrom k r.linear → Centred own r → OperandOf k m
made_operand k m r own e none centred =
    let accepted_is : checked_with r own ≡ accepted r own = checked_accepted r own (ap (λ (a : Answer). a.status) (sym e)) in
    let row : m.row ≡ r = ap (λ (a : Answer). a.row) (e ∙ accepted_is) in
    let range : m.range ≡ own = ap (λ (a : Answer). a.range) (e ∙ accepted_is) in
    record {
      within = subst (λ (x : Row). span x ≤ span_limit) (sym (ap (λ (a : Answer). a.row) e)) (answer_within r own);
      radius_told = ap (λ (a : Answer). a.radius) e ∙ answer_radius r own ∙ sym (ap (λ (a : Answer). radius a.row) e);
      none_later = subst (λ (x : Row). NoneFrom k x.linear) (sym row) none;
      centred = subst (λ (x : Row). Centred m.range x) (sym row) (subst (λ (o : Range). Centred o r) (sym range) centred);
    }

-- what holds of every row with a result's answer holds of the row that the result has
pub of_made : (a : Result Made NoRow) (P : Made → Type 0) → ((m : Made) → answer_of (Ok m) ≡ answer_of a → P m) → IfOk a P
of_made (Ok m) P f = f m refl
of_made (Err e) P f = tt
