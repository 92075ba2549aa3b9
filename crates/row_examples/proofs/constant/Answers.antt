-- A constant may be an operand.
use mathlib.Core.Path.{◌∙◌, ap}
use Prim.Native.Nat.{ℕ}
use mir.Syntax.{w64}
use mir.ValLaws.{to_z-of_z}
use Rattle.affine.specs.Limits.{symbols}
use Rattle.affine.specs.Row.{form_range}
use Rattle.affine.specs.Steps.{constant_row, checked}
use Rattle.affine.proofs.Support.{at_replicate}
use Rattle.affine.proofs.Distance.{form_centred}
use Rattle.row_examples.specs.Operand.{OperandOf}
use Rattle.row_examples.proofs.Within.{made_operand, of_made}
use Rattle.row_examples.proofs.constant.Goals as goal

pub returns : goal.returns
returns c =
    let r = constant_row c.args.value in
    let e = c.constant.ensures ∙ ap (λ v. checked (constant_row v)) (to_z-of_z w64 _ c.ranges.value) in
    of_made c.constant.result (λ m. (own : ℕ) → OperandOf own m)
    (λ m q own. made_operand own m r (form_range r) (q ∙ e) (λ i l. at_replicate symbols i) (form_centred r))
