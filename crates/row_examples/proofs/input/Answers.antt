-- An input may be an operand.
use mathlib.Core.Path.{◌∙◌}
use native.Mathlib.Omega.{arith}
use mir.Syntax.{w64}
use mir.ValLaws.{to_z-of_z}
use Rattle.affine.specs.Steps.{input_row, ends_range}
use Rattle.affine.proofs.Support.{input_free}
use Rattle.affine.proofs.InputRow.{input_centred}
use Rattle.row_examples.specs.Operand.{OperandOf}
use Rattle.row_examples.proofs.Within.{made_operand, of_made}
use Rattle.row_examples.proofs.input.Goals as goal

pub returns : goal.returns
returns c =
    let a = c.args in
    let r = input_row 0 a.low a.high in
    let e = rw (to_z-of_z w64 _ c.ranges.low, to_z-of_z w64 _ c.ranges.high) at c.input.ensures in
    of_made c.input.result (λ m. OperandOf 1 m)
    (λ m q. made_operand 1 m r (ends_range a.low a.high) (q ∙ e) (λ i l. (input_free i 0 a.low a.high (λ e. omega (arith, e))).linear) (input_centred 0 a.low a.high c.requires.2))
