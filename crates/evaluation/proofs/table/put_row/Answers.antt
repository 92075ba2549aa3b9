-- a store and two copies in a row are one copy
use Prim.Native.Nat.{◌*◌}
use borrow.Author.Rules.{rules}
use mir.Syntax.{w64}
use mir.Val.{SFits}
use mir.ValLaws.{to_z-of_z}
use Rattle.affine.specs.Limits.{symbols, pairs}
use Rattle.affine.proofs.Form.{Shaped}
use Rattle.evaluation.specs.Table.{row_width}
use Rattle.evaluation.proofs.Pasted.{three_pasted}
use Rattle.evaluation.proofs.table.put_row.Goals as goal

pub returns : goal.returns
returns c =
    let r = c.args.row.now in
    let shaped : Shaped r = record { linear = search rules; pair = search rules } in
    let fits : SFits w64 r.centre = search rules in
    three_pasted c.args.table.now (row_width * c.args.k) r.centre r.linear r.pair _ _ symbols pairs shaped.linear shaped.pair c.requires
    (rw (to_z-of_z w64 _ fits) at c.put_numbers.ensures) c.put_numbers-2.ensures
