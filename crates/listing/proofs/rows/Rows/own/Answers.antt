-- The part of the row has the number at that place.
use mathlib.Core.Path.{sym, ap, ◌∙◌}
use Prim.Native.Nat.{◌-◌, ◌*◌}
use native.Mathlib.Omega.{arith}
use borrow.Author.Rules.{rules}
use lib.ListN.{length}
use mir.Syntax.{w64}
use mir.Val.{SFits}
use mir.ValLaws.{to_z-of_z}
use Rattle.affine.specs.Lists.{at}
use Rattle.evaluation.specs.Table.{row_width}
use Rattle.evaluation.proofs.PartLaws.{length_part}
use Rattle.listing.proofs.HeldRows.{row_held, row_room, row_own}
use Rattle.listing.proofs.rows.Rows.own.Goals as goal

pub bounds-row_part-row : goal.bounds-row_part-row
bounds-row_part-row c =
    let s = c.args.self.now in
    let held = row_held s.held c.requires in
    let long = ap length c.row_part.ensures ∙ length_part s.table.now (row_width * (c.args.row - 1)) row_width (row_room held) in
    omega (arith, long, s.held.few)

pub returns : goal.returns
returns c =
    let s = c.args.self.now in
    let held = row_held s.held c.requires in
    let fits : SFits w64 (at c.row_part.result.now c.args.row) = search rules in
    to_z-of_z w64 _ fits ∙ ap (λ l. at l c.args.row) c.row_part.ensures ∙ sym (row_own held)
