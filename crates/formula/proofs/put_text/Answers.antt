-- `put_text` meets its contract: a refusal has room in the text, and so has a sheet; what was taken says all of the formula.
use mathlib.Core.Path.{◌∙◌}
use Prim.Native.Nat.{◌≤◌}
use lib.ListN.{length}
use native.Mathlib.Omega.{arith}
use borrow.Author.Rules.{rules}
use Rattle.listing.specs.Listed.{text_room}
use Rattle.sheet.specs.Results.{write_answer}
use Rattle.formula.specs.declared.TheConstants.{FORMULA_ROOM}
use Rattle.listing.proofs.TextCases.{length_told}
use Rattle.formula.proofs.Printing.{refusal_shown, sheet_shown}
use Rattle.formula.proofs.put_text.Goals as goal

pub returns-in-Err : goal.returns-in-Err
returns-in-Err c =
    let fits : text_room ≤ length c.args.text.now = search rules in
    refusal_shown c.args.block FORMULA_ROOM c.args.taken.now c.args.text.now c.put_refusal.new.text (omega arith) c.put_refusal.auto.text fits
    c.in-Err.refused c.put_refusal.result c.in-Err.ensures.answer (rw c.number.ensures at c.put_refusal.ensures)

pub returns-in-Ok : goal.returns-in-Ok
returns-in-Ok c =
    let fits : text_room ≤ length c.args.text.now = search rules in
    let shown = sheet_shown c.args.block FORMULA_ROOM c.args.taken.now c.args.text.now c.write.new.out (omega arith) c.write.auto.out fits
    c.in-Ok.schedule (write_answer c.write.result) c.in-Ok.ensures.answer c.in-Ok.ensures.passes c.write.ensures.written in
    rw (c.unwrap_or.ensures ∙ length_told c.write.result) shown
