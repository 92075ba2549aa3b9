-- each way through the sheet
use Rattle.std.proofs.Common.{◌+◌, eqb, length, arith}
use Rattle.std.proofs.lemmas.Bool.{eqb-true, eqb-false}
use Rattle.std.proofs.lemmas.Result.{err_from_is_err_and}
use Rattle.sheet.specs.declared.causes.Cause.TheVariants.{LineBroken}
use Rattle.sheet.proofs.Results.{ensured, not_ensured}
use Rattle.sheet.proofs.SheetTold.{first_refused, first_within, lines_few, second_refused, sheet_read, sheet_longer}
use Rattle.sheet.proofs.reader.read_sheet.Goals as goal

pub returns-in_err-at : goal.returns-in_err-at
returns-in_err-at c =
    let z = c.zero_schedule-c in
    let p = err_from_is_err_and c.from_residual.result c.from_residual.ensures.1 in
    rw (p.1, p.2) (first_refused c.args.s.now z.result c.read_lines.new.c z.ensures c.in_err-at.field-0.0 c.in_err-at.ensures)

pub lines_left-left-requires : goal.lines_left-left-requires
lines_left-left-requires c =
    let z = c.zero_schedule-c in
    omega (arith, lines_few c.args.s.now z.result c.read_lines.new.c z.ensures c.in_ok-at.at c.in_ok-at.ensures)

pub read_lines-requires-2 : goal.read_lines-requires-2
read_lines-requires-2 c =
    let z = c.zero_schedule-c in (
      first_within c.args.s.now z.result c.read_lines.new.c z.ensures c.in_ok-at.at c.in_ok-at.ensures,
      omega (arith, c.lines_left-left.ensures, lines_few c.args.s.now z.result c.read_lines.new.c z.ensures c.in_ok-at.at c.in_ok-at.ensures),
    )

pub returns-in_err-end : goal.returns-in_err-end
returns-in_err-end c =
    let z = c.zero_schedule-c in
    let r = c.from_residual-in_err-end in
    let p = err_from_is_err_and r.result r.ensures.1 in
    rw (p.1, p.2)
    (second_refused c.args.s.now z.result c.read_lines.new.c z.ensures c.in_ok-at.at c.in_ok-at.ensures c.lines_left-left.result c.lines_left-left.ensures c.read_lines-2.new.c c.in_err-end.field-0.0 c.in_err-end.ensures)

pub overflow_add-left : goal.overflow_add-left
overflow_add-left c =
    let z = c.zero_schedule-c in
    record { fits = omega (arith, c.lines_left-left.ensures, lines_few c.args.s.now z.result c.read_lines.new.c z.ensures c.in_ok-at.at c.in_ok-at.ensures) }

pub returns-in_err-ensure : goal.returns-in_err-ensure
returns-in_err-ensure c =
    let z = c.zero_schedule-c in
    let r = c.in_err-ensure.field-0.0 in
    let l = not_ensured (eqb c.in_ok-end.end (length c.args.s.now)) r LineBroken (c.lines_left-left.result + 3) c.in_err-ensure.ensures in
    let q = c.from_residual-in_err-ensure in
    let p = err_from_is_err_and q.result q.ensures.1 in
    rw (p.1, p.2, l.1)
    (sheet_longer c.args.s.now z.result c.read_lines.new.c z.ensures c.in_ok-at.at c.in_ok-at.ensures c.lines_left-left.result c.lines_left-left.ensures c.read_lines-2.new.c c.in_ok-end.end c.in_ok-end.ensures (eqb-false c.in_ok-end.end (length c.args.s.now) l.0))

pub returns : goal.returns
returns c =
    let z = c.zero_schedule-c in
    sheet_read c.args.s.now z.result c.read_lines.new.c z.ensures c.in_ok-at.at c.in_ok-at.ensures c.lines_left-left.result c.lines_left-left.ensures c.read_lines-2.new.c c.in_ok-end.end c.in_ok-end.ensures
    (eqb-true c.in_ok-end.end (length c.args.s.now) (ensured (eqb c.in_ok-end.end (length c.args.s.now)) LineBroken (c.lines_left-left.result + 3) c.in_ok-ensure.ensures))
