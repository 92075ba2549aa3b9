-- each way through a line's reading
use Rattle.std.proofs.Common.{sym, ◌∙◌}
use Rattle.std.proofs.lemmas.Result.{err_from_is_err_and}
use Rattle.sheet.specs.declared.causes.Cause.TheVariants.{LineBroken}
use Rattle.sheet.proofs.Results.{error_one, ensured, not_ensured}
use Rattle.sheet.proofs.LineTold.{names_told, names_missing, fields_missing, values_wrong, values_stored}
use Rattle.sheet.proofs.reader.read_line.Goals as goal

pub returns-in_err-ensure : goal.returns-in_err-ensure
returns-in_err-ensure c =
    let a = c.args in
    let e = not_ensured c.starts_with.result c.in_err-ensure.field-0.0 LineBroken a.n c.in_err-ensure.ensures in
    let p = err_from_is_err_and c.from_residual.result c.from_residual.ensures.1 in
    rw (p.1, p.2, e.1, ← c.line_at-l.ensures)
    (names_missing c.line_at-l.result a.n a.c.now a.s.now a.at c.in-Some.names.now c.in-Some.ensures.text.0 c.in-Some.ensures.text.1 (sym c.starts_with.ensures.value ∙ e.0))

pub returns-in-Some : goal.returns-in-Some
returns-in-Some c =
    let a = c.args in
    rw (← c.line_at-l.ensures)
    (names_told c.line_at-l.result a.n a.c.now a.s.now a.at c.in-Some.names.now c.in-Some.ensures.text.0 c.in-Some.ensures.text.1
    (sym c.starts_with.ensures.value ∙ ensured c.starts_with.result LineBroken a.n c.in_ok-ensure.ensures))

pub returns-in_err-f : goal.returns-in_err-f
returns-in_err-f c =
    let a = c.args in
    let f = rw (c.in_err-f.ensures.ok_part, c.width.ensures) at c.fields_at.ensures in
    let v = rw c.in_err-f.ensures.ok_part at c.in_err-f.ensures.value in
    let p = err_from_is_err_and c.from_residual-in_err-f.result c.from_residual-in_err-f.ensures.1 in
    rw (p.1, p.2, error_one c.in_err-f.field-0.0 (record { cause = LineBroken; place = a.n }) v, ← c.line_at-l.ensures) (fields_missing c.line_at-l.result a.n a.c.now a.s.now a.at c.in_default.ensures.none f)

pub returns-in_err-test_line : goal.returns-in_err-test_line
returns-in_err-test_line c =
    let a = c.args in
    let f = c.in_ok-f.f in
    let e = rw (c.in_ok-f.ensures.ok_part, c.width.ensures) at c.fields_at.ensures in
    let q = c.from_residual-in_err-test_line in
    let p = err_from_is_err_and q.result q.ensures.1 in
    rw (p.1, p.2, ← c.line_at-l.ensures)
    (values_wrong c.line_at-l.result a.n a.c.now a.s.now a.at c.in_default.ensures.none f.next f.value e c.in_err-test_line.field-0.0 c.in_err-test_line.ensures)

pub returns : goal.returns
returns c =
    let a = c.args in
    let f = c.in_ok-f.f in
    let e = rw (c.in_ok-f.ensures.ok_part, c.width.ensures) at c.fields_at.ensures in
    rw (← c.line_at-l.ensures)
    (values_stored c.line_at-l.result a.n a.c.now a.s.now a.at c.in_default.ensures.none f.next f.value e c.in_ok-test_line.ensures c.store.new.self c.store.ensures)
