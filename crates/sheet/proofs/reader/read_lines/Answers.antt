-- one line more, or the line that stops the reading
use Rattle.std.proofs.Common.{sym, ◌∙◌, ◌+◌, arith}
use Rattle.std.proofs.lemmas.Result.{err_from_is_err_and}
use Rattle.sheet.proofs.LineTold.{line_more, line_stops, line_none, line_within}
use Rattle.sheet.proofs.reader.read_lines.Goals as goal

pub returns-in_err-next : goal.returns-in_err-next
returns-in_err-next c =
    let l = c.loop-n in
    let a = c.args in
    let p = err_from_is_err_and c.from_residual.result c.from_residual.ensures.1 in
    rw (p.1, p.2)
    (sym (l.invariant.1 ∙ line_stops (a.first + a.count) l.n l.c c.read_line.new.c a.s.now l.next c.in_err-next.field-0.0 (omega arith) c.in_err-next.ensures))

pub loop-n-preserved : goal.loop-n-preserved
loop-n-preserved c =
    let l = c.loop-n in
    let a = c.args in
    let e = c.in_ok-next.ensures in (
      line_within l.n l.c c.read_line.new.c a.s.now l.next c.in_ok-next.next l.invariant.0 e,
      l.invariant.1 ∙ line_more (a.first + a.count) l.n l.c c.read_line.new.c a.s.now l.next c.in_ok-next.next (omega arith) e,
    )

pub returns : goal.returns
returns c = let l = c.loop-n in sym (l.invariant.1 ∙ line_none (c.args.first + c.args.count) l.n l.c l.c c.args.s.now l.next (omega arith))
