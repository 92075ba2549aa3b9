-- the test, the sheet aside, and its copy where there is room
use Rattle.std.proofs.Common.{sym, replicate, leb, length, arith}
use Rattle.std.proofs.lemmas.Bool.{leb-true, leb-false}
use Rattle.std.specs.Prelude.{Ok}
use lib.Seq.{length-take-le}
use Rattle.std.proofs.lemmas.Result.{err_from_is_err_and}
use Rattle.sheet.specs.Writing.{sheet_text}
use Rattle.sheet.specs.declared.causes.Cause.TheVariants.{RoomTooShort}
use Rattle.sheet.proofs.Results.{ensured, not_ensured}
use Rattle.sheet.proofs.SheetTold.{passes, not_passed, not_room, written}
use Rattle.sheet.proofs.CallClaims.{reads_again}
use Rattle.sheet.proofs.Passed.{passed, lines_left_small}
use Rattle.sheet.proofs.SheetLength.{sheet_short}
use Rattle.sheet.proofs.write.Goals as goal

pub returns-in_err-test-clause-written : goal.returns-in_err-test-clause-written
returns-in_err-test-clause-written c =
    let p = err_from_is_err_and c.from_residual.result c.from_residual.ensures.1 in
    rw (p.1, p.2) (not_passed c.args.schedule c.args.out.now c.in_err-test.field-0.0 c.in_err-test.ensures)

pub lines_left-requires : goal.lines_left-requires
lines_left-requires c =
    let s = c.args.schedule in
    omega (arith, lines_left_small s (passed s (passes s c.args.out.now c.in_ok-test.ensures)).counts)

pub overflow_add-lines_left : goal.overflow_add-lines_left
overflow_add-lines_left c =
    let s = c.args.schedule in
    record { fits = omega (arith, lines_left_small s (passed s (passes s c.args.out.now c.in_ok-test.ensures)).counts, c.lines_left.ensures) }

pub put_lines-n-requires : goal.put_lines-n-requires
unfolding sheet_text
put_lines-n-requires c =
    let s = c.args.schedule in
    let z = passes s c.args.out.now c.in_ok-test.ensures in
    let n = c.lines_left.ensures in
    (rw n (sheet_short s z), omega (arith, lines_left_small s (passed s z).counts, n))

pub returns-in_err-ensure-clause-written : goal.returns-in_err-ensure-clause-written
unfolding sheet_text
returns-in_err-ensure-clause-written c =
    let s = c.args.schedule in
    let r = c.in_err-ensure.field-0.0 in
    let f = rw c.lines_left.ensures at c.put_lines-n.ensures in
    let l = not_ensured (leb c.put_lines-n.result (length c.args.out.now)) r RoomTooShort 0 c.in_err-ensure.ensures in
    let q = c.from_residual-in_err-ensure in
    let p = err_from_is_err_and q.result q.ensures.1 in
    rw (p.1, p.2, l.1) (not_room s c.args.out.now c.in_ok-test.ensures (omega (arith, f.ends, leb-false c.put_lines-n.result (length c.args.out.now) l.0)))

pub slice_bounds-sheet-end : goal.slice_bounds-sheet-end
unfolding sheet_text
slice_bounds-sheet-end c =
    let s = c.args.schedule in
    let f = rw c.lines_left.ensures at c.put_lines-n.ensures in
    omega (arith, f.ends, c.put_lines-n.auto.out, sheet_short s (passes s c.args.out.now c.in_ok-test.ensures))

pub slice_bounds-put_bytes-end : goal.slice_bounds-put_bytes-end
unfolding sheet_text
slice_bounds-put_bytes-end c =
    let s = c.args.schedule in
    let f = rw c.lines_left.ensures at c.put_lines-n.ensures in
    sym (length-take-le c.put_lines-n.result c.put_lines-n.new.out (omega (arith, f.ends, c.put_lines-n.auto.out, sheet_short s (passes s c.args.out.now c.in_ok-test.ensures))))

pub returns : goal.returns
unfolding sheet_text
returns c =
    let s = c.args.schedule in
    let e = c.in_ok-test.ensures in
    let f = rw c.lines_left.ensures at c.put_lines-n.ensures in
    let w = written s c.args.out.now e c.put_lines-n.result (replicate 1024 0) c.put_lines-n.new.out c.put_bytes.new.out f (sheet_short s (passes s c.args.out.now e)) (leb-true c.put_lines-n.result (length c.args.out.now) (ensured (leb c.put_lines-n.result (length c.args.out.now)) RoomTooShort 0 c.in_ok-ensure.ensures)) c.put_bytes.ensures.is in
    record { written = w; reads_again = reads_again s c.args.out.now c.put_bytes.new.out (Ok c.put_lines-n.result) w; leaves_all = tt }
