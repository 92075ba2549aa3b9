-- the run of digits is short, and ends within the bytes
use Rattle.std.proofs.Common.{drop, length-drop, arith}
use Rattle.sheet.proofs.Digits.{run_within}
use Rattle.sheet.proofs.number.after_sign.Goals as goal

pub signed-requires : goal.signed-requires
signed-requires c = (rw (← c.digits-run.ensures) at (run_within 0 c.args.q (drop c.args.q c.args.s.now) (omega arith))).small

pub overflow_add-result : goal.overflow_add-result
overflow_add-result c =
    let w = rw (← c.digits-run.ensures) at (run_within 0 c.args.q (drop c.args.q c.args.s.now) (omega arith)) in
    let n = length-drop c.args.q c.args.s.now in
    let g = c.well_formed in
    record { fits = omega (arith, w.upto) }
