-- one byte more: it is a digit that is taken, or it ends the run
use Rattle.std.proofs.Common.{◌≡◌, ◌+◌, sym, ◌∙◌, length, get_or, arith}
use Rattle.sheet.proofs.Digits.{run_more, run_full, run_other, run_end, digit_some, digit_none, rest_at, rest_length}
use Rattle.sheet.proofs.number.digits.Goals as goal
use Rattle.sheet.proofs.number.digits.Goals.{in_default-via-in-Some+else-value-lt1000000000, in_default-via-in_default}

pub loop-i-preserved : goal.loop-i-preserved
loop-i-preserved c =
    let s = c.args.s.now in
    let at = c.args.at in
    let l = c.loop-i in
    let d = digit_some (get_or s (at + l.i) 0) c.in-Some.d (rw (rest_at s at l.i) at c.in-Some.ensures) in
    let n = rest_length s at in
    let m : at + l.i + 1 ≡ at + (l.i + 1) = omega arith in
    (omega (arith, d.1), l.invariant.1 ∙ run_more s (at + l.i) l.value (omega arith) (omega (arith, d.0, d.1)) (omega arith) ∙ rw (d.0, m))

pub returns-in_default : goal.returns-in_default
returns-in_default c =
    let s = c.args.s.now in
    let at = c.args.at in
    let l = c.loop-i in
    let n = rest_length s at in
    elim c.in_default.branch [
      | in_default-via-in-Some+else-value-lt1000000000 w ↦
          let d = digit_some (get_or s (at + l.i) 0) w.in-Some.d (rw (rest_at s at l.i) at w.in-Some.ensures) in
          sym (l.invariant.1 ∙ run_full s (at + l.i) l.value (omega arith) (omega (arith, d.0, d.1)) (omega (arith, w.if-value-lt1000000000.false)))
      | in_default-via-in_default w ↦ sym (l.invariant.1 ∙ run_other s (at + l.i) l.value (omega arith) (digit_none (get_or s (at + l.i) 0) (rw (rest_at s at l.i) at w.in_default.ensures)))
    ]

pub returns : goal.returns
returns c =
    let s = c.args.s.now in
    let l = c.loop-i in
    let n = rest_length s c.args.at in
    let e : c.args.at + l.i ≡ length s = omega arith in
    rw (← e) (sym (l.invariant.1 ∙ run_end s (c.args.at + l.i) l.value (omega arith)))
