-- one field more: a number that is taken, or the line is broken
use Rattle.std.proofs.Common.{◌≡◌, ◌-◌, ◌+◌, sym, ◌∙◌, arith}
use mir.Syntax.{w64}
use mir.ValLaws.{to_z-of_z}
use lib.ListN.{length-set}
use Rattle.sheet.specs.Number.{field_at}
use Rattle.sheet.specs.Text.{end_byte}
use Rattle.sheet.specs.Reading.{fields_at}
use Rattle.sheet.specs.Answers.{Number, Broken}
use Rattle.sheet.proofs.Numeral.{field_sound}
use Rattle.sheet.proofs.FieldLine.{fields_more, fields_broken, fields_done, ten_digits_fit, end_byte_above_zero}
use Rattle.sheet.proofs.fields.fields_at.Goals as goal

pub returns-in_err-n : goal.returns-in_err-n
unfolding fields_at
returns-in_err-n c =
    let l = c.loop-i in
    let a = c.args in
    let e : field_at a.s.now l.next (end_byte (a.k - (l.i + 1))) ≡ Broken = rw (← c.end_byte.ensures) (sym c.in_err-n.ensures) in
    rw c.from_residual.ensures (sym (l.invariant.2 ∙ fields_broken a.s.now a.k l.i l.next l.values (omega arith) e))

pub loop-i-preserved : goal.loop-i-preserved
loop-i-preserved c =
    let l = c.loop-i in
    let a = c.args in
    let x = c.in_ok-n.n in
    let e : field_at a.s.now l.next (end_byte (a.k - (l.i + 1))) ≡ Number x.value x.next = rw (← c.end_byte.ensures) (sym c.in_ok-n.ensures) in
    let st = field_sound a.s.now l.next (end_byte (a.k - (l.i + 1))) x.value x.next (end_byte_above_zero (a.k - (l.i + 1))) l.invariant.0 e in
    rw (to_z-of_z w64 x.value (ten_digits_fit x.value st.small))
    (st.upto, length-set l.values l.i x.value ∙ l.invariant.1, l.invariant.2 ∙ fields_more a.s.now a.k l.i l.next l.values (omega arith) x.value x.next e)

pub returns : goal.returns
unfolding fields_at
returns c = sym (c.loop-i.invariant.2 ∙ fields_done c.args.s.now c.args.k c.loop-i.i c.loop-i.next c.loop-i.values (omega arith))
