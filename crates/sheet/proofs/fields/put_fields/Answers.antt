-- one field more
use Rattle.std.proofs.Common.{◌≡◌, refl, ◌∙◌, get_or, pos, rules, arith}
use mir.Syntax.{w64}
use mir.Val.{to_z, of_z}
use Rattle.sheet.proofs.Written.{wrote_none, wrote_then}
use Rattle.sheet.proofs.FieldLine.{front, front_more, front_room, front_all}
use Rattle.sheet.proofs.fields.put_fields.Goals as goal

pub loop-i-init : goal.loop-i-init
unfolding front
loop-i-init c = (refl, wrote_none _ _)

pub put_field-p-requires : goal.put_field-p-requires
put_field-p-requires c =
    let l = c.loop-i in
    let v = c.args.v.now in
    let e : to_z w64 (of_z w64 (get_or v l.i (pos 0))) ≡ get_or v l.i (pos 0) = search rules in
    rw (e, c.end_byte.ensures) (omega (arith, front_room l.i v (omega arith), l.invariant.1.ends, c.requires))

pub loop-i-preserved : goal.loop-i-preserved
loop-i-preserved c =
    let l = c.loop-i in
    let v = c.args.v.now in
    let e : to_z w64 (of_z w64 (get_or v l.i (pos 0))) ≡ get_or v l.i (pos 0) = search rules in
    let w = rw (e, c.end_byte.ensures) at c.put_field-p.ensures in
    (c.put_field-p.auto.out ∙ l.invariant.0, rw (front_more l.i v (omega arith)) (wrote_then l.invariant.1 w))

pub returns : goal.returns
returns c = rw (front_all c.loop-i.i c.args.v.now (omega arith)) at c.loop-i.invariant.1
