-- one line more
use Rattle.std.proofs.Common.{◌≡◌, refl, ◌∙◌, ◌+◌, ◌-◌, arith}
use Rattle.sheet.specs.Text.{texts}
use Rattle.sheet.specs.Writing.{text_at}
use Rattle.sheet.proofs.Texts.{texts_more, texts_room}
use Rattle.sheet.proofs.Written.{wrote_none, wrote_then}
use Rattle.sheet.proofs.writer.put_lines.Goals as goal

pub loop-n-init : goal.loop-n-init
unfolding texts
loop-n-init c = (refl, wrote_none _ _)

pub put_line-p-requires : goal.put_line-p-requires
unfolding text_at
put_line-p-requires c =
    let l = c.loop-n in
    let n : 1 + (l.n - 1) ≡ l.n = omega arith in
    rw c.line_at.ensures (omega (arith, rw n at (texts_room (text_at c.args.c.now) c.args.count 1 (l.n - 1) (omega arith)), l.invariant.1.ends))

pub loop-n-preserved : goal.loop-n-preserved
unfolding text_at
loop-n-preserved c =
    let l = c.loop-n in
    let n : 1 + (l.n - 1) ≡ l.n = omega arith in
    let m : l.n + 1 - 1 ≡ l.n - 1 + 1 = omega arith in (
      c.put_line-p.auto.out ∙ l.invariant.0,
      rw (m, texts_more (text_at c.args.c.now) (l.n - 1) 1, n) (wrote_then l.invariant.1 (rw c.line_at.ensures at c.put_line-p.ensures)),
    )
