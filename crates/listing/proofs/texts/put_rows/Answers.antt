-- The line that is put is the next row's, and there is room for it.
use mathlib.Core.Path.{◌≡◌, refl, ap, ◌∙◌}
use Prim.Native.Nat.{◌+◌}
use native.Mathlib.Omega.{arith}
use lib.ListN.{length}
use Rattle.sheet.specs.Text.{line, texts}
use Rattle.sheet.proofs.Texts.{texts_more, texts_room}
use Rattle.sheet.proofs.Written.{wrote_none, wrote_then}
use Rattle.listing.specs.Listing.{row_text}
use Rattle.listing.proofs.texts.put_rows.Goals as goal

pub loop-i-init : goal.loop-i-init
unfolding texts
loop-i-init c = (refl, wrote_none _ _)

pub put_fields-p-requires : goal.put_fields-p-requires
unfolding row_text
put_fields-p-requires c =
    let s = c.args.rows.now in
    let l = c.loop-i in
    let n : l.i + 1 ≡ 1 + l.i = omega arith in
    let line_is : line c.numbers.result ≡ row_text s.table.now s.ranges.now s.count (1 + l.i) =
    ap line c.numbers.ensures ∙ ap (row_text s.table.now s.ranges.now s.count) n in
    omega (arith, ap length line_is, texts_room (row_text s.table.now s.ranges.now s.count) s.count 1 l.i c.loop-i-test.true, l.invariant.0, l.invariant.1.ends, c.requires)

pub loop-i-preserved : goal.loop-i-preserved
unfolding row_text
loop-i-preserved c =
    let s = c.args.rows.now in
    let l = c.loop-i in
    let n : l.i + 1 ≡ 1 + l.i = omega arith in
    let line_is : line c.numbers.result ≡ row_text s.table.now s.ranges.now s.count (1 + l.i) =
    ap line c.numbers.ensures ∙ ap (row_text s.table.now s.ranges.now s.count) n in (
      c.put_fields-p.auto.out ∙ l.invariant.0,
      rw (texts_more (row_text s.table.now s.ranges.now s.count) l.i 1) (wrote_then l.invariant.1 (rw line_is at c.put_fields-p.ensures)),
    )
