-- `by_index::put_column` meets its contract: each turn puts the number of one pair of the column, and adds what it leaves.
use Rattle.std.proofs.Common.{◌≡◌, ◌+◌, ◌∙◌, ◌<◌, ◌≤◌, sym, rules, arith, ap, to_z, of_z, w64}
use Rattle.integer.specs.Sum.{sum_abs}
use Rattle.affine.proofs.Columns.{at_first, at_next, at_symbols, column_none, column_more, column_sum_more, column_all, column_sum_within}
use Rattle.affine.proofs.by_index.put_column.Goals as goal

pub loop-i-init : goal.loop-i-init
loop-i-init g c =
    let (column, (callable, (given, (before, small)))) = c.requires.1 in
    let j = c.args.j in
    record {
      here = at_first j;
      put = before.0 ∙ column_none g.parting.number j;
      summed = before.1 ∙ ap sum_abs (column_none g.parting.remainder j);
    }

pub invariant_of-f : goal.invariant_of-f
invariant_of-f g c =
    let s = at_symbols c.requires.1.0 (omega (arith, c.loop-i-test.true)) c.loop-i.invariant.here in
    record { inside = s.0; first_told = sym s.1; second_told = sym s.2 }

pub overflow_add-rests : goal.overflow_add-rests
overflow_add-rests g c =
    let (column, (callable, (given, (before, small)))) = c.requires.1 in
    let r = g.parting.remainder in
    let i = c.loop-i.i in
    let j = c.args.j in
    let here = c.loop-i.invariant.here in
    let l : i ≤ j = omega (arith, c.loop-i-test.true) in
    let part = given _ c.f-part.result (omega arith) c.f-part.ensures in
    record {
      fits = omega (
        arith,
        c.loop-i.invariant.summed,
        part.1,
        column_sum_more r column l here,
        column_sum_within r j (i + 1) (omega (arith, l)),
        small,
      );
    }

pub loop-i-preserved : goal.loop-i-preserved
loop-i-preserved g c =
    let (column, (callable, (given, (before, small)))) = c.requires.1 in
    let here = c.loop-i.invariant.here in
    let l : c.loop-i.i ≤ c.args.j = omega (arith, c.loop-i-test.true) in
    let part = given _ c.f-part.result (omega arith) c.f-part.ensures in
    let fits : to_z w64 (of_z w64 c.f-part.result.number) ≡ c.f-part.result.number = search rules in
    record {
      here = at_next column l here;
      put = rw (fits, part.0, c.loop-i.invariant.put) (column_more g.parting.number column l here);
      summed = omega (arith, c.loop-i.invariant.summed, part.1, column_sum_more g.parting.remainder column l here);
    }

pub returns : goal.returns
returns g c =
    let v = c.loop-i.invariant in
    let over : c.args.j < c.loop-i.i = omega (arith, c.loop-i-test.false) in (
      v.put ∙ column_all g.parting.number v.here over,
      v.summed ∙ ap sum_abs (column_all g.parting.remainder v.here over),
    )
