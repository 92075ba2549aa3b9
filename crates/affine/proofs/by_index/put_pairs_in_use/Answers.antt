-- `by_index::put_pairs_in_use` meets its contract: a column is put in each turn.
use Rattle.std.proofs.Common.{◌∙◌, sym, arith, ap}
use Rattle.integer.specs.Sum.{sum_abs}
use Rattle.affine.specs.Limits.{pairs}
use Rattle.affine.proofs.SumLaws.{sum_abs_zeros}
use Rattle.affine.proofs.Columns.{used_none, used_sum_within}
use Rattle.affine.proofs.by_index.put_pairs_in_use.Goals as goal

pub loop-j-init : goal.loop-j-init
loop-j-init g c = (c.requires.1.1.0 ∙ used_none g.parting.number, sym (sum_abs_zeros pairs) ∙ ap sum_abs (used_none g.parting.remainder))

pub put_column-rests-requires : goal.put_column-rests-requires
put_column-rests-requires g c κs within =
    let (few, (zeros, (callable, (given, small)))) = c.requires.1 in
    let j = c.loop-j.j in
    let r = g.parting.remainder in
    let here = c.loop-j-test.true in (
      within,
      (
        omega (arith, here, few),
        (λ p e. callable p (omega (arith, e, here)), (λ p q e. given p q (omega (arith, e, here)), (c.loop-j.invariant, omega (arith, used_sum_within r here, small)))),
      ),
    )
