use Rattle.std.proofs.Common.{◌≡◌}
use Rattle.integer.specs.Sum.{sum_abs}
use Rattle.affine.proofs.Columns.{AtPair, column}
use Rattle.affine.proofs.by_index.put_column.Given as goal

abbrev pub invariant-loop-i : goal.invariant-loop-i
invariant-loop-i g l = record {
  here : AtPair l.j l.i l.k;
  put : l.numbers ≡ column g.parting.number l.j l.i;
  summed : l.rests ≡ sum_abs (column g.parting.remainder l.j l.i);
}
