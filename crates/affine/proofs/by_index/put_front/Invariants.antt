use Rattle.std.proofs.Common.{◌≡◌}
use Rattle.integer.specs.Sum.{sum_abs}
use Rattle.affine.proofs.PutSoFar.{front}
use Rattle.affine.proofs.by_index.put_front.Given as goal

abbrev pub invariant-loop-i : goal.invariant-loop-i
invariant-loop-i g l = record {
  put : l.numbers ≡ front g.row.N g.parting.number l.i;
  summed : l.rests ≡ sum_abs (front g.row.N g.parting.remainder l.i);
}
