use Rattle.std.proofs.Common.{◌≡◌, ℕ, ◌<◌, length}
use Rattle.affine.specs.Lists.{at}
use Rattle.affine.proofs.by_index.each.Given as goal

abbrev pub invariant-loop-i : goal.invariant-loop-i
invariant-loop-i g l = record {
  long : length l.out ≡ g.row.N;
  given : (k : ℕ) → k < l.i → goal.F-post g l.f k (at l.out k);
}
