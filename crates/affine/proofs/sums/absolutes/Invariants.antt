use Rattle.std.proofs.Common.{◌≡◌, take}
use Rattle.integer.specs.Sum.{sum_abs}
use Rattle.affine.proofs.sums.absolutes.Given as goal

abbrev pub invariant-loop-v : goal.invariant-loop-v
invariant-loop-v l = l.sum ≡ sum_abs (take l.v-index l.a)
