use Rattle.affine.specs.Root.{linear_miss, pair_miss}
use Rattle.affine.proofs.Parted.{whole}
use Rattle.affine.proofs.root.square_error.Given as goal

abbrev pub ghost-put_front : goal.ghost-put_front
ghost-put_front a = whole (linear_miss a.f.0.now a.f.1.now)

abbrev pub ghost-put_pairs_in_use : goal.ghost-put_pairs_in_use
ghost-put_pairs_in_use a = whole (pair_miss a.f.0.now a.f.1.now)
