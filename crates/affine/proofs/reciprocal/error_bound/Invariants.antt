use Rattle.affine.specs.Product.{linear_total, pair_total}
use Rattle.affine.proofs.Parted.{whole}
use Rattle.affine.proofs.reciprocal.error_bound.Given as goal

abbrev pub ghost-put_front : goal.ghost-put_front
ghost-put_front a = whole (linear_total a.f.0.now a.f.1.now)

abbrev pub ghost-put_pairs_in_use : goal.ghost-put_pairs_in_use
ghost-put_pairs_in_use a = whole (pair_total a.f.0.now a.f.1.now)
