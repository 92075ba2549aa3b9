use Rattle.affine.specs.Product.{linear_total, pair_total}
use Rattle.affine.proofs.Parted.{divided}
use Rattle.affine.proofs.product.multiply.Given as goal

abbrev pub ghost-put_front : goal.ghost-put_front
ghost-put_front a = divided (linear_total a.f.0.now a.f.1.now)

abbrev pub ghost-put_pairs_in_use : goal.ghost-put_pairs_in_use
ghost-put_pairs_in_use a = divided (pair_total a.f.0.now a.f.1.now)
