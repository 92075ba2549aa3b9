use Rattle.affine.specs.Lists.{at}
use Rattle.affine.specs.Reciprocal.{slope, curve}
use Rattle.affine.proofs.Parted.{exactly}
use Rattle.affine.proofs.reciprocal.candidate.Given as goal

abbrev pub ghost-put_front : goal.ghost-put_front
ghost-put_front a = exactly (λ i. slope a.f.0.now (at a.f.1.now.linear i))

abbrev pub ghost-put_pairs_in_use : goal.ghost-put_pairs_in_use
ghost-put_pairs_in_use a = exactly (curve a.f.0.now)
