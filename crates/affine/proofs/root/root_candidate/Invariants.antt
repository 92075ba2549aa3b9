use Rattle.affine.specs.Lists.{at}
use Rattle.affine.specs.Root.{root_slope}
use Rattle.affine.proofs.Parted.{exactly}
use Rattle.affine.proofs.root.root_candidate.Given as goal

abbrev pub ghost-put_front : goal.ghost-put_front
ghost-put_front a = exactly (λ i. root_slope a.f.0.now (at a.f.1.now.linear i))

abbrev pub ghost-put_front-2 : goal.ghost-put_front-2
ghost-put_front-2 a = exactly (λ k. root_slope a.f.0.now (at a.f.1.now.pair k))
