-- `linear_slope` meets its contract: a coefficient is within the sum of all.
use Rattle.std.proofs.Common.{rules, ◌≡◌, to_z, of_z, w64}
use Rattle.affine.specs.Lists.{at}
use Rattle.affine.proofs.RowSize.{element_within}
use Rattle.affine.proofs.reciprocal.linear_slope.Goals as goal

pub candidate_slope-requires : goal.candidate_slope-requires
candidate_slope-requires c =
    let v = c.args.linear.now in
    let i = c.args.i in
    let (few, within, some) = c.requires.within in
    let read : to_z w64 (of_z w64 (at v i)) ≡ at v i = search rules in
    let read_c : to_z w64 (of_z w64 c.args.c) ≡ c.args.c = search rules in
    rw (read, read_c) (within, element_within v c.requires.linear_within.1 i, some)
