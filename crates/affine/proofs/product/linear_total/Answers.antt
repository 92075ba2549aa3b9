-- `linear_total` meets its contract: the four numbers are within the span limit.
use Rattle.affine.proofs.RowSize.{centre_within, linear_at_within}
use Rattle.affine.proofs.RowRead.{read_centre, read_linear}
use Rattle.affine.proofs.product.linear_total.Goals as goal

pub crosswise_total-requires : goal.crosswise_total-requires
crosswise_total-requires c =
    let x = c.args.x.now in
    let y = c.args.y.now in
    let i = c.args.i in
    let (few, hx, hy) = c.requires in
    rw (read_centre x hx, read_centre y hy, read_linear x hx i, read_linear y hy i)
    (centre_within x hx, linear_at_within y hy i, centre_within y hy, linear_at_within x hx i)
