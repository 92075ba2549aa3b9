-- `pair_total` meets its contract: its two parts, at most two products each, do not wrap.
use Rattle.std.proofs.Common.{◌≡◌, ap₂, ◌∙◌, ◌+ℤ◌, arith, to_z, of_z, w64}
use Rattle.integer.proofs.Machine.{back, back_as}
use Rattle.affine.specs.Product.{pair_total}
use Rattle.affine.proofs.RowSize.{centre_within, linear_at_within, pair_at_within}
use Rattle.affine.proofs.RowRead.{read_centre, read_pair}
use Rattle.affine.proofs.Magnitude.{pair_total_fits}
use Rattle.affine.proofs.PairSymbols.{first_below, second_below}
use Rattle.affine.proofs.product.pair_total.Goals as goal

pub crosswise_total-requires : goal.crosswise_total-requires
crosswise_total-requires c =
    let x = c.args.x.now in
    let y = c.args.y.now in
    let k = c.args.p.index in
    let (hx, hy) = c.requires in
    rw (read_centre x hx, read_centre y hy, read_pair x hx k, read_pair y hy k)
    (centre_within x hx, pair_at_within y hy k, centre_within y hy, pair_at_within x hx k)

pub meeting_at-requires-clause-i_lt_symbols : goal.meeting_at-requires-clause-i_lt_symbols
meeting_at-requires-clause-i_lt_symbols c =
    let p = c.args.p in
    (omega (arith, p.first_told, first_below p.index), omega (arith, p.second_told, second_below p.index))

pub meeting_at-requires-clause-by_index : goal.meeting_at-requires-clause-by_index
meeting_at-requires-clause-by_index c =
    let (hx, hy) = c.requires in
    (linear_at_within c.args.x.now hx, linear_at_within c.args.y.now hy)

sum_is : (c : goal.After-meeting_at)
    → to_z w64 (of_z w64 c.crosswise_total.result) +ℤ to_z w64 (of_z w64 c.meeting_at.result) ≡ pair_total c.args.x.now c.args.y.now c.args.p.index
sum_is c =
    let x = c.args.x.now in
    let y = c.args.y.now in
    let k = c.args.p.index in
    let (hx, hy) = c.requires in
    rw (← c.args.p.first_told, ← c.args.p.second_told)
    (ap₂ ◌+ℤ◌
    (back c.crosswise_total.type_inv ∙ (rw (read_centre x hx, read_centre y hy, read_pair x hx k, read_pair y hy k) at c.crosswise_total.ensures))
    (back c.meeting_at.type_inv ∙ c.meeting_at.ensures))

pub overflow_add-result : goal.overflow_add-result
overflow_add-result c =
    let (hx, hy) = c.requires in
    rw (sum_is c) (pair_total_fits c.args.x.now c.args.y.now hx hy c.args.p.index)

pub returns : goal.returns
returns c = let (hx, hy) = c.requires in back_as (sum_is c) (pair_total_fits c.args.x.now c.args.y.now hx hy c.args.p.index)
