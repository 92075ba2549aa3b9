-- The sizes of `specs/Widths.antt`, all computed.
use mathlib.Core.Path.{refl}
use Rattle.integer.specs.Floor.{floor_quotient}
use Rattle.integer.specs.Nearest.{nearest_quotient, nearest_remainder}
use Rattle.affine.specs.Lists.{tabulate}
use Rattle.affine.specs.PairOrder.{over_pairs, firsts, seconds}
use Rattle.affine.specs.Product.{linear_totals, pair_totals, product_row}
use Rattle.listing.specs.Widths.{WidthsAre, pair_at, PairsInOrder, LastInputsMeet}

pub widths_are : WidthsAre
widths_are = refl

pub pairs_in_order : PairsInOrder
unfolding pair_at tabulate over_pairs firsts seconds
pairs_in_order = refl

pub last_inputs_meet : LastInputsMeet
unfolding product_row linear_totals pair_totals tabulate over_pairs firsts seconds nearest_quotient nearest_remainder floor_quotient
last_inputs_meet = refl
