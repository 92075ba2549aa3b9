-- The worked examples, by computation.
use mathlib.Core.Path.{refl}
use Rattle.integer.specs.Floor.{floor_quotient}
use Rattle.integer.specs.Nearest.{nearest_quotient, nearest_remainder}
use Rattle.affine.specs.Lists.{tabulate, sum}
use Rattle.affine.specs.PairOrder.{over_pairs, firsts, seconds}
use Rattle.affine.specs.Row.{span, low, high, pair_below, pair_above, pairs_below, pairs_above, radius}
use Rattle.affine.specs.Product.{linear_totals, pair_totals, squared_radius, dropped, product_own, product_row}
use Rattle.integer.specs.Root.{root_in, root}
use Rattle.affine.specs.Reciprocal.{candidate_linear, candidate_pair, error_bound, reciprocal_own, reciprocal_row}
use Rattle.affine.specs.Root.{unit_root, linear_misses, pair_misses, square_error, root_own, root_row}
use Rattle.interval.specs.Interval.{least_product, greatest_product}
use Rattle.sheet.specs.Lines.{line_of, numbers}
use Rattle.sheet.specs.Tests.{counts_pass, ends_pass, step_passes, fault}
use Rattle.sheet.specs.Writing.{fault_at, test_lines, test_of}
use Rattle.evaluation.specs.Work.{binary_answer, unary_answer, step_answer, row_answer, with_answer, worked, evaluated}
use Rattle.evaluation.specs.Ranges.{own_ranges, plain_step, plain_range, answered}
use Rattle.evaluation.specs.Examples.{shown, ExamplesHold}

pub examples_hold : ExamplesHold
unfolding shown evaluated worked with_answer own_ranges row_answer step_answer binary_answer unary_answer plain_step plain_range answered least_product greatest_product test_of test_lines fault_at line_of numbers fault counts_pass ends_pass step_passes floor_quotient nearest_quotient nearest_remainder low high tabulate over_pairs firsts seconds pair_below pair_above pairs_below pairs_above sum span linear_totals pair_totals radius squared_radius dropped product_own product_row candidate_linear candidate_pair error_bound reciprocal_own reciprocal_row root root_in unit_root linear_misses pair_misses square_error root_own root_row
examples_hold = (
  record { p1 = refl; p2 = refl; p3 = refl; p4 = refl; p5 = refl; p6 = refl; p7 = refl; p8 = refl; p9 = refl; p10 = refl; p11 = refl; p12_first = refl; p12_second = refl; p13_first = refl; p13_second = refl },
  (
    record { r1 = refl; r2 = refl; r3 = refl; r4 = refl; r5 = refl; r6 = refl; r7 = refl },
    record { n1 = refl; n2 = refl; n3 = refl; n4 = refl; n5 = refl },
  ),
)
