-- A sheet and its listing, and a refusal, from the bytes of the sheet to the bytes that are printed: by computation.
use mathlib.Core.Path.{refl}
use Rattle.integer.specs.Floor.{floor_quotient}
use Rattle.integer.specs.Nearest.{nearest_quotient, nearest_remainder}
use Rattle.affine.specs.Lists.{tabulate, sum}
use Rattle.affine.specs.PairOrder.{over_pairs, firsts, seconds}
use Rattle.affine.specs.Row.{span, low, high, agree, pair_below, pair_above, pairs_below, pairs_above, radius}
use Rattle.affine.specs.Product.{linear_totals, pair_totals, squared_radius, dropped, product_own, product_row}
use Rattle.interval.specs.Interval.{least_product, greatest_product}
use Rattle.sheet.specs.Lines.{zero_schedule, line_of, numbers, store}
use Rattle.sheet.specs.Tests.{counts_pass, ends_pass, step_passes, fault}
use Rattle.sheet.specs.Number.{run, judged, after_sign, field_at}
use Rattle.sheet.specs.Reading.{read_of, read_sheet, read_lines, read_as, starts, fields_from, fields_at}
use Rattle.sheet.specs.Text.{decimal, numeral, line, texts}
use Rattle.sheet.specs.Writing.{fault_at, test_lines, test_of}
use Rattle.evaluation.specs.Table.{all_numbers, after}
use Rattle.evaluation.specs.Work.{binary_answer, step_answer, row_answer, with_answer, worked, evaluated}
use Rattle.evaluation.specs.Ranges.{own_ranges, plain_step, plain_range, answered}
use Rattle.evaluation.specs.Asking.{row_refusal, range_refusal, rows_refusal, range_of, same_of, part_of}
use Rattle.listing.specs.Listing.{first_among, row_text, listing, refusal_text, schedule_text, text_of}
use Rattle.listing.specs.Examples.{sheet_bytes, listing_bytes, refusal_bytes, ListingPrinted, RefusalPrinted}

pub listing_printed : ListingPrinted
unfolding sheet_bytes listing_bytes text_of schedule_text listing row_text refusal_text first_among texts line numeral decimal read_of read_sheet read_lines read_as starts fields_from fields_at run judged after_sign field_at store zero_schedule evaluated worked with_answer row_answer step_answer binary_answer test_of test_lines fault_at line_of numbers fault counts_pass ends_pass step_passes own_ranges plain_step plain_range answered least_product greatest_product all_numbers after row_refusal range_refusal rows_refusal range_of same_of part_of agree floor_quotient nearest_quotient nearest_remainder low high tabulate over_pairs firsts seconds pair_below pair_above pairs_below pairs_above sum span linear_totals pair_totals radius squared_radius dropped product_own product_row
listing_printed = refl

pub refusal_printed : RefusalPrinted
unfolding refusal_bytes text_of refusal_text line numeral decimal read_of read_sheet read_lines read_as starts line_of zero_schedule
refusal_printed = refl
