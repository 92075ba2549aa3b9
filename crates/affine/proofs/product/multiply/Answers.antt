-- `multiply` meets its contract: its own coefficient covers the dropped part and all remainders, and nothing wraps.
use Rattle.std.proofs.Common.{rules, arith, ap, ◌∙◌, ◌≡◌, ◌≤◌, ◌<◌, ◌^◌, ℕ, to_z, of_z, w64}
use Rattle.integer.specs.Sum.{sum_abs}
use Rattle.affine.specs.Limits.{symbols}
use Rattle.affine.specs.Lists.{tabulate}
use Rattle.affine.specs.PairOrder.{over_used}
use lib.IntN.{◌*ℤ◌}
use Rattle.integer.proofs.Machine.{operation_fits}
use Rattle.affine.specs.declared.Row.{Row}
use Rattle.affine.specs.Steps.{checked}
use Rattle.affine.specs.Product.{linear_total, pair_total}
use Rattle.affine.proofs.RowSize.{radius_told}
use Rattle.affine.proofs.RowRead.{centre_fits}
use Rattle.affine.proofs.Magnitude.{centre_product_fits}
use Rattle.affine.proofs.Totals.{linear_total_none}
use Rattle.affine.proofs.Parted.{divided, divided_none, remainders_small, remainders_small_used}
use Rattle.affine.proofs.Fronts.{tabulate_none}
use Rattle.affine.proofs.Agreement.{numbers_agree}
use Rattle.affine.proofs.ProductRow.{error_small, row_small, row_is}
use Rattle.affine.proofs.product.multiply.Goals as goal

pub overflow_mul-a : goal.overflow_mul-a
overflow_mul-a c =
    let x = c.args.x in
    let y = c.args.y in
    operation_fits ◌*ℤ◌ (centre_fits x.row x.within) (centre_fits y.row y.within) (centre_product_fits x.row y.row x.within y.within)

pub put_front-linear-requires : goal.put_front-linear-requires
put_front-linear-requires c =
    let x = c.args.x in
    let y = c.args.y in
    let s = c.args.symbols in
    let hx = x.within in
    let hy = y.within in
    let zeros = ap (λ (r : Row). r.linear) c.constant_row-row.ensures in
    let own : s.own ≤ symbols = omega (arith, s.owned) in
    let small : sum_abs (tabulate symbols (divided (linear_total x.row y.row)).remainder) < 2 ^ 64 = omega (arith, remainders_small (linear_total x.row y.row)) in
    let none = (λ (i : ℕ) (h : s.own ≤ i). divided_none (linear_total_none x.row y.row s.own c.requires.0 c.requires.1 i h)) in
    λ k w. (search rules, (search (rules, w), (omega arith, (own, (zeros, (search rules, (λ i p h e. search rules, (λ i h l. none i h, small))))))))

pub put_pairs_in_use-pair-requires : goal.put_pairs_in_use-pair-requires
put_pairs_in_use-pair-requires c =
    let x = c.args.x in
    let y = c.args.y in
    let s = c.args.symbols in
    let hx = x.within in
    let hy = y.within in
    let zeros = ap (λ (r : Row). r.pair) c.constant_row-row.ensures in
    let small : sum_abs (over_used s.squares (divided (pair_total x.row y.row)).remainder) < 2 ^ 64 = omega (arith, remainders_small_used (pair_total x.row y.row) s.squares) in
    λ k w. (search (rules, w), (s.few, (zeros, (λ p h. search rules, (λ p q h e. search rules, small)))))

pub dropped_part-dropped-requires-clause-a_len : goal.dropped_part-dropped-requires-clause-a_len
dropped_part-dropped-requires-clause-a_len c =
    let x = c.args.x in
    let t = radius_told x.row x.summed x.within in
    (search rules, t.0, t.1)

pub dropped_part-dropped-requires-clause-b_len : goal.dropped_part-dropped-requires-clause-b_len
dropped_part-dropped-requires-clause-b_len c =
    let y = c.args.y in
    let t = radius_told y.row y.summed y.within in
    (search rules, t.0, t.1)

pub overflow_add-error : goal.overflow_add-error
overflow_add-error c =
    let small = error_small c.args.x c.args.y c.args.symbols c.divided-centre.result c.dropped_part-dropped.ensures c.divided-centre.ensures.remainder c.put_front-linear.ensures.rests c.put_pairs_in_use-pair.ensures.rests in
    record { fits = omega (arith, small) }

pub overflow_add-error-2 : goal.overflow_add-error-2
overflow_add-error-2 c =
    let small = error_small c.args.x c.args.y c.args.symbols c.divided-centre.result c.dropped_part-dropped.ensures c.divided-centre.ensures.remainder c.put_front-linear.ensures.rests c.put_pairs_in_use-pair.ensures.rests in
    record { fits = omega (arith, small) }

pub overflow_add-error-3 : goal.overflow_add-error-3
overflow_add-error-3 c =
    let small = error_small c.args.x c.args.y c.args.symbols c.divided-centre.result c.dropped_part-dropped.ensures c.divided-centre.ensures.remainder c.put_front-linear.ensures.rests c.put_pairs_in_use-pair.ensures.rests in
    record { fits = omega (arith, small) }

pub check_with_own-requires : goal.check_with_own-requires
check_with_own-requires c =
    let fits : to_z w64 (of_z w64 c.divided-centre.result.number) ≡ c.divided-centre.result.number = search rules in
    let centre = ap (λ (r : Row). r.centre) c.constant_row-row.ensures ∙ fits in
    let total = linear_total c.args.x.row c.args.y.row in
    let none = (λ (i : ℕ) (h : c.args.symbols.own ≤ i). (divided_none (linear_total_none c.args.x.row c.args.y.row c.args.symbols.own c.requires.0 c.requires.1 i h)).0) in
    record {
      none = (c.args.symbols.owned, rw c.put_front-linear.ensures.numbers (tabulate_none c.args.symbols.own (divided total).number none));
      small =
          row_small c.args.x c.args.y c.args.symbols c.divided-centre.result c.dropped_part-dropped.ensures c.divided-centre.ensures.remainder c.put_front-linear.ensures.rests c.put_pairs_in_use-pair.ensures.rests
          centre c.divided-centre.ensures.quotient c.put_front-linear.ensures.numbers c.put_pairs_in_use-pair.ensures.numbers c.ceiling_quotient.ensures.value;
    }

pub returns-clause-value : goal.returns-clause-value
returns-clause-value c =
    let fits : to_z w64 (of_z w64 c.divided-centre.result.number) ≡ c.divided-centre.result.number = search rules in
    let centre = ap (λ (r : Row). r.centre) c.constant_row-row.ensures ∙ fits in
    c.check_with_own.ensures.answer
    ∙ ap checked
    (row_is c.args.x c.args.y c.args.symbols c.divided-centre.result c.dropped_part-dropped.ensures c.divided-centre.ensures.remainder c.put_front-linear.ensures.rests c.put_pairs_in_use-pair.ensures.rests
    centre c.divided-centre.ensures.quotient c.put_front-linear.ensures.numbers c.put_pairs_in_use-pair.ensures.numbers c.ceiling_quotient.ensures.value)

pub returns-clause-agreement : goal.returns-clause-agreement
returns-clause-agreement c = numbers_agree c.args.symbols.squares c.args.symbols.own c.args.x.row c.args.y.row c.check_with_own.result (returns-clause-value c)
