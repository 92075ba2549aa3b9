-- `square_error` meets its contract: what all totals miss, and the dropped part.
use Rattle.std.proofs.Common.{rules, arith, ap, ◌∙◌, nat_abs, ◌≤◌}
use Rattle.affine.specs.declared.Row.{Row}
use Rattle.affine.specs.Limits.{symbols}
use lib.IntN.{◌*ℤ◌}
use Rattle.integer.proofs.Machine.{back, operation_fits}
use Rattle.affine.proofs.RowSize.{centre_within, radius_told}
use Rattle.affine.proofs.RowRead.{centre_fits, read_centre}
use Rattle.affine.proofs.Magnitude.{centre_product_fits, centre_product_within}
use Rattle.affine.proofs.ProductRow.{product_is}
use Rattle.affine.proofs.SquareError.{linear_miss_none, linear_small, pair_small, error_is, error_small}
use Rattle.affine.proofs.root.square_error.Goals as goal

pub overflow_mul-z : goal.overflow_mul-z
overflow_mul-z c =
    let z = c.args.z.now in
    let hz = c.requires.within.1 in
    operation_fits ◌*ℤ◌ (centre_fits z hz) (centre_fits z hz) (centre_product_fits z z hz hz)

pub missed-requires : goal.missed-requires
missed-requires c =
    let x = c.args.x.now in
    let z = c.args.z.now in
    let (hx, hz, told) = c.requires.within in
    rw (read_centre x hx, product_is z z hz hz) (centre_within x hx, centre_product_within 0 z z hz hz)

pub put_front-linear-requires : goal.put_front-linear-requires
put_front-linear-requires c =
    let x = c.args.x.now in
    let z = c.args.z.now in
    let s = c.args.symbols in
    let (hx, hz, told) = c.requires.within in
    let zeros = ap (λ (r : Row). r.linear) c.constant_row-misses.ensures in
    let own : s.own ≤ symbols = omega (arith, s.owned) in
    let small = linear_small x z hx hz in
    let none = linear_miss_none x z s.own c.requires.none.0 c.requires.none.1 in
    λ k w. (search rules, (search (rules, w), (omega arith, (own, (zeros, (search rules, (λ i p h e. search rules, (λ i h l. (none i h, none i h), small))))))))

pub put_pairs_in_use-pair-requires : goal.put_pairs_in_use-pair-requires
put_pairs_in_use-pair-requires c =
    let s = c.args.symbols in
    let (hx, hz, told) = c.requires.within in
    let zeros = ap (λ (r : Row). r.pair) c.constant_row-misses.ensures in
    let small = pair_small c.args.x.now c.args.z.now hx hz s.squares in
    λ k w. (search (rules, w), (s.few, (zeros, (λ p h. search rules, (λ p q h e. search rules, small)))))

pub dropped_part-dropped-requires-clause-a_len : goal.dropped_part-dropped-requires-clause-a_len
dropped_part-dropped-requires-clause-a_len c =
    let z = c.args.z.now in
    let t = radius_told z c.requires.within.2 c.requires.within.1 in
    (search rules, t.0, t.1)

pub dropped_part-dropped-requires-clause-b_len : goal.dropped_part-dropped-requires-clause-b_len
dropped_part-dropped-requires-clause-b_len c =
    let z = c.args.z.now in
    let t = radius_told z c.requires.within.2 c.requires.within.1 in
    (search rules, t.0, t.1)

pub overflow_add-result : goal.overflow_add-result
overflow_add-result c =
    let x = c.args.x.now in
    let z = c.args.z.now in
    let (hx, hz, told) = c.requires.within in
    let centre = c.whole-centre.ensures.1 ∙ ap nat_abs (back c.missed.type_inv ∙ (rw (read_centre x hx, product_is z z hz hz) at c.missed.ensures)) in
    let sum = error_is x z hx hz c.args.symbols.squares told centre c.put_front-linear.ensures.rests c.put_pairs_in_use-pair.ensures.rests c.dropped_part-dropped.ensures in
    record { fits = omega (arith, error_small x z hx hz c.args.symbols.squares sum) }

pub overflow_add-result-2 : goal.overflow_add-result-2
overflow_add-result-2 c =
    let x = c.args.x.now in
    let z = c.args.z.now in
    let (hx, hz, told) = c.requires.within in
    let centre = c.whole-centre.ensures.1 ∙ ap nat_abs (back c.missed.type_inv ∙ (rw (read_centre x hx, product_is z z hz hz) at c.missed.ensures)) in
    let sum = error_is x z hx hz c.args.symbols.squares told centre c.put_front-linear.ensures.rests c.put_pairs_in_use-pair.ensures.rests c.dropped_part-dropped.ensures in
    record { fits = omega (arith, error_small x z hx hz c.args.symbols.squares sum) }

pub overflow_add-result-3 : goal.overflow_add-result-3
overflow_add-result-3 c =
    let x = c.args.x.now in
    let z = c.args.z.now in
    let (hx, hz, told) = c.requires.within in
    let centre = c.whole-centre.ensures.1 ∙ ap nat_abs (back c.missed.type_inv ∙ (rw (read_centre x hx, product_is z z hz hz) at c.missed.ensures)) in
    let sum = error_is x z hx hz c.args.symbols.squares told centre c.put_front-linear.ensures.rests c.put_pairs_in_use-pair.ensures.rests c.dropped_part-dropped.ensures in
    record { fits = omega (arith, error_small x z hx hz c.args.symbols.squares sum) }

pub returns : goal.returns
returns c =
    let x = c.args.x.now in
    let z = c.args.z.now in
    let (hx, hz, told) = c.requires.within in
    let centre = c.whole-centre.ensures.1 ∙ ap nat_abs (back c.missed.type_inv ∙ (rw (read_centre x hx, product_is z z hz hz) at c.missed.ensures)) in
    error_is x z hx hz c.args.symbols.squares told centre c.put_front-linear.ensures.rests c.put_pairs_in_use-pair.ensures.rests c.dropped_part-dropped.ensures
