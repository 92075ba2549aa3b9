-- `error_bound` meets its contract: the absolute totals, N taken from the centre's, and the dropped part.
use Rattle.std.proofs.Common.{rules, arith, ap, ◌≤◌}
use Rattle.affine.specs.declared.Row.{Row}
use Rattle.affine.specs.Limits.{symbols}
use lib.IntN.{◌*ℤ◌}
use Rattle.integer.proofs.Machine.{operation_fits}
use Rattle.affine.proofs.RowSize.{radius_told}
use Rattle.affine.proofs.RowRead.{centre_fits}
use Rattle.affine.proofs.Magnitude.{centre_product_fits}
use Rattle.affine.proofs.Totals.{linear_total_none}
use Rattle.affine.proofs.ErrorBound.{less_fits, linear_small, pair_small, error_is, error_small}
use Rattle.affine.proofs.reciprocal.error_bound.Goals as goal

pub overflow_mul-a : goal.overflow_mul-a
overflow_mul-a c =
    let x = c.args.x.now in
    let z = c.args.z.now in
    let hz = c.requires.within.0 in
    operation_fits ◌*ℤ◌ (centre_fits x.row x.within) (centre_fits z hz) (centre_product_fits x.row z x.within hz)

pub overflow_sub-a : goal.overflow_sub-a
overflow_sub-a c = less_fits c.args.x.now.row c.args.z.now c.args.x.now.within c.requires.within.0

pub put_front-linear-requires : goal.put_front-linear-requires
put_front-linear-requires c =
    let x = c.args.x.now in
    let z = c.args.z.now in
    let hz = c.requires.within.0 in
    let s = c.args.symbols in
    let hx = x.within in
    let zeros = ap (λ (r : Row). r.linear) c.constant_row-totals.ensures in
    let own : s.own ≤ symbols = omega (arith, s.owned) in
    let small = linear_small x.row z x.within hz in
    let none = linear_total_none x.row z s.own c.requires.none.0 c.requires.none.1 in
    λ k w. (search rules, (search (rules, w), (omega arith, (own, (zeros, (search rules, (λ i p h e. search rules, (λ i h l. (none i h, none i h), small))))))))

pub put_pairs_in_use-pair-requires : goal.put_pairs_in_use-pair-requires
put_pairs_in_use-pair-requires c =
    let s = c.args.symbols in
    let x = c.args.x.now in
    let hx = x.within in
    let hz = c.requires.within.0 in
    let zeros = ap (λ (r : Row). r.pair) c.constant_row-totals.ensures in
    let small = pair_small x.row c.args.z.now hx hz s.squares in
    λ k w. (search (rules, w), (s.few, (zeros, (λ p h. search rules, (λ p q h e. search rules, small)))))

pub dropped_part-dropped-requires-clause-a_len : goal.dropped_part-dropped-requires-clause-a_len
dropped_part-dropped-requires-clause-a_len c =
    let x = c.args.x.now in
    let t = radius_told x.row x.summed x.within in
    (search rules, t.0, t.1)

pub dropped_part-dropped-requires-clause-b_len : goal.dropped_part-dropped-requires-clause-b_len
dropped_part-dropped-requires-clause-b_len c =
    let z = c.args.z.now in
    let t = radius_told z c.requires.within.1 c.requires.within.0 in
    (search rules, t.0, t.1)

pub overflow_add-result : goal.overflow_add-result
overflow_add-result c =
    let sum = error_is c.args.x.now.row c.args.z.now c.args.x.now.within c.requires.within.0 c.args.symbols.squares c.args.x.now.summed c.requires.within.1 c.whole-centre.ensures.1 c.put_front-linear.ensures.rests c.put_pairs_in_use-pair.ensures.rests c.dropped_part-dropped.ensures in
    record { fits = omega (arith, error_small c.args.x.now.row c.args.z.now c.args.x.now.within c.requires.within.0 c.args.symbols.squares sum) }

pub overflow_add-result-2 : goal.overflow_add-result-2
overflow_add-result-2 c =
    let sum = error_is c.args.x.now.row c.args.z.now c.args.x.now.within c.requires.within.0 c.args.symbols.squares c.args.x.now.summed c.requires.within.1 c.whole-centre.ensures.1 c.put_front-linear.ensures.rests c.put_pairs_in_use-pair.ensures.rests c.dropped_part-dropped.ensures in
    record { fits = omega (arith, error_small c.args.x.now.row c.args.z.now c.args.x.now.within c.requires.within.0 c.args.symbols.squares sum) }

pub overflow_add-result-3 : goal.overflow_add-result-3
overflow_add-result-3 c =
    let sum = error_is c.args.x.now.row c.args.z.now c.args.x.now.within c.requires.within.0 c.args.symbols.squares c.args.x.now.summed c.requires.within.1 c.whole-centre.ensures.1 c.put_front-linear.ensures.rests c.put_pairs_in_use-pair.ensures.rests c.dropped_part-dropped.ensures in
    record { fits = omega (arith, error_small c.args.x.now.row c.args.z.now c.args.x.now.within c.requires.within.0 c.args.symbols.squares sum) }

pub returns : goal.returns
returns c =
    error_is c.args.x.now.row c.args.z.now c.args.x.now.within c.requires.within.0 c.args.symbols.squares c.args.x.now.summed c.requires.within.1 c.whole-centre.ensures.1 c.put_front-linear.ensures.rests c.put_pairs_in_use-pair.ensures.rests c.dropped_part-dropped.ensures
