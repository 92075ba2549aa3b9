-- `candidate` meets its contract: its three parts are those of the candidate.
use Rattle.std.proofs.Common.{rules, arith, refl, ap, ◌≡◌, ◌≤◌, ◌<◌, ◌∙◌, List, ℕ, ℤ, pos, nat_abs, to_z, of_z, w64}
use Rattle.affine.specs.declared.Row.{Row}
use Rattle.affine.specs.Row.{span}
use Rattle.integer.specs.Floor.{floor_quotient}
use Rattle.integer.proofs.Absolute.{fits_within}
use Rattle.integer.proofs.Floor.{nat_abs_quotient}
use Rattle.integer.proofs.Machine.{back}
use Rattle.affine.specs.Limits.{symbols, unit_squared, span_limit}
use Rattle.affine.specs.Lists.{at, tabulate}
use Rattle.affine.specs.Reciprocal.{slope, candidate_linear, candidate_pair, curve}
use Rattle.affine.proofs.RowSize.{centre_within, linear_within}
use Rattle.affine.proofs.RowRead.{read_centre}
use Rattle.affine.proofs.Candidate.{slope_zero}
use Rattle.affine.proofs.CandidateSize.{not_zero}
use Rattle.affine.proofs.Parted.{nothing_left, nothing_left_used}
use Rattle.affine.proofs.reciprocal.candidate.Goals as goal

-- the centre as it is read
abbrev read : Row → ℤ
read x = to_z w64 (of_z w64 x.centre)

pub put_front-requires : goal.put_front-requires
put_front-requires c =
    let x = c.args.x.now in
    let s = c.args.symbols in
    let (within, some, outweighs) = c.requires.outweighs in
    let zeros = ap (λ (r : Row). r.linear) c.constant_row-row.ensures in
    let own : s.own ≤ symbols = omega (arith, s.owned) in
    let small = nothing_left (λ i. slope (read x) (at x.linear i)) symbols in
    let none = (λ (i : ℕ) (h : s.own ≤ i). ap (slope (read x)) (c.requires.none i h) ∙ slope_zero (read x)) in
    let read_within : nat_abs (read x) ≤ span_limit = rw (read_centre x within) (centre_within x within) in
    let read_some : 0 < nat_abs (read x) = rw (read_centre x within) some in
    let all = linear_within x within in
    λ k w. (search rules, (search (rules, w), (omega arith, (own, (zeros, (search rules, (λ i p h e. search rules, (λ i h l. (none i h, refl), small))))))))

-- of the symbols from own on the operand has no coefficient, nor has the candidate
linear_is : {z : List ℤ} (x : Row) → span x ≤ span_limit → z ≡ tabulate symbols (λ i. slope (read x) (at x.linear i)) → z ≡ candidate_linear x
unfolding candidate_linear
linear_is x within e = e ∙ ap (λ c. tabulate symbols (λ i. slope c (at x.linear i))) (read_centre x within)

pub put_pairs_in_use-requires : goal.put_pairs_in_use-requires
put_pairs_in_use-requires c =
    let x = c.args.x.now in
    let s = c.args.symbols in
    let zeros = ap (λ (r : Row). r.pair) c.constant_row-row.ensures in
    let small = nothing_left_used (curve x) s.squares in
    let is = linear_is x c.requires.outweighs.0 c.put_front.ensures.numbers in
    let outweighs = c.requires.outweighs in
    λ k w. (search (rules, w), (s.few, (zeros, (λ p h. search rules, (λ p q h e. search rules, small)))))

pub floor_quotient-requires : goal.floor_quotient-requires
floor_quotient-requires c =
    let x = c.args.x.now in
    let (within, some, outweighs) = c.requires.outweighs in
    rw (read_centre x within) (
      not_zero x.centre some,
      fits_within (floor_quotient (pos unit_squared) x.centre) unit_squared (nat_abs_quotient (pos unit_squared) x.centre) (omega arith),
    )

pub returns : goal.returns
unfolding candidate_pair
returns c =
    let x = c.args.x.now in
    let centre = ap (λ (r : Row). r.centre) c.constant_row-row.ensures ∙ back c.floor_quotient.type_inv ∙ (rw (read_centre x c.requires.outweighs.0) at c.floor_quotient.ensures.value) in
    λ i. record { centre = centre i; linear = linear_is x c.requires.outweighs.0 c.put_front.ensures.numbers i; pair = c.put_pairs_in_use.ensures.numbers i }
