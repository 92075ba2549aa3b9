-- `root_candidate` meets its contract: its centre is the root, and its coefficients are the slopes of the operand's.
use Rattle.std.proofs.Common.{rules, arith, refl, ap, ◌∙◌, ◌≡◌, ◌≤◌, ◌<◌, ◌≤ℤ◌, ℕ, to_z, of_z, w64, pos}
use Rattle.affine.specs.declared.Row.{Row}
use Rattle.affine.specs.Row.{span}
use mir.ValLaws.{to_z_pos}
use Rattle.affine.specs.Limits.{symbols, pairs, span_limit}
use Rattle.affine.specs.Lists.{at, tabulate}
use Rattle.affine.specs.Root.{unit_root, root_slope}
use Rattle.affine.proofs.RowSize.{centre_within, linear_within, pair_within}
use Rattle.affine.proofs.RowRead.{read_centre}
use Rattle.affine.proofs.RootCandidate.{unit_root_some, unit_root_limit, root_slope_zero}
use Rattle.affine.proofs.Parted.{nothing_left}
use Rattle.affine.proofs.root.root_candidate.Goals as goal

pub unit_root-z-requires : goal.unit_root-z-requires
unit_root-z-requires c =
    let x = c.args.x.now in
    let (within, some) = c.requires.within in
    rw (read_centre x within) (some, centre_within x within)

-- the size of the root
module _ (x : Row) {z : ℕ} (within : span x ≤ span_limit) (some : pos 1 ≤ℤ x.centre) (e : z ≡ unit_root (to_z w64 (of_z w64 x.centre))) where
  root_is : z ≡ unit_root x.centre
  root_is = rw (read_centre x within) at e

  root_size : (0 < z) × (z ≤ span_limit)
  root_size = rw root_is (unit_root_some some, unit_root_limit some (centre_within x within))

pub overflow_cast-z : goal.overflow_cast-z
overflow_cast-z c =
    let (within, some) = c.requires.within in
    record { sfits = omega (arith, (root_size c.args.x.now within some c.unit_root-z.ensures).1) }

pub put_front-requires : goal.put_front-requires
put_front-requires c =
    let x = c.args.x.now in
    let (within, some) = c.requires.within in
    let size = root_size x within some c.unit_root-z.ensures in
    let sum = linear_within x within in
    let zeros = ap (λ (r : Row). r.linear) c.constant_row-row.ensures in
    let small = nothing_left (λ i. root_slope c.unit_root-z.result (at x.linear i)) symbols in
    let none = (λ (i : ℕ) (h : c.args.own ≤ i). ap (root_slope c.unit_root-z.result) (c.requires.none.1 i h) ∙ root_slope_zero c.unit_root-z.result) in
    λ k w. (search rules, (search (rules, w), (omega arith, (c.requires.none.0, (zeros, (search rules, (λ i p h e. search rules, (λ i h l. (none i h, refl), small))))))))

pub put_front-requires-2 : goal.put_front-requires-2
put_front-requires-2 c =
    let x = c.args.x.now in
    let (within, some) = c.requires.within in
    let size = root_size x within some c.unit_root-z.ensures in
    let sum = pair_within x within in
    let zeros = ap (λ (r : Row). r.pair) c.constant_row-row.ensures in
    let small = nothing_left (λ k. root_slope c.unit_root-z.result (at x.pair k)) pairs in
    λ k w. (search rules, (search (rules, w), (omega arith, (omega arith, (zeros, (search rules, (λ i p h e. search rules, (λ i h l. absurd (omega (arith, h, l)), small))))))))

pub returns : goal.returns
returns c =
    let x = c.args.x.now in
    let (within, some) = c.requires.within in
    let is = root_is x within some c.unit_root-z.ensures in
    let size = root_size x within some c.unit_root-z.ensures in
    let centre = ap (λ (r : Row). r.centre) c.constant_row-row.ensures ∙ to_z_pos w64 c.unit_root-z.result (omega (arith, size.1)) ∙ ap pos is in
    let linear = c.put_front.ensures.numbers ∙ ap (λ z. tabulate symbols (λ i. root_slope z (at x.linear i))) is in
    let pair = c.put_front-2.ensures.numbers ∙ ap (λ z. tabulate pairs (λ k. root_slope z (at x.pair k))) is in
    λ i. record { centre = centre i; linear = linear i; pair = pair i }
