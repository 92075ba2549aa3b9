-- The row of a product from what the code finds of it: the dropped part d, the parts c, l and p of the centre, of the symbols and of the pairs, and the own
-- coefficient v.
use mathlib.Core.List.{List}
use mathlib.Core.Path.{◌≡◌, sym, ap, ap₂, ◌∙◌}
use Prim.Native.Nat.{ℕ, ◌+◌, ◌-◌, ◌*◌, ◌^◌, ◌≤◌, ◌<◌}
use native.Mathlib.Omega.{arith}
use lib.IntN.{ℤ, pos, nat_abs, ◌*ℤ◌}
use mir.Syntax.{w64}
use mir.Val.{to_z, of_z}
use Rattle.integer.proofs.Machine.{operation_gives}
use Rattle.affine.specs.declared.operands.Operand.{Operand}
use Rattle.affine.specs.declared.operands.Symbols.{Symbols}
use Rattle.affine.specs.declared.by_index.Part.{Part}
use Rattle.affine.proofs.RowRead.{centre_fits}
use lib.ListN.{take}
use Rattle.integer.specs.Floor.{ceiling_quotient}
use Rattle.integer.proofs.Floor.{ceiling_at_most}
use Rattle.integer.specs.Sum.{sum_abs}
use Rattle.affine.specs.declared.Row.{Row}
use Rattle.affine.specs.Limits.{symbols, pairs, unit, span_limit}
use Rattle.affine.specs.Lists.{tabulate}
use Rattle.affine.specs.PairOrder.{over_used}
use Rattle.affine.specs.Row.{span}
use Rattle.affine.specs.Steps.{map_row, with_own}
use Rattle.affine.specs.Product.{linear_total, pair_total, totals, dropped, product_rounding, product_own, product_row}
use Rattle.affine.proofs.RowSize.{span_is_sum}
use Rattle.affine.proofs.Totals.{dropped_of_radii}
use Rattle.affine.proofs.Rounding.{product_rounds, quotient_zero, remainder_zero}
use Rattle.affine.proofs.Magnitude.{totals_within, centre_product_fits}
use Rattle.affine.proofs.ProductError.{all_remainders, error_within}
use Rattle.affine.proofs.SpanSize.{span_own, span_map}
use Rattle.affine.proofs.Parted.{divided}
use Rattle.affine.proofs.Divided.{map_linear_totals, map_pair_totals}

-- the product of the centres, as code comes to it
abbrev pub read_product : Row → Row → ℤ
read_product x y = to_z w64 (of_z w64 (to_z w64 (of_z w64 x.centre) *ℤ to_z w64 (of_z w64 y.centre)))

pub product_is : (x y : Row) → span x ≤ span_limit → span y ≤ span_limit → read_product x y ≡ x.centre *ℤ y.centre
product_is x y hx hy = operation_gives ◌*ℤ◌ (centre_fits x hx) (centre_fits y hy) (centre_product_fits x y hx hy)

-- how large the new row can be, whatever bounds the spans of the operands
pub span_product : (squares own : ℕ) (x y : Row) {n : ℕ} → span x ≤ n → span y ≤ n
    → span (product_row squares own x y) ≤ 2 * (n * n) + unit * (1 + symbols + pairs)
unfolding product_row product_own
span_product squares own x y hx hy =
    let t = totals squares x y in
    omega (
      arith,
      span_own own (pos (product_own squares x y)) (map_row product_rounding.quotient t),
      span_map product_rounding.quotient product_rounds.quotient_within t,
      span_is_sum t,
      totals_within squares x y hx hy,
      ceiling_at_most (dropped squares x y + all_remainders squares x y) unit (omega arith),
      error_within squares x y hx hy,
    )

abbrev all_totals : Operand → Operand → Symbols → Row
all_totals x y s = totals s.squares x.row y.row

module _ (x y : Operand) (s : Symbols) {d l p : ℕ} (c : Part)
    (ed : d ≡ x.radius * y.radius - sum_abs (take s.squares x.row.linear) * sum_abs (take s.squares y.row.linear))
    (ec : c.rest ≡ nat_abs (product_rounding.remainder (read_product x.row y.row)))
    (el : l ≡ sum_abs (tabulate symbols (divided (linear_total x.row y.row)).remainder))
    (ep : p ≡ sum_abs (over_used s.squares (divided (pair_total x.row y.row)).remainder)) where
  error_is : d + c.rest + l + p ≡ dropped s.squares x.row y.row + span (map_row product_rounding.remainder (all_totals x y s))
  error_is =
      let centre = ec ∙ ap (λ z. nat_abs (product_rounding.remainder z)) (product_is x.row y.row x.within y.within) in
      let linear = el ∙ ap sum_abs (sym (map_linear_totals product_rounding.remainder x.row y.row)) in
      let pair = ep ∙ ap sum_abs (sym (map_pair_totals product_rounding.remainder x.row y.row remainder_zero s.squares)) in
      omega (
        arith,
        ed ∙ dropped_of_radii s.squares x.row y.row x.summed y.summed,
        centre,
        linear,
        pair,
        span_is_sum (map_row product_rounding.remainder (all_totals x y s)),
      )

  pub error_small : d + c.rest + l + p ≤ span_limit * span_limit + unit * (1 + symbols + pairs)
  error_small = rw error_is (error_within s.squares x.row y.row x.within y.within)

  module _ {v : ℕ} {z : ℤ} {ln pn : List ℤ} (er : z ≡ c.number) (eq : c.number ≡ product_rounding.quotient (read_product x.row y.row))
      (en : ln ≡ tabulate symbols (divided (linear_total x.row y.row)).number)
      (em : pn ≡ over_used s.squares (divided (pair_total x.row y.row)).number)
      (ev : v ≡ ceiling_quotient (d + c.rest + l + p) unit) where
    abbrev made : Row
    made = record { centre = z; linear = ln; pair = pn }

    quotients_are : made ≡ map_row product_rounding.quotient (all_totals x y s)
    quotients_are =
        let centre = er ∙ eq ∙ ap product_rounding.quotient (product_is x.row y.row x.within y.within) in
        let linear = en ∙ sym (map_linear_totals product_rounding.quotient x.row y.row) in
        let pair = em ∙ sym (map_pair_totals product_rounding.quotient x.row y.row quotient_zero s.squares) in
        λ i. record { centre = centre i; linear = linear i; pair = pair i }

    pub row_small : span made + v < 2 ^ 63
    row_small =
        rw quotients_are
        (omega (
          arith,
          ev,
          error_small,
          ceiling_at_most (d + c.rest + l + p) unit (omega arith),
          span_map product_rounding.quotient product_rounds.quotient_within (all_totals x y s),
          span_is_sum (all_totals x y s),
          totals_within s.squares x.row y.row x.within y.within,
        ))

    pub row_is : with_own s.own (pos v) made ≡ product_row s.squares s.own x.row y.row
    unfolding product_own product_row
    row_is = ap₂ (λ v q. with_own s.own (pos v) q) (ev ∙ ap (λ n. ceiling_quotient n unit) error_is) quotients_are
