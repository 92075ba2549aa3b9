-- `reciprocal` meets its contract: neither end is 0, and a quotient of N is no larger than N.
use mathlib.Core.Path.{◌≡◌, ap, ◌∙◌}
use native.Mathlib.Omega.{arith}
use lib.IntN.{ℤ, pos, neg_ℤ, +ℤ_idl, ◌-ℤ◌}
use mir.Syntax.{w64}
use mir.Val.{SFits, to_z, of_z}
use borrow.Author.Rules.{rules}
use Rattle.integer.specs.Floor.{floor_quotient}
use Rattle.integer.proofs.Absolute.{nat_abs_neg, fits_within}
use Rattle.integer.proofs.Floor.{nat_abs_quotient}
use Rattle.integer.proofs.Machine.{back, back_as}
use Rattle.affine.specs.Limits.{unit_squared}
use Rattle.interval.proofs.reciprocal.Goals as goal

-- N with its sign turned
abbrev less : ℤ
less = neg_ℤ (pos unit_squared)

pub floor_quotient-low-requires : goal.floor_quotient-low-requires
floor_quotient-low-requires c =
    let x = c.args.x in
    let high : to_z w64 (of_z w64 x.high) ≡ x.high = search rules in
    rw high (c.requires.1, fits_within _ unit_squared (nat_abs_quotient (pos unit_squared) x.high) (omega arith))

pub floor_quotient-high-requires : goal.floor_quotient-high-requires
floor_quotient-high-requires c =
    let x = c.args.x in
    let low : to_z w64 (of_z w64 x.low) ≡ x.low = search rules in
    rw low (c.requires.0, fits_within _ unit_squared (nat_abs_quotient less x.low) (omega arith))

-- the quotient with its sign turned back
turned : (z q : ℤ) → to_z w64 (of_z w64 q) ≡ q → q ≡ floor_quotient less (to_z w64 (of_z w64 z)) → to_z w64 (of_z w64 z) ≡ z
    → pos 0 -ℤ to_z w64 (of_z w64 q) ≡ neg_ℤ (floor_quotient less z)
turned z q b e l = +ℤ_idl (neg_ℤ (to_z w64 (of_z w64 q))) ∙ ap neg_ℤ (b ∙ e ∙ ap (floor_quotient less) l)

turned_fits : (z : ℤ) → SFits w64 (neg_ℤ (floor_quotient less z))
turned_fits z = let q = floor_quotient less z in fits_within (neg_ℤ q) unit_squared (omega (arith, nat_abs_neg q, nat_abs_quotient less z)) (omega arith)

pub overflow_sub-high : goal.overflow_sub-high
overflow_sub-high c =
    let z = c.args.x.low in
    let h = c.floor_quotient-high in
    let low : to_z w64 (of_z w64 z) ≡ z = search rules in
    rw (turned z h.result (back h.type_inv) h.ensures.value low) (turned_fits z)

pub returns : goal.returns
returns c =
    let x = c.args.x in
    let q = c.floor_quotient-low in
    let h = c.floor_quotient-high in
    let low : to_z w64 (of_z w64 x.low) ≡ x.low = search rules in
    let high : to_z w64 (of_z w64 x.high) ≡ x.high = search rules in
    λ i. record {
      low = (back q.type_inv ∙ q.ensures.value ∙ ap (floor_quotient (pos unit_squared)) high) i;
      high = back_as (turned x.low h.result (back h.type_inv) h.ensures.value low) (turned_fits x.low) i;
    }
