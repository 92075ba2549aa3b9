-- The numbers of an input's row against its ends: no operation on the way wraps; the own coefficient is the only one, so the span is that of two
-- numbers; the centre is the middle, rounded down; and where the ends do not hold 0 it outweighs the own coefficient.
use mathlib.Core.Path.{◌≡◌, sym, ap, subst, ◌∙◌}
use mathlib.Core.Logic.{◌⊎◌, inl, inr}
use Prim.Native.Nat.{ℕ, ◌+◌, ◌*◌, ◌≤◌, ◌<◌}
use native.Mathlib.Omega.{arith}
use lib.IntN.{ℤ, pos, neg_ℤ, nat_abs, ◌+ℤ◌, ◌-ℤ◌, ◌*ℤ◌}
use lib.ListN.{replicate, length-replicate, get_or-replicate}
use lib.Signed.{◌≤ℤ◌}
use mir.Syntax.{w64}
use mir.Val.{SFits}
use Rattle.integer.specs.Floor.{floor_remainder}
use Rattle.integer.proofs.Ring.{con, ◌⊕◌, ◌⊖◌, ◌⊗◌, neg}
use Rattle.integer.proofs.Linear.{lin_ℤ, ◌⊴◌, ◌≗◌, ◌⇒◌, so}
use Rattle.integer.proofs.Order.{≤ℤ_trans, pos-≤ℤ, ≤_of_pos}
use Rattle.integer.proofs.Absolute.{nat_abs_add, nat_abs_sub, nat_abs_neg, nat_abs_of_nonneg, nat_abs_within, fits_of_nat_abs}
use Rattle.integer.proofs.Floor.{nat_abs_quotient, floor_divides, remainder_is, remainder_nonneg, remainder_by_small}
use Rattle.affine.specs.Limits.{symbols, pairs, span_limit}
use Rattle.affine.specs.Lists.{at}
use Rattle.affine.specs.Row.{span, radius}
use Rattle.affine.specs.Steps.{input_centre, input_row, ends_range}
use Rattle.affine.specs.Reciprocal.{distance, Outweighs, ApartOutweighs}
use Rattle.affine.specs.Root.{Centred}
use Rattle.affine.proofs.SumLaws.{sum_abs_set, sum_abs_set_zero, sum_abs_zeros}
use Rattle.affine.proofs.RowSize.{span_is_sum}
use Rattle.affine.proofs.Distance.{distance_is_end}

module _ (low high : ℤ) (hl : nat_abs low ≤ span_limit) (hh : nat_abs high ≤ span_limit) where
  sum_within : nat_abs (low +ℤ high) ≤ span_limit + span_limit
  sum_within = omega (arith, nat_abs_add low high)

  centre_within : nat_abs (input_centre low high) ≤ span_limit + span_limit
  centre_within = omega (arith, sum_within, nat_abs_quotient (low +ℤ high) (pos 2))

  pub sum_fits : SFits w64 (low +ℤ high)
  sum_fits = fits_of_nat_abs (low +ℤ high) (omega (arith, sum_within))

  pub centre_fits : SFits w64 (input_centre low high)
  centre_fits = fits_of_nat_abs (input_centre low high) (omega (arith, centre_within))

  own_within : nat_abs (high -ℤ input_centre low high) ≤ 3 * span_limit
  own_within = omega (arith, nat_abs_sub high (input_centre low high), centre_within)

  pub own_fits : SFits w64 (high -ℤ input_centre low high)
  own_fits = fits_of_nat_abs (high -ℤ input_centre low high) (omega (arith, own_within))

  pub both_within : nat_abs (input_centre low high) + nat_abs (high -ℤ input_centre low high) ≤ 5 * span_limit
  both_within = omega (arith, centre_within, own_within)

-- ---- the own coefficient is the only one: so its absolute value is the radius, and with the centre's the span
module _ (own : ℕ) (low high : ℤ) (h : own < symbols) where
  pub radius_input : radius (input_row own low high) ≡ nat_abs (high -ℤ input_centre low high)
  unfolding radius
  radius_input =
      let none : at (replicate symbols (pos 0)) own ≡ pos 0 = get_or-replicate symbols own (pos 0) (pos 0) h in
      omega (
        arith,
        sum_abs_set_zero (replicate symbols (pos 0)) own (high -ℤ input_centre low high) (omega (arith, length-replicate symbols (pos 0))) none,
        sum_abs_zeros symbols,
        sum_abs_zeros pairs,
      )

  pub span_input : span (input_row own low high) ≡ nat_abs (input_centre low high) + nat_abs (high -ℤ input_centre low high)
  unfolding radius
  span_input = span_is_sum (input_row own low high) ∙ ap (λ n. nat_abs (input_centre low high) + n) radius_input

-- ---- the centre is not above the middle, and less than a unit below it
centre_divides : (low high : ℤ) → input_centre low high *ℤ pos 2 +ℤ floor_remainder (low +ℤ high) (pos 2) ≡ low +ℤ high
centre_divides low high = (floor_divides (low +ℤ high) (pos 2) (λ e. let n : ◌≡◌ {A = ℕ} 2 0 = cc in omega arith)).total

pub centre_below_middle : (low high : ℤ) → (pos 2 *ℤ input_centre low high) ≤ℤ (low +ℤ high)
centre_below_middle low high =
    lin_ℤ 4 (λ q r l h. q ⊗ con (pos 2) ⊕ r ≗ l ⊕ h ⇒ con (pos 0) ⊴ r ⇒ so (con (pos 2) ⊗ q ⊴ l ⊕ h))
    (input_centre low high) (floor_remainder (low +ℤ high) (pos 2)) low high (omega arith)
    (centre_divides low high) (remainder_nonneg (low +ℤ high) 2 (omega arith))

middle_near_centre : (low high : ℤ) → (low +ℤ high) ≤ℤ (pos 2 *ℤ input_centre low high +ℤ pos 1)
middle_near_centre low high =
    lin_ℤ 4 (λ q r l h. q ⊗ con (pos 2) ⊕ r ≗ l ⊕ h ⇒ r ⊴ con (pos 1) ⇒ so (l ⊕ h ⊴ con (pos 2) ⊗ q ⊕ con (pos 1)))
    (input_centre low high) (floor_remainder (low +ℤ high) (pos 2)) low high (omega arith)
    (centre_divides low high)
    (rw (remainder_is (low +ℤ high) 2 (omega arith)) (pos-≤ℤ (omega (arith, remainder_by_small (low +ℤ high) 2 (omega arith)))))

low_end_not_above_centre : (low high : ℤ) → low ≤ℤ high → low ≤ℤ input_centre low high
low_end_not_above_centre low high order =
    lin_ℤ 3 (λ l h c. l ⊴ h ⇒ l ⊕ h ⊴ con (pos 2) ⊗ c ⊕ con (pos 1) ⇒ so (l ⊴ c)) low high (input_centre low high) (omega arith) order (middle_near_centre low high)

-- ---- ends that do not hold 0
-- v no farther from 0 than c
outweighed : (c v : ℤ) → pos 1 ≤ℤ c → neg_ℤ c ≤ℤ v → v ≤ℤ c → (0 < nat_abs c) × (nat_abs v ≤ nat_abs c)
outweighed c v one below above =
    let e : pos (nat_abs c) ≡ c = nat_abs_of_nonneg (≤ℤ_trans (pos-≤ℤ (omega arith)) one) in (
      ≤_of_pos 1 (nat_abs c) (subst (λ z. pos 1 ≤ℤ z) (sym e) one),
      nat_abs_within v (nat_abs c) (subst (λ z. neg_ℤ z ≤ℤ v) (sym e) below) (subst (λ z. v ≤ℤ z) (sym e) above),
    )

module _ (own : ℕ) (low high : ℤ) (order : low ≤ℤ high) where
  -- the centre, and the own coefficient
  abbrev c : ℤ
  c = input_centre low high

  abbrev v : ℤ
  v = high -ℤ c

  row_outweighs : (0 < nat_abs c) × (nat_abs v ≤ nat_abs c) → Outweighs (input_row own low high)
  row_outweighs (some, small) =
      record { some = some; within = omega (arith, sum_abs_set (replicate symbols (pos 0)) own v, sum_abs_zeros symbols) }

  ends_above : (a : ℕ) → 0 < a → pos a ≡ low → (0 < nat_abs c) × (nat_abs v ≤ nat_abs c)
  ends_above a h e =
      let one : pos 1 ≤ℤ low = subst (λ z. pos 1 ≤ℤ z) e (pos-≤ℤ h) in
      let near = middle_near_centre low high in
      outweighed c v
      (lin_ℤ 3 (λ l h c. con (pos 1) ⊴ l ⇒ l ⊴ h ⇒ l ⊕ h ⊴ con (pos 2) ⊗ c ⊕ con (pos 1) ⇒ so (con (pos 1) ⊴ c)) low high c (omega arith) one order near)
      (lin_ℤ 3 (λ l h c. con (pos 1) ⊴ l ⇒ l ⊴ h ⇒ so (neg c ⊴ h ⊖ c)) low high c (omega arith) one order)
      (lin_ℤ 3 (λ l h c. con (pos 1) ⊴ l ⇒ l ⊕ h ⊴ con (pos 2) ⊗ c ⊕ con (pos 1) ⇒ so (h ⊖ c ⊴ c)) low high c (omega arith) one near)

  ends_below : (a : ℕ) → 0 < a → neg_ℤ (pos a) ≡ high → (0 < nat_abs c) × (nat_abs v ≤ nat_abs c)
  ends_below a h e =
      let some : pos 1 ≤ℤ pos a = pos-≤ℤ h in
      let below = centre_below_middle low high in
      rw nat_abs_neg at
      (outweighed (neg_ℤ c) v
      (lin_ℤ 4 (λ l h c a. con (pos 1) ⊴ a ⇒ neg a ≗ h ⇒ l ⊴ h ⇒ con (pos 2) ⊗ c ⊴ l ⊕ h ⇒ so (con (pos 1) ⊴ neg c)) low high c (pos a) (omega arith) some e order below)
      (lin_ℤ 4 (λ l h c a. con (pos 1) ⊴ a ⇒ neg a ≗ h ⇒ l ⊴ h ⇒ con (pos 2) ⊗ c ⊴ l ⊕ h ⇒ so (neg (neg c) ⊴ h ⊖ c)) low high c (pos a) (omega arith) some e order below)
      (lin_ℤ 4 (λ l h c a. con (pos 1) ⊴ a ⇒ neg a ≗ h ⇒ so (h ⊖ c ⊴ neg c)) low high c (pos a) (omega arith) some e))

  input_outweighs : ApartOutweighs (ends_range low high) (input_row own low high)
  input_outweighs e = by_side (distance_is_end (ends_range low high) e)
    where
      by_side : (0 < distance (ends_range low high)) × ((pos (distance (ends_range low high)) ≡ low) ⊎ (neg_ℤ (pos (distance (ends_range low high))) ≡ high))
          → Outweighs (input_row own low high)
      by_side (h, inl q) = row_outweighs (ends_above (distance (ends_range low high)) h q)
      by_side (h, inr q) = row_outweighs (ends_below (distance (ends_range low high)) h q)

  pub input_centred : Centred (ends_range low high) (input_row own low high)
  input_centred = record { outweighs = input_outweighs; low_below = low_end_not_above_centre low high order }
