-- How far the pairs of a row go below and above 0: all their absolute coefficients, less what pairs (i,i) would go to the other side; so neither
-- end of a range is farther from 0 than the span, and low is not above high. By cases and induction.
use mathlib.Core.Path.{◌≡◌, refl, sym, ap, ap₂, ◌∙◌}
use mathlib.Core.Bool.{Bool, true, false}
use mathlib.Core.List.{List}
use Prim.Native.Nat.{ℕ, zero, suc, ◌+◌, ◌-◌, ◌≤◌, ◌<◌}
use native.Mathlib.Omega.{arith}
use lib.Dec.{leb-zero, leb-suc-suc}
use lib.IntN.{ℤ, pos, negsuc, nat_abs, ◌+ℤ◌, ◌-ℤ◌}
use lib.ListN.{length}
use lib.Signed.{◌≤ℤ◌}
use Rattle.std.specs.Int.{int_max}
use Rattle.integer.specs.Sum.{sum_abs}
use Rattle.integer.proofs.Ring.{con, ◌⊕◌, ◌⊖◌, neg}
use Rattle.integer.proofs.Linear.{lin_ℤ, ◌⊴◌, ◌≗◌, ◌⇒◌, so}
use Rattle.integer.proofs.Order.{pos-≤ℤ}
use mir.Syntax.{w64}
use mir.Val.{SFits, to_z, of_z}
use mir.ValLaws.{to_z-of_z}
use Rattle.integer.proofs.Absolute.{nat_abs_add, nat_abs_sub, nat_abs_sub_within, fits_within}
use Rattle.affine.specs.declared.Row.{Row}
use Rattle.affine.specs.Limits.{pairs, pair_count, span_limit}
use Rattle.affine.specs.Lists.{pick, at, tabulate, sum}
use Rattle.affine.specs.PairOrder.{over_pairs, firsts, seconds, is_square}
use Rattle.affine.specs.Row.{pair_below, pair_above, pairs_below, pairs_above, span, low, high}
use Rattle.affine.specs.Measured.{square_reach, squares_from, squares_reach}
use Rattle.affine.proofs.SumLaws.{sum_tabulate_add, sum_tabulate_absolutes}
use Rattle.affine.proofs.RowSize.{span_is_sum}

-- ---- a pair (i,i): how far it goes above 0, by the test of the code, and its coefficient as what it goes above 0 less what it goes below it
pub above_by_max : (v : ℤ) → int_max v (pos 0) ≡ pos (square_reach true v)
unfolding pair_above
above_by_max (pos zero) = refl
above_by_max (pos (suc n)) = simp (leb-suc-suc 0 n, leb-zero n)
above_by_max (negsuc n) = refl

above_less_below : (v : ℤ) → v ≡ pos (square_reach true v) -ℤ pos (square_reach false v)
unfolding pair_above pair_below
above_less_below (pos n) = lin_ℤ 1 (λ v. so (v ≗ v ⊖ con (pos 0))) (pos n) (omega arith)
above_less_below (negsuc n) = lin_ℤ 1 (λ v. so (v ≗ con (pos 0) ⊖ neg v)) (negsuc n) (omega arith)

-- ---- what a pair goes to one side, and what a pair (i,i) would go to the other: its absolute coefficient
abbrev pub reach : Bool → Bool → ℤ → ℕ
reach above square v = pick above (pair_above square v) (pair_below square v)

abbrev pub other_reach : Bool → Bool → ℤ → ℕ
other_reach above square v = pick square (square_reach (pick above false true) v) 0

pub both_sides : (above square : Bool) (v : ℤ) → reach above square v + other_reach above square v ≡ nat_abs v
unfolding pair_above pair_below
both_sides true true (pos n) = omega arith
both_sides true true (negsuc n) = omega arith
both_sides true false v = omega arith
both_sides false true (pos n) = omega arith
both_sides false true (negsuc n) = omega arith
both_sides false false v = omega arith

-- all pairs
abbrev pub all_reach : Bool → List ℤ → ℕ
all_reach above p = pick above (pairs_above p) (pairs_below p)

reaches_are : (above : Bool) (p : List ℤ) → sum (tabulate pairs (λ k. reach above (is_square k) (at p k))) ≡ all_reach above p
unfolding pairs_above pairs_below
reaches_are true p = refl
reaches_are false p = refl

-- the pairs (i,i), from one to the next, are those among all pairs: computed
squares_are : (above : Bool) (p : List ℤ) → sum (tabulate pairs (λ k. pick (is_square k) (square_reach above (at p k)) 0)) ≡ squares_reach above p
unfolding tabulate sum over_pairs firsts seconds squares_from
squares_are above p = omega arith

pub reach_and_squares : (above : Bool) (p : List ℤ) → length p ≡ pairs → all_reach above p + squares_reach (pick above false true) p ≡ sum_abs p
reach_and_squares above p long =
    ap₂ (λ a b. a + b) (sym (reaches_are above p)) (sym (squares_are (pick above false true) p))
    ∙ sum_tabulate_add pairs _ _
    ∙ sum_tabulate_absolutes pairs _ p long (λ k. both_sides above (is_square k) (at p k))

squares_reach_within : (above : Bool) (p : List ℤ) → length p ≡ pairs → squares_reach above p ≤ sum_abs p
squares_reach_within true p long = omega (arith, reach_and_squares false p long)
squares_reach_within false p long = omega (arith, reach_and_squares true p long)

-- the sum of the coefficients of the pairs (i,i) is what they go above 0 less what they go below it: so it takes what all pairs reach below 0 to
-- what they reach above it
abbrev pub balance : List ℤ → ℤ
balance p = pos (squares_reach true p) -ℤ pos (squares_reach false p)

pub below_to_above : (n : ℕ) (p : List ℤ) → length p ≡ pairs → pos (n + pairs_below p) +ℤ balance p ≡ pos (n + pairs_above p)
below_to_above n p long =
    lin_ℤ 4 (λ b t f a. b ⊕ t ≗ a ⊕ f ⇒ so (b ⊕ (t ⊖ f) ≗ a))
    (pos (n + pairs_below p)) (pos (squares_reach true p)) (pos (squares_reach false p)) (pos (n + pairs_above p)) (omega arith)
    (ap pos (omega (arith, reach_and_squares true p long, reach_and_squares false p long)))

pub balance_within : (p : List ℤ) → length p ≡ pairs → nat_abs (balance p) ≤ sum_abs p + sum_abs p
balance_within p long =
    nat_abs_sub_within (pos (squares_reach true p)) (pos (squares_reach false p)) (squares_reach_within true p long) (squares_reach_within false p long)

-- ---- the range around a centre c of a row whose coefficients sum to the radius, by what is left of that on each side
pub record Around (c : ℤ) (radius : ℕ) (p : List ℤ) : Type 0 where
  pub above_within : squares_reach true p ≤ radius
  pub left : radius - squares_reach true p ≡ (radius - sum_abs p) + pairs_below p
  pub turned_over : to_z w64 (of_z w64 (to_z w64 ((radius - sum_abs p) + pairs_below p) +ℤ to_z w64 (of_z w64 (balance p)))) ≡ pos ((radius - sum_abs p) + pairs_above p)
  pub below_fits : SFits w64 (pos ((radius - sum_abs p) + pairs_below p))
  pub low_fits : SFits w64 (c -ℤ pos ((radius - sum_abs p) + pairs_below p))
  pub high_fits : SFits w64 (c +ℤ pos ((radius - sum_abs p) + pairs_above p))

pub around : (c : ℤ) (radius : ℕ) (p : List ℤ) → (length p ≡ pairs) × (sum_abs p ≤ radius) × (nat_abs c + radius ≤ span_limit) → Around c radius p
around c radius p (long, inside, within) =
    let down = reach_and_squares false p long in
    let up = reach_and_squares true p long in
    let below = (radius - sum_abs p) + pairs_below p in
    let above = (radius - sum_abs p) + pairs_above p in
    let fits : SFits w64 (pos below) = fits_within (pos below) span_limit (omega arith) (omega arith) in
    let balanced : SFits w64 (balance p) = fits_within _ (span_limit + span_limit) (omega (arith, balance_within p long)) (omega arith) in
    record {
      above_within = omega arith;
      left = omega arith;
      turned_over =
          rw (to_z-of_z w64 (pos below) fits, to_z-of_z w64 (balance p) balanced, below_to_above (radius - sum_abs p) p long)
          (to_z-of_z w64 (pos above) (fits_within (pos above) span_limit (omega arith) (omega arith)));
      below_fits = fits;
      low_fits = fits_within _ span_limit (omega (arith, nat_abs_sub c (pos below))) (omega arith);
      high_fits = fits_within _ span_limit (omega (arith, nat_abs_add c (pos above))) (omega arith);
    }

-- ---- a loop over the pairs (i,i): left symbols to come, the first of which has its pair at index k, and the sum so far
pub record Passed (above : Bool) (p : List ℤ) (total k left : ℕ) : Type 0 where
  pub place : k + pair_count left ≡ pairs
  pub rest : total + squares_from above p left k ≡ squares_reach above p

module _ {above : Bool} {p : List ℤ} {total k : ℕ} where
  pub passed_more : (left : ℕ) → Passed above p total k left → 0 < left → {m : ℕ} → m ≡ square_reach above (at p k) → Passed above p (total + m) (k + left) (left - 1)
  unfolding squares_from
  passed_more zero s h e = absurd (omega arith)
  passed_more (suc n) s h e =
      let less : suc n - 1 ≡ n = omega arith in
      rw less (record { place = omega (arith, s.place); rest = rw e (omega (arith, s.rest)) })

  -- so the sum does not wrap
  pub passed_within : {left : ℕ} → Passed above p total k left → length p ≡ pairs → total ≤ sum_abs p
  passed_within s long = omega (arith, s.rest, squares_reach_within above p long)

  pub passed_all : (left : ℕ) → Passed above p total k left → left ≤ 0 → total ≡ squares_reach above p
  unfolding squares_from
  passed_all zero s h = omega (arith, s.rest)
  passed_all (suc n) s h = absurd (omega arith)

-- ---- the same loop with the sum of the coefficients too: no variable keeps what they go below 0
pub record Balanced (p : List ℤ) (above : ℕ) (sum : ℤ) (k left : ℕ) : Type 0 where
  pub below : ℕ
  pub over : Passed true p above k left
  pub under : Passed false p below k left
  pub so_far : sum ≡ pos above -ℤ pos below

module _ {p : List ℤ} {above : ℕ} {sum : ℤ} {k : ℕ} where
  pub balanced_more : (left : ℕ) → Balanced p above sum k left → 0 < left → {m : ℕ} → m ≡ square_reach true (at p k)
      → Balanced p (above + m) (sum +ℤ at p k) (k + left) (left - 1)
  balanced_more left b h {m} e =
      let n = square_reach false (at p k) in
      record {
        below = b.below + n;
        over = passed_more left b.over h e;
        under = passed_more left b.under h refl;
        so_far =
            lin_ℤ 6 (λ s v a m b n. s ≗ a ⊖ b ⇒ v ≗ m ⊖ n ⇒ so (s ⊕ v ≗ (a ⊕ m) ⊖ (b ⊕ n)))
            sum (at p k) (pos above) (pos m) (pos b.below) (pos n) (omega arith)
            b.so_far (rw e (above_less_below (at p k)));
      }

  pub balanced_within : {left : ℕ} → Balanced p above sum k left → length p ≡ pairs → nat_abs sum ≤ sum_abs p + sum_abs p
  balanced_within b long =
      rw b.so_far (nat_abs_sub_within (pos above) (pos b.below) (passed_within b.over long) (passed_within b.under long))

  pub balanced_all : (left : ℕ) → Balanced p above sum k left → left ≤ 0 → sum ≡ balance p
  balanced_all left b h = b.so_far ∙ ap₂ (λ m n. pos m -ℤ pos n) (passed_all left b.over h) (passed_all left b.under h)

-- ---- the reach of a whole row and the ends of its range, against its span
abbrev pub reach_below : Row → ℕ
reach_below r = sum_abs r.linear + pairs_below r.pair

abbrev pub reach_above : Row → ℕ
reach_above r = sum_abs r.linear + pairs_above r.pair

pub low_not_above_high : (r : Row) → low r ≤ℤ high r
unfolding low high
low_not_above_high r =
    lin_ℤ 3 (λ c m n. con (pos 0) ⊴ m ⇒ con (pos 0) ⊴ n ⇒ so (c ⊖ m ⊴ c ⊕ n)) r.centre (pos (reach_below r)) (pos (reach_above r)) (omega arith)
    (pos-≤ℤ (omega arith)) (pos-≤ℤ (omega arith))

pub low_not_above_centre : (r : Row) → low r ≤ℤ r.centre
unfolding low
low_not_above_centre r =
    lin_ℤ 2 (λ c m. con (pos 0) ⊴ m ⇒ so (c ⊖ m ⊴ c)) r.centre (pos (reach_below r)) (omega arith) (pos-≤ℤ (omega arith))

module _ {n : ℕ} (r : Row) (long : length r.pair ≡ pairs) (h : span r ≤ n) where
  pub low_within : nat_abs (low r) ≤ n
  unfolding low
  low_within = omega (arith, nat_abs_sub r.centre (pos (reach_below r)), span_is_sum r, reach_and_squares false r.pair long)

  pub high_within : nat_abs (high r) ≤ n
  unfolding high
  high_within = omega (arith, nat_abs_add r.centre (pos (reach_above r)), span_is_sum r, reach_and_squares true r.pair long)
