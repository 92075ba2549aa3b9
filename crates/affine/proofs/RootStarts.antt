-- The candidate for the root of a row whose form does not start below 0 does not start below 0 either. What counts below 0 sums to s in the operand and
-- to s' in the candidate, and t of those numbers are rounded away from 0: so z s' ≤ 2048 s + z t. Here s is at most the centre c, and
-- 4096 c < (z + 1)². Since t is at most s and at most the number of coefficients, 2 t < z; hence s' ≤ z.
use mathlib.Core.Path.{◌≡◌, refl, sym, ap, subst}
use mathlib.Core.Bool.{Bool, true, false}
use mathlib.Core.List.{List}
use Prim.Native.Nat.{ℕ, zero, suc, ◌+◌, ◌*◌, ◌≤◌, ◌<◌}
use native.Mathlib.Nat.{le_refl, mul-le-mul, div-add-mod', lt_of_mul-lt-mul_right}
use native.Mathlib.Omega.{arith}
use borrow.Author.Tests.{lt-ltb}
use lib.Dec.{leb-suc-zero}
use lib.IntN.{ℤ, pos, negsuc, nat_abs, ◌*ℤ◌}
use lib.ListN.{replicate}
use lib.Signed.{lt_z, ◌≤ℤ◌}
use Rattle.integer.specs.Floor.{floor_quotient}
use Rattle.integer.specs.Root.{IsRoot}
use Rattle.integer.specs.Sum.{sum_abs}
use Rattle.integer.proofs.Absolute.{below_high_end, nat_abs_of_nonneg}
use Rattle.integer.proofs.Floor.{nat_abs_quotient_product}
use Rattle.integer.proofs.Order.{pos-≤ℤ, ≤_of_pos, ≤ℤ_trans, difference_nonneg, ≤ℤ_of_difference}
use Rattle.integer.proofs.RootLaws.{is_root, below_of_squares}
use Rattle.affine.specs.declared.Row.{Row}
use Rattle.affine.specs.Limits.{symbols, pairs, unit, half_unit}
use Rattle.affine.specs.Lists.{at, tabulate, sum}
use Rattle.affine.specs.PairOrder.{is_square, over_pairs, firsts, seconds}
use Rattle.affine.specs.Row.{pair_below, pairs_below, low}
use Rattle.affine.specs.Row as Row
use Rattle.affine.specs.Root.{unit_root, root_slope, root_candidate, starts_below_zero}
use Rattle.affine.specs.Steps.{input_row, ends_range}
use Rattle.affine.proofs.Lists.{tabulate_cong, at_tabulate}
use Rattle.affine.proofs.SumLaws.{sum_abs_tabulate_at}
use Rattle.affine.proofs.RangeSize.{both_sides, reach_below, low_not_above_centre}
use Rattle.affine.proofs.Distance.{apart_above}
use Rattle.affine.proofs.InputRow.{input_centred}
use Rattle.affine.proofs.CandidateSize.{not_zero}
use Rattle.affine.proofs.RootCandidate.{unit_root_is, unit_root_some, half_unit_within}

-- ---- n numbers count s below 0 and their slopes s', with so many rounded away from 0
record Rounded (z n s s' : ℕ) : Type 0 where
  away : ℕ
  each : away ≤ n
  counted : away ≤ s
  within : s' * z ≤ half_unit * s + away * z

rounded_none : {z n s s' : ℕ} → s' * z ≤ half_unit * s → Rounded z n s s'
rounded_none h = record { away = 0; each = omega arith; counted = omega arith; within = omega arith }

rounded_add : {z l m n s t s' t' : ℕ} → Rounded z m s s' → Rounded z n t t' → m + n ≤ l → Rounded z l (s + t) (s' + t')
rounded_add a b h =
    record {
      away = a.away + b.away;
      each = omega (arith, a.each, b.each);
      counted = omega (arith, a.counted, b.counted);
      within = omega (arith, a.within, b.within);
    }

-- one number: a negative one counts in full
below_within : (b : Bool) (v : ℤ) → pair_below b v ≤ nat_abs v
below_within b v = omega (arith, both_sides false b v)

below_negative : (b : Bool) (n : ℕ) → pair_below b (negsuc n) ≡ suc n
unfolding pair_below
below_negative true n = refl
below_negative false n = refl

slope_within : {z : ℕ} → 0 < z → (v : ℤ) → nat_abs (root_slope z v) * z ≤ half_unit * nat_abs v + z
slope_within {z} h v = omega (arith, nat_abs_quotient_product (pos half_unit *ℤ v) (pos z) (not_zero (pos z) h), half_unit_within v (le_refl (nat_abs v)))

rounded_one : {z : ℕ} → 0 < z → (b : Bool) (v : ℤ) → Rounded z 1 (pair_below b v) (pair_below b (root_slope z v))
unfolding pair_below floor_quotient
rounded_one h true (pos n) = rounded_none (omega arith)
rounded_one {z} h false (pos n) = rounded_none (omega (arith, div-add-mod' (half_unit * n) z))
rounded_one {z} h b (negsuc n) =
    let e = below_negative b n in
    let q = mul-le-mul (below_within b (root_slope z (negsuc n))) (le_refl z) in
    record { away = 1; each = omega arith; counted = omega arith; within = omega (arith, slope_within h (negsuc n)) }

-- the numbers f 0, f 1 and so on
abbrev count_below : ℕ → (ℕ → Bool) → (ℕ → ℤ) → ℕ
count_below n b f = sum (tabulate n (λ i. pair_below (b i) (f i)))

rounded_all : {z : ℕ} → 0 < z → (n : ℕ) (b : ℕ → Bool) (f : ℕ → ℤ) → Rounded z n (count_below n b f) (count_below n b (λ i. root_slope z (f i)))
unfolding sum tabulate
rounded_all h zero b f = rounded_none (omega arith)
rounded_all h (suc n) b f = rounded_add (rounded_one h (b 0) (f 0)) (rounded_all h n (λ i. b (suc i)) (λ i. f (suc i))) (omega arith)

-- linear coefficients count as those of pairs of different symbols do
linear_counts : (n : ℕ) (f : ℕ → ℤ) → count_below n (λ i. false) f ≡ sum_abs (tabulate n f)
unfolding sum tabulate pair_below
linear_counts zero f = refl
linear_counts (suc n) f = ap (λ m. nat_abs (f 0) + m) (linear_counts n (λ i. f (suc i)))

rounded_linear : {z : ℕ} → 0 < z → (n : ℕ) (xs : List ℤ) → Rounded z n (sum_abs xs) (sum_abs (tabulate n (λ i. root_slope z (at xs i))))
rounded_linear {z} h n xs =
    let r = rw (linear_counts n (at xs), linear_counts n (λ i. root_slope z (at xs i))) at (rounded_all h n (λ i. false) (at xs)) in
    let l = sum_abs_tabulate_at n xs in
    record { away = r.away; each = r.each; counted = omega (arith, r.counted); within = omega (arith, r.within) }

pairs_count : (f : ℕ → ℤ) → count_below pairs is_square f ≡ pairs_below (tabulate pairs f)
unfolding pairs_below
pairs_count f = ap sum (tabulate_cong pairs (λ k h. ap (pair_below (is_square k)) (sym (at_tabulate pairs f k h))))

rounded_pairs : {z : ℕ} → 0 < z → (xs : List ℤ) → Rounded z pairs (pairs_below xs) (pairs_below (tabulate pairs (λ k. root_slope z (at xs k))))
unfolding pairs_below
rounded_pairs {z} h xs = subst (Rounded z pairs (pairs_below xs)) (pairs_count (λ k. root_slope z (at xs k))) (rounded_all h pairs is_square (at xs))

rounded_row : (x : Row) → 0 < unit_root x.centre → Rounded (unit_root x.centre) (symbols + pairs) (reach_below x) (reach_below (root_candidate x))
rounded_row x h = rounded_add (rounded_linear h symbols x.linear) (rounded_pairs h x.pair) (omega arith)

-- ---- the root of 4096 c is at least what so few numbers count
module _ {z n c s s' : ℕ} (few : n + 2 ≤ 1024) (some : 0 < z) (root : IsRoot (unit * c) z) (l : s ≤ c) (r : Rounded z n s s') where
  -- (2 t + 1)² ≤ 4 (n + 1) t + 1 ≤ 4096 c
  few_away : 2 * r.away + 1 < suc z
  few_away =
      let t = r.away in
      let k = le_refl t in
      below_of_squares (2 * t + 1) (suc z)
      (omega (arith, root.not_above, root.next_above, r.counted, mul-le-mul some some, mul-le-mul r.each k, mul-le-mul few k))

  root_covers : s' ≤ z
  root_covers =
      let less : s' * z < suc z * z = omega (arith, r.within, root.next_above, mul-le-mul (le_refl z) few_away) in
      let below : s' < suc z = lt_of_mul-lt-mul_right z less in
      omega arith

-- ---- the low end: from 0 on in the operand, so in the candidate
not_below : {v : ℤ} → pos 0 ≤ℤ v → lt_z v (pos 0) ≡ false
not_below {v = pos n} h = leb-suc-zero n
not_below {v = negsuc n} h = absurd h.le

starts_from_zero : (x : Row) → pos 1 ≤ℤ x.centre → pos 0 ≤ℤ low x → starts_below_zero (root_candidate x) ≡ false
unfolding low
starts_from_zero x h l =
    let c = x.centre in
    let some = unit_root_some h in
    let root : IsRoot (unit * nat_abs c) (unit_root c) = rw (unit_root_is h) (is_root (unit * nat_abs c)) in
    let reach = ≤_of_pos (reach_below x) (nat_abs c) (≤ℤ_trans (≤ℤ_of_difference l) (below_high_end c (nat_abs c) (le_refl (nat_abs c)))) in
    not_below (difference_nonneg (pos-≤ℤ (root_covers (omega arith) some root reach (rounded_row x some))))

-- ---- so of a row whose own range is not below 1: that of its form, or an input's ends
pub form_starts : (x : Row) → pos 1 ≤ℤ low x → starts_below_zero (root_candidate x) ≡ false
form_starts x h = starts_from_zero x (≤ℤ_trans h (low_not_above_centre x)) (≤ℤ_trans (pos-≤ℤ (omega arith)) h)

no_pair_below : pairs_below (replicate pairs (pos 0)) ≡ 0
unfolding pairs_below pair_below tabulate sum over_pairs firsts seconds
no_pair_below = refl

above_zero : {v : ℤ} → pos 1 ≤ℤ v → lt_z (pos 0) v ≡ true
above_zero {v = pos n} h = lt-ltb 0 n (≤_of_pos 1 n h)
above_zero {v = negsuc n} h = absurd h.le

pub input_starts : (own : ℕ) (low high : ℤ) → low ≤ℤ high → pos 1 ≤ℤ low → starts_below_zero (root_candidate (input_row own low high)) ≡ false
unfolding Row.low
input_starts own low high order h =
    let x = input_row own low high in
    let around = input_centred own low high order in
    let some = ≤ℤ_trans h around.low_below in
    let e : pos (nat_abs x.centre) ≡ x.centre = nat_abs_of_nonneg (≤ℤ_trans (pos-≤ℤ (omega arith)) some) in
    let reach : reach_below x ≤ nat_abs x.centre = omega (arith, no_pair_below, (around.outweighs (apart_above (ends_range low high) (above_zero h))).within) in
    starts_from_zero x some (difference_nonneg (subst (λ z. pos (reach_below x) ≤ℤ z) e (pos-≤ℤ reach)))
