-- Floor division is the right one: its quotient q and remainder r are the only pair with q d + r = a, r on d's side of 0 and |r| < |d|.
-- By a positive divisor this is the division of naturals; by a negative one, both signs are turned. Then magnitudes, and rounding up.
use mathlib.Core.Path.{◌≡◌, refl, sym, ap, ◌∙◌, subst}
use mathlib.Core.Logic.{◌≢◌, ⊎_elim}
use Prim.Native.Nat.{ℕ, zero, suc, ◌+◌, ◌-◌, ◌*◌, ◌/◌, ◌%◌, ◌≤◌, ◌<◌, zero-le}
use native.Mathlib.Nat.{div-add-mod', mod-lt, div-le_self, suc-mul, lt-div-mul-add, div-lt_iff_lt-mul, lt_of_mul-lt-mul_right, le_of_mul-le-mul_right, le_antisymm, zero-div}
use native.Mathlib.Omega.{arith}
use lib.IntN.{ℤ, pos, negsuc, neg_ℤ, nat_abs, ◌+ℤ◌, ◌-ℤ◌, ◌*ℤ◌}
use lib.Signed.{shr_z, ◌≤ℤ◌, ◌<ℤ◌}
use Rattle.std.specs.Int.{int_rem_euclid}
use Rattle.integer.specs.Floor.{floor_by, floor_quotient, left_over, IsFloor, floor_remainder, rounded_up, ceiling_quotient}
use Rattle.integer.proofs.Ring.{con, ◌⊕◌, ◌⊖◌, ◌⊗◌, neg, ◌≐◌}
use Rattle.integer.proofs.IntegerRing.{ring_ℤ}
use Rattle.integer.proofs.Linear.{lin_ℤ, ◌⊴◌, ◌⊲◌, ◌≗◌, ◌⇒◌, so}
use Rattle.integer.proofs.Order.{<ℤ_or-≥ℤ, pos-≤ℤ, pos-<ℤ, ≤ℤ_antisym, product_nonneg, nonneg_of_product}
use Rattle.integer.proofs.Absolute.{nat_abs_neg, nat_abs_mul, nat_abs_sub, nat_abs_of_nonneg}

-- as floor quotient and remainder, but for the remainder's side
pub record Divides (a d q r : ℤ) : Type 0 where
  pub total : q *ℤ d +ℤ r ≡ a
  pub small : nat_abs r < nat_abs d

-- ---- by a positive divisor: the remainder, as the division of naturals gives it
abbrev pub remainder_by : ℤ → ℕ → ℕ
remainder_by (pos n) m = n % m
remainder_by (negsuc n) m = m - suc (n % m)

pub remainder_by_small : (a : ℤ) (m : ℕ) → 0 < m → remainder_by a m < m
remainder_by_small (pos n) m h = mod-lt n h
remainder_by_small (negsuc n) m h = let k = mod-lt n h in omega arith

pub floor_sum : (a : ℤ) (m : ℕ) → 0 < m → floor_quotient a (pos m) *ℤ pos m +ℤ pos (remainder_by a m) ≡ a
unfolding floor_quotient
floor_sum (pos n) m h = ap pos (div-add-mod' n m)
floor_sum (negsuc n) m h =
    lin_ℤ 3 (λ a p r. p ≗ a ⊕ r ⇒ so (neg p ⊕ r ≗ neg a)) (pos (suc n)) (pos (suc (n / m) * m)) (pos (m - suc (n % m))) (omega arith)
    (ap pos (omega (arith, div-add-mod' n m, mod-lt n h)))

pub remainder_is : (a : ℤ) (m : ℕ) → 0 < m → floor_remainder a (pos m) ≡ pos (remainder_by a m)
unfolding floor_remainder
remainder_is a m h =
    lin_ℤ 3 (λ a p r. p ⊕ r ≗ a ⇒ so (a ⊖ p ≗ r)) a (floor_quotient a (pos m) *ℤ pos m) (pos (remainder_by a m)) (omega arith) (floor_sum a m h)

pub remainder_nonneg : (a : ℤ) (m : ℕ) → 0 < m → pos 0 ≤ℤ floor_remainder a (pos m)
remainder_nonneg a m h = rw (remainder_is a m h) (pos-≤ℤ zero-le)

-- ---- by a negative divisor
pub remainder_turned : (a : ℤ) (m : ℕ) → floor_remainder a (negsuc m) ≡ neg_ℤ (floor_remainder (neg_ℤ a) (pos (suc m)))
unfolding floor_quotient floor_remainder
remainder_turned a m = ring_ℤ 3 (λ a q d. a ⊖ q ⊗ neg d ≐ neg (neg a ⊖ q ⊗ d)) tt a (floor_by (neg_ℤ a) (suc m)) (pos (suc m))

-- ---- the pair divides
floor_total : (a d : ℤ) → floor_quotient a d *ℤ d +ℤ floor_remainder a d ≡ a
unfolding floor_remainder
floor_total a d = ring_ℤ 2 (λ a p. p ⊕ (a ⊖ p) ≐ a) tt a (floor_quotient a d *ℤ d)

pub floor_divides : (a d : ℤ) → d ≢ pos 0 → IsFloor a d (floor_quotient a d) (floor_remainder a d)
floor_divides a (pos zero) n = absurd (n refl)
floor_divides a (pos (suc m)) n =
    let e = remainder_is a (suc m) (omega arith) in
    record {
      total = floor_total a (pos (suc m));
      side = rw e (pos-≤ℤ zero-le);
      small = rw e (remainder_by_small a (suc m) (omega arith));
    }
floor_divides a (negsuc m) n =
    let e = remainder_turned a m ∙ ap neg_ℤ (remainder_is (neg_ℤ a) (suc m) (omega arith)) in
    let r = pos (remainder_by (neg_ℤ a) (suc m)) in
    record {
      total = floor_total a (negsuc m);
      side = rw (e, ring_ℤ 2 (λ r d. neg r ⊗ neg d ≐ r ⊗ d) tt r (pos (suc m))) (pos-≤ℤ zero-le);
      small = rw (e, nat_abs_neg r) (remainder_by_small (neg_ℤ a) (suc m) (omega arith));
    }

-- ---- and is the only one
quotient_at_most : (d q r q' r' : ℤ) → pos 0 ≤ℤ d → pos 0 ≤ℤ r → r' <ℤ d → q *ℤ d +ℤ r ≡ q' *ℤ d +ℤ r' → q ≤ℤ q'
quotient_at_most d q r q' r' hd hr hr' e = ⊎_elim above (λ h. h) (<ℤ_or-≥ℤ q' q)
  where
    above : q' <ℤ q → q ≤ℤ q'
    above h =
        lin_ℤ 5 (λ d q r q' r'. con (pos 0) ⊴ (q ⊖ q' ⊖ con (pos 1)) ⊗ d ⇒ q ⊗ d ⊕ r ≗ q' ⊗ d ⊕ r' ⇒ con (pos 0) ⊴ r ⇒ r' ⊲ d ⇒ so (q ⊴ q'))
        d q r q' r' (omega arith)
        (product_nonneg (lin_ℤ 2 (λ q q'. q' ⊲ q ⇒ so (con (pos 0) ⊴ q ⊖ q' ⊖ con (pos 1))) q q' (omega arith) h) hd) e hr hr'

-- by a positive divisor the remainder is from 0 on and below it
remainder_from_zero : {a d q r : ℤ} → pos 0 <ℤ d → IsFloor a d q r → pos 0 ≤ℤ r
remainder_from_zero {a} {d} {q} {r} h f = nonneg_of_product r d h f.side

remainder_below : {a : ℤ} {m : ℕ} {q r : ℤ} → IsFloor a (pos (suc m)) q r → r <ℤ pos (suc m)
remainder_below {a} {m} {q} {r} f =
    subst (λ z. z <ℤ pos (suc m)) (nat_abs_of_nonneg (remainder_from_zero (pos-<ℤ (omega arith)) f)) (pos-<ℤ f.small)

unique_by_positive : {a : ℤ} {m : ℕ} {q r q' r' : ℤ} → IsFloor a (pos (suc m)) q r → IsFloor a (pos (suc m)) q' r' → q ≡ q'
unique_by_positive {a} {m} {q} {r} {q'} {r'} f g =
    let p : pos 0 <ℤ pos (suc m) = pos-<ℤ (omega arith) in
    let e = f.total ∙ sym g.total in
    ≤ℤ_antisym
    (quotient_at_most (pos (suc m)) q r q' r' (pos-≤ℤ zero-le) (remainder_from_zero p f) (remainder_below g) e)
    (quotient_at_most (pos (suc m)) q' r' q r (pos-≤ℤ zero-le) (remainder_from_zero p g) (remainder_below f) (sym e))

-- by a negative divisor, with both signs turned
pub divides_turned : {a : ℤ} {m : ℕ} {q r : ℤ} → Divides a (negsuc m) q r → Divides (neg_ℤ a) (pos (suc m)) q (neg_ℤ r)
divides_turned {a} {m} {q} {r} f =
    record {
      total = ring_ℤ 3 (λ q d r. q ⊗ d ⊕ neg r ≐ neg (q ⊗ neg d ⊕ r)) tt q (pos (suc m)) r ∙ ap neg_ℤ f.total;
      small = rw nat_abs_neg f.small;
    }

turned : {a : ℤ} {m : ℕ} {q r : ℤ} → IsFloor a (negsuc m) q r → IsFloor (neg_ℤ a) (pos (suc m)) q (neg_ℤ r)
turned {a} {m} {q} {r} f =
    let g : Divides (neg_ℤ a) (pos (suc m)) q (neg_ℤ r) = divides_turned (record { total = f.total; small = f.small }) in
    record {
      total = g.total;
      side = subst (λ z. pos 0 ≤ℤ z) (ring_ℤ 2 (λ r d. r ⊗ neg d ≐ neg r ⊗ d) tt r (pos (suc m))) f.side;
      small = g.small;
    }

pub quotient_unique : {a d q r q' r' : ℤ} → d ≢ pos 0 → IsFloor a d q r → IsFloor a d q' r' → q ≡ q'
quotient_unique {d = pos zero} n f g = absurd (n refl)
quotient_unique {d = pos (suc m)} n f g = unique_by_positive f g
quotient_unique {d = negsuc m} n f g = unique_by_positive (turned f) (turned g)

pub floor_unique : {a d q r : ℤ} → d ≢ pos 0 → IsFloor a d q r → (q ≡ floor_quotient a d) × (r ≡ floor_remainder a d)
floor_unique {a} {d} {q} {r} n f = (same, left f same ∙ sym (left (floor_divides a d n) refl))
  where
    same : q ≡ floor_quotient a d
    same = quotient_unique n f (floor_divides a d n)

    left : {p s : ℤ} → IsFloor a d p s → p ≡ floor_quotient a d → s ≡ a -ℤ floor_quotient a d *ℤ d
    left {p} {s} g e =
        lin_ℤ 3 (λ a t s. t ⊕ s ≗ a ⇒ so (s ≗ a ⊖ t)) a (floor_quotient a d *ℤ d) s (omega arith) (subst (λ z. z *ℤ d +ℤ s ≡ a) e g.total)

-- of a number that is the quotient, with what it leaves
pub floor_as : {a d q : ℤ} → d ≢ pos 0 → q ≡ floor_quotient a d → IsFloor a d q (left_over a d q)
unfolding floor_remainder
floor_as {a} {d} n e = subst (λ z. IsFloor a d z (left_over a d z)) (sym e) (floor_divides a d n)

-- ---- magnitudes
nat_abs_floor_by : (a : ℤ) (m : ℕ) → nat_abs (floor_by a m) ≤ nat_abs a
nat_abs_floor_by (pos n) m = div-le_self n m
nat_abs_floor_by (negsuc n) m = let h = div-le_self n m in omega arith

-- the shift that copies the sign is the quotient by what it shifts by, case by case
pub shift_is_floor : (a : ℤ) (m : ℕ) → shr_z a m ≡ floor_quotient a (pos m)
unfolding floor_quotient
shift_is_floor (pos n) m = refl
shift_is_floor (negsuc n) m = refl

-- the remainder that is not negative, as the library gives it
pub euclid_leaves : (a : ℤ) (m : ℕ) → int_rem_euclid a (pos m) ≡ pos (remainder_by a m)
euclid_leaves (pos n) m = refl
euclid_leaves (negsuc n) m = ap pos (omega arith)

pub zero_quotient : (d : ℤ) → floor_quotient (pos 0) d ≡ pos 0
unfolding floor_quotient
zero_quotient (pos d) = ap pos (zero-div d)
zero_quotient (negsuc d) = ap pos (zero-div (suc d))

pub nat_abs_quotient : (a d : ℤ) → nat_abs (floor_quotient a d) ≤ nat_abs a
unfolding floor_quotient
nat_abs_quotient a (pos m) = nat_abs_floor_by a m
nat_abs_quotient a (negsuc m) = rw nat_abs_neg at (nat_abs_floor_by (neg_ℤ a) (suc m))

pub nat_abs_remainder : (a d : ℤ) → d ≢ pos 0 → nat_abs (floor_remainder a d) < nat_abs d
nat_abs_remainder a d n = (floor_divides a d n).small

-- |q| |d| < |a| + |d|: the quotient is as small as the divisor is large
pub nat_abs_quotient_product : (a d : ℤ) → d ≢ pos 0 → nat_abs (floor_quotient a d) * nat_abs d < nat_abs a + nat_abs d
nat_abs_quotient_product a d n =
    let f = floor_divides a d n in
    let e = lin_ℤ 3 (λ a t r. t ⊕ r ≗ a ⇒ so (a ⊖ r ≗ t)) a (floor_quotient a d *ℤ d) (floor_remainder a d) (omega arith) f.total in
    let t = rw (e, nat_abs_mul) at (nat_abs_sub a (floor_remainder a d)) in
    let s = f.small in
    omega arith

-- ---- rounded up: the least q with n ≤ q d
pub ceiling_covers : (n d : ℕ) → 0 < d → n ≤ ceiling_quotient n d * d
ceiling_covers n d h = let k = lt-div-mul-add {a = n + (d - 1)} {b = d} h in omega arith

pub ceiling_least : (n d q : ℕ) → 0 < d → n ≤ q * d → ceiling_quotient n d ≤ q
ceiling_least n d q h k =
    let s : n + (d - 1) < suc q * d = rw suc-mul (omega arith) in
    let l : ceiling_quotient n d < suc q = (div-lt_iff_lt-mul h).1 s in
    omega arith

pub ceiling_at_most : (n d : ℕ) → 0 < d → ceiling_quotient n d ≤ n
ceiling_at_most n zero h = elim h [ ]
ceiling_at_most n (suc d) h = ceiling_least n (suc d) n h (omega arith)

-- by quotient and remainder of naturals
pub ceiling_exact : (n d : ℕ) → 0 < d → n % d ≡ 0 → ceiling_quotient n d ≡ n / d
ceiling_exact n d h e =
    let s = div-add-mod' n d in
    let c = ceiling_covers n d h in
    let l : n / d * d ≤ ceiling_quotient n d * d = omega arith in
    le_antisymm (ceiling_least n d (n / d) h (omega arith)) (le_of_mul-le-mul_right l h)

pub ceiling_more : (n d : ℕ) → 0 < d → 0 < n % d → ceiling_quotient n d ≡ n / d + 1
ceiling_more n d h k =
    let s = div-add-mod' n d in
    let t = mod-lt n h in
    let c = ceiling_covers n d h in
    let l : n / d * d < ceiling_quotient n d * d = omega arith in
    let u : n / d < ceiling_quotient n d = lt_of_mul-lt-mul_right d l in
    let v : ceiling_quotient n d ≤ n / d + 1 = ceiling_least n d (n / d + 1) h (omega arith) in
    omega arith

-- of natural numbers both ways to round up are one
pub ups_agree : (n d : ℕ) → 0 < d → rounded_up (pos n) (pos d) ≡ pos (ceiling_quotient n d)
unfolding floor_quotient
ups_agree zero d h =
    let none : ceiling_quotient 0 d ≡ 0 = omega (arith, ceiling_at_most 0 d h) in
    ap (λ k. neg_ℤ (pos k)) (zero-div d) ∙ ap pos (sym none)
ups_agree (suc m) d h =
    let s = div-add-mod' m d in
    let t = mod-lt m h in
    let c = ceiling_covers (suc m) d h in
    let l : m / d * d < ceiling_quotient (suc m) d * d = omega arith in
    let u : m / d < ceiling_quotient (suc m) d = lt_of_mul-lt-mul_right d l in
    let v : ceiling_quotient (suc m) d ≤ m / d + 1 = ceiling_least (suc m) d (m / d + 1) h (omega arith) in
    ap pos (omega arith)

pub up_as : (n d : ℕ) {c : ℕ} → 0 < d → c ≡ ceiling_quotient n d → pos c ≡ rounded_up (pos n) (pos d)
up_as n d h e = ap pos e ∙ sym (ups_agree n d h)
