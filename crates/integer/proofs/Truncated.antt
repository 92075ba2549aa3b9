-- The machine's division, rounded toward 0, against the division rounded down: where the remainder has the divisor's sign or is 0 they
-- agree, and otherwise the quotient is one less and the remainder one divisor more. By the uniqueness of the floor pair.
use mathlib.Core.Path.{◌≡◌, refl, sym, ap, ◌∙◌, subst}
use mathlib.Core.Logic.{◌≢◌, ◌↔◌}
use mathlib.Core.Bool.{Bool, true, false}
use Prim.Native.Nat.{ℕ, zero, suc, ◌*◌, ◌/◌, ◌%◌, ◌^◌, ◌≤◌, ◌<◌, zero-le}
use native.Mathlib.Nat.{div-add-mod', mod-lt, div-le_self, div-lt_self, le_of_suc-le-suc}
use native.Mathlib.Omega.{arith}
use lib.Bits.{bit_and, and_mask}
use lib.Dec.{T}
use lib.IntN.{ℤ, pos, negsuc, neg_ℤ, nat_abs, ◌+ℤ◌, ◌-ℤ◌, ◌*ℤ◌, neg_ℤ-neg_ℤ}
use lib.Signed.{mag, mag_rem, lt_z, lt_z_yes, le_z_yes, quot_z, rem_z, ◌≤ℤ◌, ◌<ℤ◌}
use mir.Syntax.{w64}
use mir.Val.{SFits, to_z, of_z}
use mir.ValLaws.{sfits_le, to_z_pos}
use Rattle.std.specs.Prelude.{IsTrue}
use Rattle.integer.specs.Floor.{floor_quotient, floor_remainder}
use Rattle.integer.proofs.Ring.{con, ◌⊕◌, ◌⊖◌, ◌⊗◌, neg, ◌≐◌}
use Rattle.integer.proofs.IntegerRing.{ring_ℤ}
use Rattle.integer.proofs.Linear.{lin_ℤ, ◌⊴◌, ◌⊲◌, ◌⇒◌, so}
use Rattle.integer.proofs.Order.{≤_of_pos, <_of_pos, pos-≤ℤ, pos-<ℤ, product_nonneg}
use Rattle.integer.proofs.Absolute.{nat_abs_neg, nat_abs_within, nat_abs_of_fits, above_low_end, fits_of_nat_abs}
use Rattle.integer.proofs.Machine.{operation_gives, <ℤ_of_test, ≥ℤ_of_test}
use Rattle.integer.proofs.Floor.{Divides, remainder_by, divides_turned, floor_unique, remainder_turned, nat_abs_remainder}

-- q and r are the floor quotient and remainder
pub record RoundsDown (a d q r : ℤ) : Type 0 where
  pub quotient : q ≡ floor_quotient a d
  pub remainder : r ≡ floor_remainder a d

truncated_total : (a d : ℤ) → quot_z a d *ℤ d +ℤ rem_z a d ≡ a
truncated_total (pos a) (pos d) = ap pos (div-add-mod' a d)
truncated_total (pos a) (negsuc d) =
    ring_ℤ 3 (λ q d r. neg q ⊗ neg d ⊕ r ≐ q ⊗ d ⊕ r) tt (pos (a / suc d)) (pos (suc d)) (pos (a % suc d)) ∙ ap pos (div-add-mod' a (suc d))
truncated_total (negsuc a) (pos d) =
    ring_ℤ 3 (λ q d r. neg q ⊗ d ⊕ neg r ≐ neg (q ⊗ d ⊕ r)) tt (pos (suc a / d)) (pos d) (pos (suc a % d))
    ∙ ap (λ (n : ℕ). neg_ℤ (pos n)) (div-add-mod' (suc a) d)
truncated_total (negsuc a) (negsuc d) =
    ring_ℤ 3 (λ q d r. q ⊗ neg d ⊕ neg r ≐ neg (q ⊗ d ⊕ r)) tt (pos (suc a / suc d)) (pos (suc d)) (pos (suc a % suc d))
    ∙ ap (λ (n : ℕ). neg_ℤ (pos n)) (div-add-mod' (suc a) (suc d))

truncated_small : (a d : ℤ) → 0 < nat_abs d → nat_abs (rem_z a d) < nat_abs d
truncated_small (pos a) d h = mod-lt a h
truncated_small (negsuc a) d h = rw nat_abs_neg (mod-lt (suc a) h)

truncated : (a d : ℤ) → 0 < nat_abs d → Divides a d (quot_z a d) (rem_z a d)
truncated a d h = record { total = truncated_total a d; small = truncated_small a d h }

-- ---- by a positive divisor
nonzero : (m : ℕ) → pos (suc m) ≢ pos 0
nonzero m e = let z : suc m ≡ 0 = ap nat_abs e in omega arith

above_not_below : (m : ℕ) → pos (suc m) ≤ℤ pos 0 → ⊥
above_not_below m h = let k = ≤_of_pos (suc m) 0 h in omega arith

module _ {a q r : ℤ} {m : ℕ} (f : Divides a (pos (suc m)) q r) where
  down_kept : pos 0 ≤ℤ r → RoundsDown a (pos (suc m)) q r
  down_kept h =
      let u = floor_unique (nonzero m) (record { total = f.total; side = product_nonneg h (pos-≤ℤ zero-le); small = f.small }) in
      record { quotient = u.0; remainder = u.1 }

  down_moved : r <ℤ pos 0 → RoundsDown a (pos (suc m)) (q -ℤ pos 1) (r +ℤ pos (suc m))
  down_moved h =
      let s = f.small in
      let d = pos (suc m) in
      let from_zero = lin_ℤ 3 (λ r d k. neg k ⊴ r ⇒ so (con (pos 0) ⊴ r ⊕ d)) r d (pos m) (omega arith) (above_low_end r m (omega arith)) in
      let above_low = lin_ℤ 3 (λ r d k. con (pos 0) ⊴ r ⊕ d ⇒ so (neg k ⊴ r ⊕ d)) r d (pos m) (omega arith) from_zero in
      let below_high = lin_ℤ 3 (λ r d k. r ⊲ con (pos 0) ⇒ so (r ⊕ d ⊴ k)) r d (pos m) (omega arith) h in
      let size = nat_abs_within (r +ℤ d) m above_low below_high in
      let below : nat_abs (r +ℤ d) < suc m = omega arith in
      let u =
      floor_unique (nonzero m)
      (record {
        total = ring_ℤ 3 (λ q d r. (q ⊖ con (pos 1)) ⊗ d ⊕ (r ⊕ d) ≐ q ⊗ d ⊕ r) tt q d r ∙ f.total;
        side = product_nonneg from_zero (pos-≤ℤ zero-le);
        small = below;
      })
      in
      record { quotient = u.0; remainder = u.1 }

-- ---- by a negative one: both signs are turned
turned_back : {a q r : ℤ} {m : ℕ} → RoundsDown (neg_ℤ a) (pos (suc m)) q (neg_ℤ r) → RoundsDown a (negsuc m) q r
unfolding floor_quotient
turned_back {a} {q} {r} {m} g =
    record {
      quotient = g.quotient;
      remainder = sym (neg_ℤ-neg_ℤ r) ∙ ap neg_ℤ g.remainder ∙ sym (remainder_turned a m);
    }

-- ---- what the machine's quotient and remainder say, by the signs of divisor and remainder
pub kept_by_positive : (a d : ℤ) → pos 0 <ℤ d → pos 0 ≤ℤ rem_z a d → RoundsDown a d (quot_z a d) (rem_z a d)
kept_by_positive a (pos zero) p h = absurd p.lt
kept_by_positive a (pos (suc m)) p h = down_kept (truncated a (pos (suc m)) (omega arith)) h
kept_by_positive a (negsuc m) p h = absurd p.lt

pub moved_by_positive : (a d : ℤ) → pos 0 <ℤ d → rem_z a d <ℤ pos 0 → RoundsDown a d (quot_z a d -ℤ pos 1) (rem_z a d +ℤ d)
moved_by_positive a (pos zero) p h = absurd p.lt
moved_by_positive a (pos (suc m)) p h = down_moved (truncated a (pos (suc m)) (omega arith)) h
moved_by_positive a (negsuc m) p h = absurd p.lt

pub kept_by_negative : (a d : ℤ) → d ≢ pos 0 → d ≤ℤ pos 0 → rem_z a d ≤ℤ pos 0 → RoundsDown a d (quot_z a d) (rem_z a d)
kept_by_negative a (pos zero) n p h = absurd (n refl)
kept_by_negative a (pos (suc m)) n p h = absurd (above_not_below m p)
kept_by_negative a (negsuc m) n p h =
    turned_back
    (down_kept (divides_turned (truncated a (negsuc m) (omega arith)))
    (lin_ℤ 1 (λ r. r ⊴ con (pos 0) ⇒ so (con (pos 0) ⊴ neg r)) (rem_z a (negsuc m)) (omega arith) h))

pub moved_by_negative : (a d : ℤ) → d ≢ pos 0 → d ≤ℤ pos 0 → pos 0 <ℤ rem_z a d → RoundsDown a d (quot_z a d -ℤ pos 1) (rem_z a d +ℤ d)
moved_by_negative a (pos zero) n p h = absurd (n refl)
moved_by_negative a (pos (suc m)) n p h = absurd (above_not_below m p)
moved_by_negative a (negsuc m) n p h =
    let r = rem_z a (negsuc m) in
    let g =
    down_moved (divides_turned (truncated a (negsuc m) (omega arith)))
    (lin_ℤ 1 (λ r. con (pos 0) ⊲ r ⇒ so (neg r ⊲ con (pos 0))) r (omega arith) h)
    in
    turned_back (subst (λ x. RoundsDown (neg_ℤ a) (pos (suc m)) (quot_z a (negsuc m) -ℤ pos 1) x) (ring_ℤ 2 (λ r d. neg r ⊕ d ≐ neg (r ⊕ neg d)) tt r (pos (suc m))) g)

-- ---- by the sides of 0: r lies on the other side than d where their product is below 0
negative : (n : ℕ) → 0 < n → neg_ℤ (pos n) <ℤ pos 0
negative zero h = absurd (omega arith)
negative (suc n) h = lt_z_yes tt

not_negative : (n : ℕ) → pos n <ℤ pos 0 → ⊥
not_negative n h = let k = <_of_pos n 0 h in omega arith

true_and_false : {b : Bool} → IsTrue b → b ≡ false → ⊥
true_and_false t f = cc

is_true : (b : Bool) → T b → IsTrue b
is_true true t = refl
is_true false t = absurd t

pub across_positive : (r d : ℤ) → pos 0 <ℤ d → IsTrue (lt_z r (pos 0)) ↔ ((r *ℤ d) <ℤ pos 0)
across_positive r (pos zero) p = absurd p.lt
across_positive (pos n) (pos (suc m)) p = (λ t. absurd (not_negative n (<ℤ_of_test t)), λ h. absurd (not_negative (n * suc m) h))
across_positive (negsuc n) (pos (suc m)) p = (λ t. negative (suc n * suc m) (omega arith), λ h. refl)
across_positive r (negsuc m) p = absurd p.lt

pub across_negative : (r d : ℤ) → d ≢ pos 0 → d ≤ℤ pos 0 → IsTrue (lt_z (pos 0) r) ↔ ((r *ℤ d) <ℤ pos 0)
across_negative r (pos zero) n p = absurd (n refl)
across_negative r (pos (suc m)) n p = absurd (above_not_below m p)
across_negative (pos zero) (negsuc m) n p = (λ t. absurd (not_negative 0 (<ℤ_of_test t)), λ h. let e : 0 * suc m ≡ 0 = omega arith in absurd (not_negative 0 (rw e at h)))
across_negative (pos (suc k)) (negsuc m) n p = (λ t. negative (suc k * suc m) (omega arith), λ h. is_true _ (pos-<ℤ {m = 0} {n = suc k} (omega arith)).lt)
across_negative (negsuc k) (negsuc m) n p = (λ t. absurd (true_and_false t refl), λ h. absurd (not_negative (suc k * suc m) h))

false_unless : (b : Bool) → (IsTrue b → ⊥) → b ≡ false
false_unless true h = absurd (h refl)
false_unless false h = refl

-- where remainder and divisor lie across 0, the machine has rounded up ..
pub moved : (a d : ℤ) (b : Bool) → d ≢ pos 0 → IsTrue b ↔ ((rem_z a d *ℤ d) <ℤ pos 0) → b ≡ true → RoundsDown a d (quot_z a d -ℤ pos 1) (rem_z a d +ℤ d)
moved a (pos zero) b n h e = absurd (n refl)
moved a (pos (suc m)) b n h e =
    let p = pos-<ℤ {m = 0} {n = suc m} (omega arith) in
    moved_by_positive a (pos (suc m)) p (<ℤ_of_test ((across_positive (rem_z a (pos (suc m))) (pos (suc m)) p).1 (h.0 e)))
moved a (negsuc m) b n h e =
    let p : negsuc m ≤ℤ pos 0 = le_z_yes tt in
    moved_by_negative a (negsuc m) n p (<ℤ_of_test ((across_negative (rem_z a (negsuc m)) (negsuc m) n p).1 (h.0 e)))

-- .. and else down
pub kept : (a d : ℤ) (b : Bool) → d ≢ pos 0 → IsTrue b ↔ ((rem_z a d *ℤ d) <ℤ pos 0) → b ≡ false → RoundsDown a d (quot_z a d) (rem_z a d)
kept a (pos zero) b n h e = absurd (n refl)
kept a (pos (suc m)) b n h e =
    let p = pos-<ℤ {m = 0} {n = suc m} (omega arith) in
    let r = rem_z a (pos (suc m)) in
    kept_by_positive a (pos (suc m)) p (≥ℤ_of_test (false_unless (lt_z r (pos 0)) (λ t. true_and_false (h.1 ((across_positive r (pos (suc m)) p).0 t)) e)))
kept a (negsuc m) b n h e =
    let p : negsuc m ≤ℤ pos 0 = le_z_yes tt in
    let r = rem_z a (negsuc m) in
    kept_by_negative a (negsuc m) n p (≥ℤ_of_test (false_unless (lt_z (pos 0) r) (λ t. true_and_false (h.1 ((across_negative r (negsuc m) n p).0 t)) e)))

-- ---- what fits: every quotient but that of the least number by -1, and every remainder
mag_of_negative : (n : ℕ) {k : ℕ} → n ≤ suc k → mag (neg_ℤ (pos n)) ≤ k
mag_of_negative zero h = zero-le
mag_of_negative (suc n) h = le_of_suc-le-suc h

quotient_by_two_or_more : (n d : ℕ) → suc n / suc (suc d) ≤ n
quotient_by_two_or_more n d = le_of_suc-le-suc (div-lt_self {n = suc n} {k = suc (suc d)} (omega arith) (omega arith))

pub floor_quotient_fits : (a d : ℤ) → d ≢ negsuc 0 → SFits w64 a → SFits w64 (floor_quotient a d)
unfolding floor_quotient
floor_quotient_fits (pos n) (pos d) k f = sfits_le {z = pos n} (div-le_self n d) f
floor_quotient_fits (negsuc n) (pos d) k f = sfits_le {z = negsuc n} (div-le_self n d) f
floor_quotient_fits a (negsuc zero) k f = absurd (k refl)
floor_quotient_fits (pos zero) (negsuc (suc d)) k f = sfits_le {z = pos 0} (div-le_self 0 (suc (suc d))) f
floor_quotient_fits (pos (suc n)) (negsuc (suc d)) k f =
    let h = div-le_self n (suc (suc d)) in sfits_le {y = negsuc (n / suc (suc d))} {z = pos (suc n)} (omega arith) f
floor_quotient_fits (negsuc n) (negsuc (suc d)) k f = sfits_le {z = negsuc n} (quotient_by_two_or_more n d) f

pub quotient_fits : (a d : ℤ) → SFits w64 a → (d ≡ negsuc 0 → SFits w64 (floor_quotient a d)) → SFits w64 (quot_z a d)
unfolding floor_quotient
quotient_fits (pos a) (pos d) f g = sfits_le {z = pos a} (div-le_self a d) f
quotient_fits (pos a) (negsuc d) f g =
    let h = div-le_self a (suc d) in sfits_le {z = pos a} (mag_of_negative (a / suc d) (omega arith)) f
quotient_fits (negsuc a) (pos d) f g = sfits_le {z = negsuc a} (mag_of_negative (suc a / d) (div-le_self (suc a) d)) f
quotient_fits (negsuc a) (negsuc zero) f g = g refl
quotient_fits (negsuc a) (negsuc (suc d)) f g = sfits_le {z = negsuc a} (quotient_by_two_or_more a d) f

pub remainder_fits : (a d : ℤ) → d ≢ pos 0 → SFits w64 d → SFits w64 (floor_remainder a d)
remainder_fits a d n f =
    let s = nat_abs_remainder a d n in
    let t = nat_abs_of_fits d f in
    fits_of_nat_abs (floor_remainder a d) (omega arith)

-- ---- what the machine gives
pub quotient_gives : {a d : ℤ} → SFits w64 a → SFits w64 d → SFits w64 (quot_z a d)
    → to_z w64 (of_z w64 (quot_z (to_z w64 (of_z w64 a)) (to_z w64 (of_z w64 d)))) ≡ quot_z a d
quotient_gives f g h = operation_gives quot_z f g h

pub remainder_gives : {a d : ℤ} → SFits w64 a → SFits w64 d → to_z w64 (of_z w64 (rem_z (to_z w64 (of_z w64 a)) (to_z w64 (of_z w64 d)))) ≡ rem_z a d
remainder_gives {a} {d} f g = operation_gives rem_z f g (sfits_le (mag_rem a d) f)

-- ---- the low bits are the remainder by their power of 2
low_bits : (a : ℤ) → SFits w64 a → of_z w64 a % 4096 ≡ remainder_by a 4096
low_bits (pos n) f = refl
low_bits (negsuc n) f = let h : n < 2 ^ 63 = f.sfits in omega arith

pub masked_is_remainder : (a : ℤ) → SFits w64 a → to_z w64 (bit_and (of_z w64 a) 4095) ≡ pos (remainder_by a 4096)
masked_is_remainder a f =
    let e : bit_and (of_z w64 a) 4095 ≡ of_z w64 a % 4096 = and_mask (of_z w64 a) 12 in
    rw e (to_z_pos w64 (of_z w64 a % 4096) (omega arith) ∙ ap pos (low_bits a f))
