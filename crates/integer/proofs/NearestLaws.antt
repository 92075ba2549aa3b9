-- Division to the nearest, exact halves upward: its quotient and remainder are the only pair of that kind, no whole number is nearer, and one as near is not above. Then
-- magnitudes, and how the pair is worked from divisions rounded down.
use mathlib.Core.Path.{◌≡◌, refl, sym, ap, ◌∙◌, subst}
use mathlib.Core.Bool.{Bool, true, false}
use mathlib.Core.Logic.{◌≢◌, ⊎_elim}
use Prim.Native.Nat.{ℕ, ◌+◌, ◌*◌, ◌-◌, ◌≤◌, ◌<◌, min, zero-le}
use borrow.Author.Tests.{ltb-true, ltb-false}
use lib.Dec.{ltb}
use native.Mathlib.Nat.{le_refl, mul-le-mul}
use native.Mathlib.Omega.{arith}
use lib.IntN.{ℤ, pos, negsuc, neg_ℤ, nat_abs, ◌+ℤ◌, ◌-ℤ◌, ◌*ℤ◌}
use lib.Signed.{◌≤ℤ◌, ◌<ℤ◌}
use Rattle.integer.specs.Floor.{floor_quotient, left_over}
use Rattle.integer.specs.Nearest.{half, nearest_quotient, nearest_remainder, IsNearest}
use Rattle.integer.proofs.Ring.{con, ◌⊕◌, ◌⊖◌, ◌⊗◌, neg}
use Rattle.integer.proofs.Linear.{lin_ℤ, ◌⊴◌, ◌⊲◌, ◌≗◌, ◌⇒◌, so}
use Rattle.integer.proofs.Order.{<ℤ_or-≥ℤ, ≤ℤ_antisym, difference_nonneg, pos-≤ℤ, pos-<ℤ, ≤_of_pos, <_of_pos, product_nonneg}
use Rattle.integer.proofs.Absolute.{nat_abs_neg, nat_abs_mul, nat_abs_sub, nat_abs_of_nonneg, above_low_end, below_high_end}
use Rattle.integer.proofs.Floor.{floor_sum, floor_unique, remainder_by, remainder_by_small}

-- ---- the pair
above_zero : {d : ℕ} → 0 < d → pos d ≢ pos 0
above_zero h e = let n = ap nat_abs e in omega arith

-- two halves are the divisor, or one less
halves_below : (d : ℕ) → 2 * half d ≤ d
halves_below d = omega arith

halves_reach : (d : ℕ) → d ≤ 2 * half d + 1
halves_reach d = omega arith

-- by the floor pair of a and half a divisor
pub is_nearest : (a : ℤ) (d : ℕ) → 0 < d → IsNearest a d (nearest_quotient a d) (nearest_remainder a d)
unfolding nearest_quotient nearest_remainder
is_nearest a d h =
    let b = a +ℤ pos (half d) in
    let q = floor_quotient b (pos d) in
    let s = remainder_by b d in
    let total : q *ℤ pos d +ℤ pos s ≡ b = floor_sum b d h in
    record {
      total = lin_ℤ 2 (λ a p. so (p ⊕ (a ⊖ p) ≗ a)) a (q *ℤ pos d) (omega arith);
      from =
          lin_ℤ 5 (λ a p s h d. p ⊕ s ≗ a ⊕ h ⇒ con (pos 0) ⊴ s ⇒ con (pos 2) ⊗ h ⊴ d ⇒ so (neg d ⊴ con (pos 2) ⊗ (a ⊖ p)))
          a (q *ℤ pos d) (pos s) (pos (half d)) (pos d) (omega arith) total (pos-≤ℤ zero-le) (pos-≤ℤ (halves_below d));
      below =
          lin_ℤ 5 (λ a p s h d. p ⊕ s ≗ a ⊕ h ⇒ s ⊲ d ⇒ d ⊴ con (pos 2) ⊗ h ⊕ con (pos 1) ⇒ so (con (pos 2) ⊗ (a ⊖ p) ⊲ d))
          a (q *ℤ pos d) (pos s) (pos (half d)) (pos d) (omega arith) total (pos-<ℤ (remainder_by_small b d h)) (pos-≤ℤ (halves_reach d));
    }

-- half a divisor added, any such pair is the floor pair
pub nearest_unique : (a : ℤ) (d : ℕ) (q r : ℤ) → 0 < d → IsNearest a d q r → (q ≡ nearest_quotient a d) × (r ≡ nearest_remainder a d)
unfolding nearest_quotient nearest_remainder
nearest_unique a d q r h n =
    let t = floor_quotient (a +ℤ pos (half d)) (pos d) *ℤ pos d in
    (same, lin_ℤ 3 (λ a t r. t ⊕ r ≗ a ⇒ so (r ≗ a ⊖ t)) a t r (omega arith) (subst (λ z. z *ℤ pos d +ℤ r ≡ a) same n.total))
  where
    moved_from : pos 0 ≤ℤ (r +ℤ pos (half d))
    moved_from =
        lin_ℤ 3 (λ r h d. neg d ⊴ con (pos 2) ⊗ r ⇒ d ⊴ con (pos 2) ⊗ h ⊕ con (pos 1) ⇒ so (con (pos 0) ⊴ r ⊕ h)) r (pos (half d)) (pos d) (omega arith) n.from (pos-≤ℤ (halves_reach d))

    moved_below : (r +ℤ pos (half d)) <ℤ pos d
    moved_below =
        lin_ℤ 3 (λ r h d. con (pos 2) ⊗ r ⊲ d ⇒ con (pos 2) ⊗ h ⊴ d ⇒ so (r ⊕ h ⊲ d)) r (pos (half d)) (pos d) (omega arith) n.below (pos-≤ℤ (halves_below d))

    same : q ≡ floor_quotient (a +ℤ pos (half d)) (pos d)
    same =
        (floor_unique (above_zero h)
        (record {
          total = lin_ℤ 4 (λ a p r h. p ⊕ r ≗ a ⇒ so (p ⊕ (r ⊕ h) ≗ a ⊕ h)) a (q *ℤ pos d) r (pos (half d)) (omega arith) n.total;
          side = product_nonneg moved_from (pos-≤ℤ zero-le);
          small = <_of_pos (nat_abs (r +ℤ pos (half d))) d (subst (λ z. z <ℤ pos d) (sym (nat_abs_of_nonneg moved_from)) moved_below);
        })
        ).0

-- of a number that is the quotient, with what it leaves
pub nearest_as : {a q : ℤ} {d : ℕ} → 0 < d → q ≡ nearest_quotient a d → IsNearest a d q (left_over a (pos d) q)
unfolding nearest_remainder
nearest_as {a} {q} {d} h e = subst (λ z. IsNearest a d z (left_over a (pos d) z)) (sym e) (is_nearest a d h)

-- ---- no whole number is nearer
-- what holds of x and of -x holds of |x|
of_size : (P : ℤ → Type 0) (x : ℤ) → P x → P (neg_ℤ x) → P (pos (nat_abs x))
of_size P (pos n) h k = h
of_size P (negsuc n) h k = k

module _ {a : ℤ} {d : ℕ} {q r : ℤ} (n : IsNearest a d q r) (p : ℤ) where
  -- what p leaves of a
  abbrev left : ℤ
  left = left_over a (pos d) p

  -- p below the quotient leaves one divisor more at least, ..
  below_as_near : p <ℤ q → nat_abs r ≤ nat_abs left
  below_as_near l =
      let more = product_nonneg (lin_ℤ 2 (λ p q. p ⊲ q ⇒ so (con (pos 0) ⊴ q ⊖ p ⊖ con (pos 1))) p q (omega arith) l) (pos-≤ℤ {n = d} zero-le) in
      let size = below_high_end left (nat_abs left) (le_refl (nat_abs left)) in
      ≤_of_pos (nat_abs r) (nat_abs left)
      (of_size (λ z. z ≤ℤ pos (nat_abs left)) r
      (lin_ℤ 6 (λ a d p q r e. con (pos 0) ⊴ (q ⊖ p ⊖ con (pos 1)) ⊗ d ⇒ q ⊗ d ⊕ r ≗ a ⇒ con (pos 0) ⊴ d ⇒ a ⊖ p ⊗ d ⊴ e ⇒ so (r ⊴ e))
      a (pos d) p q r (pos (nat_abs left)) (omega arith) more n.total (pos-≤ℤ zero-le) size)
      (lin_ℤ 6 (λ a d p q r e. con (pos 0) ⊴ (q ⊖ p ⊖ con (pos 1)) ⊗ d ⇒ q ⊗ d ⊕ r ≗ a ⇒ neg d ⊴ con (pos 2) ⊗ r ⇒ a ⊖ p ⊗ d ⊴ e ⇒ so (neg r ⊴ e))
      a (pos d) p q r (pos (nat_abs left)) (omega arith) more n.total n.from size))

  -- .. and p above it one divisor less, which is farther from 0
  above_is_farther : 0 < d → q <ℤ p → nat_abs r < nat_abs left
  above_is_farther h l =
      let less = product_nonneg (lin_ℤ 2 (λ p q. q ⊲ p ⇒ so (con (pos 0) ⊴ p ⊖ q ⊖ con (pos 1))) p q (omega arith) l) (pos-≤ℤ {n = d} zero-le) in
      let size = above_low_end left (nat_abs left) (le_refl (nat_abs left)) in
      <_of_pos (nat_abs r) (nat_abs left)
      (of_size (λ z. z <ℤ pos (nat_abs left)) r
      (lin_ℤ 6 (λ a d p q r e. con (pos 0) ⊴ (p ⊖ q ⊖ con (pos 1)) ⊗ d ⇒ q ⊗ d ⊕ r ≗ a ⇒ con (pos 2) ⊗ r ⊲ d ⇒ neg e ⊴ a ⊖ p ⊗ d ⇒ so (r ⊲ e))
      a (pos d) p q r (pos (nat_abs left)) (omega arith) less n.total n.below size)
      (lin_ℤ 6 (λ a d p q r e. con (pos 0) ⊴ (p ⊖ q ⊖ con (pos 1)) ⊗ d ⇒ q ⊗ d ⊕ r ≗ a ⇒ con (pos 0) ⊲ d ⇒ neg e ⊴ a ⊖ p ⊗ d ⇒ so (neg r ⊲ e))
      a (pos d) p q r (pos (nat_abs left)) (omega arith) less n.total (pos-<ℤ h) size))

  pub none_left_less : 0 < d → nat_abs r ≤ nat_abs left
  none_left_less h = ⊎_elim below_as_near (λ k. ⊎_elim (above k) (λ l. same (≤ℤ_antisym l k)) (<ℤ_or-≥ℤ q p)) (<ℤ_or-≥ℤ p q)
    where
      above : q ≤ℤ p → q <ℤ p → nat_abs r ≤ nat_abs left
      above k l = let f = above_is_farther h l in omega arith

      same : p ≡ q → nat_abs r ≤ nat_abs left
      same e =
          let s : r ≡ left = lin_ℤ 4 (λ a d q r. q ⊗ d ⊕ r ≗ a ⇒ so (r ≗ a ⊖ q ⊗ d)) a (pos d) q r (omega arith) n.total ∙ ap (λ z. a -ℤ z *ℤ pos d) (sym e) in
          rw s (le_refl (nat_abs left))

  -- of two that are as near, the quotient is the upper one
  pub not_above : 0 < d → nat_abs left ≡ nat_abs r → p ≤ℤ q
  not_above h e = ⊎_elim (λ l. absurd (farther l)) (λ k. k) (<ℤ_or-≥ℤ q p)
    where
      farther : q <ℤ p → ⊥
      farther l = let f = above_is_farther h l in omega arith

-- what the quotient by 4096 leaves runs from -2048 to 2047
pub remainder_runs : {a q r : ℤ} → IsNearest a 4096 q r → (negsuc 2047 ≤ℤ r) × (r ≤ℤ pos 2047)
remainder_runs {a} {q} {r} n = (
  lin_ℤ 1 (λ r. con (negsuc 4095) ⊴ con (pos 2) ⊗ r ⇒ so (con (negsuc 2047) ⊴ r)) r (omega arith) n.from,
  lin_ℤ 1 (λ r. con (pos 2) ⊗ r ⊲ con (pos 4096) ⇒ so (r ⊴ con (pos 2047))) r (omega arith) n.below,
)

-- ---- magnitudes
pub nat_abs_nearest_remainder : (a : ℤ) (d : ℕ) → 0 < d → 2 * nat_abs (nearest_remainder a d) ≤ d
nat_abs_nearest_remainder a d h =
    let n = is_nearest a d h in
    let r = nearest_remainder a d in
    ≤_of_pos (2 * nat_abs r) d
    (of_size (λ z. (pos 2 *ℤ z) ≤ℤ pos d) r
    (lin_ℤ 2 (λ r d. con (pos 2) ⊗ r ⊲ d ⇒ so (con (pos 2) ⊗ r ⊴ d)) r (pos d) (omega arith) n.below)
    (lin_ℤ 2 (λ r d. neg d ⊴ con (pos 2) ⊗ r ⇒ so (con (pos 2) ⊗ neg r ⊴ d)) r (pos d) (omega arith) n.from))

-- 0 leaves no less than the quotient does, so |q| d is at most 2 |a|
pub nat_abs_nearest_quotient : (a : ℤ) (d : ℕ) → 1 < d → nat_abs (nearest_quotient a d) ≤ nat_abs a
nat_abs_nearest_quotient a d h =
    let q = nearest_quotient a d in
    let r = nearest_remainder a d in
    let k : 0 < d = omega arith in
    let none : nat_abs r ≤ nat_abs a = subst (λ z. nat_abs r ≤ nat_abs z) (lin_ℤ 2 (λ a d. so (a ⊖ con (pos 0) ⊗ d ≗ a)) a (pos d) (omega arith)) (none_left_less (is_nearest a d k) (pos 0) k) in
    let e = lin_ℤ 3 (λ a t r. t ⊕ r ≗ a ⇒ so (a ⊖ r ≗ t)) a (q *ℤ pos d) r (omega arith) (is_nearest a d k).total in
    let whole = rw (e, nat_abs_mul) at (nat_abs_sub a r) in
    let twice : nat_abs q * 2 ≤ nat_abs q * d = mul-le-mul (le_refl (nat_abs q)) (omega arith) in
    omega arith

-- ---- worked from divisions rounded down
-- a is f halves of the divisor and s; f and one more is q twice and t
in_halves : (a f q : ℤ) (h s t : ℕ) → 0 < h → s < h → t < 2 → f *ℤ pos h +ℤ pos s ≡ a → q *ℤ pos 2 +ℤ pos t ≡ f +ℤ pos 1 → q ≡ nearest_quotient a (2 * h)
in_halves a f q h s t k l m e g =
    (nearest_unique a (2 * h) q (pos s +ℤ (pos t -ℤ pos 1) *ℤ pos h) (omega arith)
    (record {
      total =
          lin_ℤ 6 (λ a f q h s t. f ⊗ h ⊕ s ≗ a ⇒ (q ⊗ con (pos 2) ⊕ t) ⊗ h ≗ (f ⊕ con (pos 1)) ⊗ h ⇒ so (q ⊗ (con (pos 2) ⊗ h) ⊕ (s ⊕ (t ⊖ con (pos 1)) ⊗ h) ≗ a))
          a f q (pos h) (pos s) (pos t) (omega arith) e (ap (λ z. z *ℤ pos h) g);
      from =
          lin_ℤ 3 (λ h s t. con (pos 0) ⊴ s ⇒ con (pos 0) ⊴ t ⊗ h ⇒ so (neg (con (pos 2) ⊗ h) ⊴ con (pos 2) ⊗ (s ⊕ (t ⊖ con (pos 1)) ⊗ h)))
          (pos h) (pos s) (pos t) (omega arith) (pos-≤ℤ zero-le) (pos-≤ℤ zero-le);
      below =
          lin_ℤ 3 (λ h s t. s ⊲ h ⇒ con (pos 0) ⊴ (con (pos 1) ⊖ t) ⊗ h ⇒ so (con (pos 2) ⊗ (s ⊕ (t ⊖ con (pos 1)) ⊗ h) ⊲ con (pos 2) ⊗ h))
          (pos h) (pos s) (pos t) (omega arith) (pos-<ℤ l) (product_nonneg (difference_nonneg (pos-≤ℤ {m = t} {n = 1} (omega arith))) (pos-≤ℤ {n = h} zero-le));
    })
    ).0

-- by an even divisor: the quotient by half of it, one more, and that halved
pub nearest_by_halves : (a : ℤ) (h : ℕ) → 0 < h → floor_quotient (floor_quotient a (pos h) +ℤ pos 1) (pos 2) ≡ nearest_quotient a (2 * h)
nearest_by_halves a h k =
    let f = floor_quotient a (pos h) in
    in_halves a f (floor_quotient (f +ℤ pos 1) (pos 2)) h (remainder_by a h) (remainder_by (f +ℤ pos 1) 2) k (remainder_by_small a h k) (remainder_by_small (f +ℤ pos 1) 2 (omega arith)) (floor_sum a h k) (floor_sum (f +ℤ pos 1) 2 (omega arith))

-- what the quotient rounded down leaves, where it is less than half a divisor, ..
nearest_left_near : (a : ℤ) (d : ℕ) → 0 < d → 2 * remainder_by a d < d → nat_abs (nearest_remainder a d) ≡ remainder_by a d
nearest_left_near a d h l =
    let s = pos (remainder_by a d) in
    ap nat_abs
    (sym
    (nearest_unique a d (floor_quotient a (pos d)) s h
    (record {
      total = floor_sum a d h;
      from = lin_ℤ 2 (λ s d. con (pos 0) ⊴ s ⇒ con (pos 0) ⊴ d ⇒ so (neg d ⊴ con (pos 2) ⊗ s)) s (pos d) (omega arith) (pos-≤ℤ zero-le) (pos-≤ℤ zero-le);
      below = pos-<ℤ l;
    })
    ).1)

-- .. where it is not, what it lacks of a divisor ..
nearest_left_far : (a : ℤ) (d : ℕ) → 0 < d → d ≤ 2 * remainder_by a d → nat_abs (nearest_remainder a d) ≡ d - remainder_by a d
nearest_left_far a d h l =
    let s = remainder_by a d in
    let f = floor_quotient a (pos d) in
    let k = remainder_by_small a d h in
    let lacking : pos s -ℤ pos d ≡ neg_ℤ (pos (d - s)) = lin_ℤ 3 (λ s d k. k ⊕ s ≗ d ⇒ so (s ⊖ d ≗ neg k)) (pos s) (pos d) (pos (d - s)) (omega arith) (ap pos (omega arith)) in
    ap nat_abs
    (sym
    (nearest_unique a d (f +ℤ pos 1) (pos s -ℤ pos d) h
    (record {
      total = lin_ℤ 4 (λ a f d s. f ⊗ d ⊕ s ≗ a ⇒ so ((f ⊕ con (pos 1)) ⊗ d ⊕ (s ⊖ d) ≗ a)) a f (pos d) (pos s) (omega arith) (floor_sum a d h);
      from = lin_ℤ 2 (λ s d. d ⊴ con (pos 2) ⊗ s ⇒ so (neg d ⊴ con (pos 2) ⊗ (s ⊖ d))) (pos s) (pos d) (omega arith) (pos-≤ℤ l);
      below = lin_ℤ 2 (λ s d. s ⊲ d ⇒ con (pos 0) ⊴ d ⇒ so (con (pos 2) ⊗ (s ⊖ d) ⊲ d)) (pos s) (pos d) (omega arith) (pos-<ℤ k) (pos-≤ℤ zero-le);
    })
    ).1
    ∙ lacking)
    ∙ nat_abs_neg (pos (d - s))

-- .. so the lesser of the two
pub nearest_left : (a : ℤ) (d : ℕ) → 0 < d → nat_abs (nearest_remainder a d) ≡ min (remainder_by a d) (d - remainder_by a d)
nearest_left a d h = by_test (ltb (2 * remainder_by a d) d) refl
  where
    by_test : (t : Bool) → ltb (2 * remainder_by a d) d ≡ t → nat_abs (nearest_remainder a d) ≡ min (remainder_by a d) (d - remainder_by a d)
    by_test true e = let l = ltb-true (2 * remainder_by a d) d e in omega (arith, nearest_left_near a d h l)
    by_test false e = let l = ltb-false (2 * remainder_by a d) d e in omega (arith, nearest_left_far a d h l)
