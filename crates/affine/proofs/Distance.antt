-- A range that does not hold 0: its distance from 0, and that the centre of a row whose form has that range outweighs the linear coefficients.
use mathlib.Core.Path.{◌≡◌, refl, sym, ap, ◌∙◌, subst}
use mathlib.Core.Logic.{◌⊎◌, inl, inr}
use mathlib.Core.Bool.{Bool, true, false}
use Prim.Native.Nat.{ℕ, zero, suc, ◌+◌, ◌<◌}
use native.Mathlib.Omega.{arith}
use borrow.Author.Tests.{ltb-true, ltb-false, lt-leb, le-leb, lt-ltb}
use lib.Dec.{T, leb-zero}
use lib.IntN.{ℤ, pos, negsuc, neg_ℤ, nat_abs, ◌+ℤ◌, ◌-ℤ◌}
use lib.Signed.{lt_z, le_z}
use Rattle.integer.specs.Sum.{sum_abs}
use Rattle.integer.proofs.Ring.{◌⊕◌, ◌⊖◌, neg}
use Rattle.integer.proofs.Linear.{lin_ℤ, ◌≗◌, ◌⇒◌, so}
use Rattle.integer.proofs.Absolute.{nat_abs_neg}
use Rattle.affine.specs.declared.Row.{Row}
use Rattle.affine.specs.declared.Range.{Range}
use Rattle.affine.specs.Lists.{pick}
use Rattle.affine.specs.Row.{pairs_below, pairs_above, low, high, form_range}
use Rattle.affine.specs.Answer.{ZeroInRange}
use Rattle.affine.specs.Steps.{refused}
use Rattle.affine.specs.Reciprocal.{zero_in_range, distance, reciprocal, reciprocal_apart, Outweighs, ApartOutweighs}
use Rattle.affine.specs.Root.{Centred}
use Rattle.affine.proofs.RangeSize.{low_not_above_centre}

-- ---- one test is the other turned round
above_not_below : (a b : ℤ) → lt_z a b ≡ true → le_z b a ≡ false
above_not_below (pos m) (pos n) e = lt-leb n m (ltb-true m n e)
above_not_below (pos m) (negsuc n) e = absurd (let z : ◌≡◌ {A = ℕ} 0 1 = cc in omega arith)
above_not_below (negsuc m) (pos n) e = refl
above_not_below (negsuc m) (negsuc n) e = lt-leb m n (ltb-true n m e)

not_above_below : (a b : ℤ) → lt_z a b ≡ false → le_z b a ≡ true
not_above_below (pos m) (pos n) e = le-leb n m (ltb-false m n e)
not_above_below (pos m) (negsuc n) e = refl
not_above_below (negsuc m) (pos n) e = absurd (let z : ◌≡◌ {A = ℕ} 0 1 = cc in omega arith)
not_above_below (negsuc m) (negsuc n) e = le-leb m n (ltb-false n m e)

-- an end on either side is not 0
pub some_above : (z : ℤ) → lt_z (pos 0) z ≡ true → 0 < nat_abs z
some_above (pos n) e = ltb-true 0 n e
some_above (negsuc n) e = omega arith

pub some_below : (z : ℤ) → lt_z z (pos 0) ≡ true → 0 < nat_abs z
some_below (pos n) e = absurd (let h = ltb-true n 0 e in omega arith)
some_below (negsuc n) e = omega arith

-- a range above 0 does not hold 0
pub apart_above : (range : Range) → lt_z (pos 0) range.low ≡ true → zero_in_range range ≡ false
apart_above range e = rw (above_not_below (pos 0) range.low e)

-- ---- the other ways
module _ (range : Range) where
  pub apart_below : lt_z (pos 0) range.low ≡ false → lt_z range.high (pos 0) ≡ true → zero_in_range range ≡ false
  apart_below e f = rw (not_above_below (pos 0) range.low e, above_not_below range.high (pos 0) f)

  module _ (squares own : ℕ) (x : Row) where
    pub reciprocal_above : lt_z (pos 0) range.low ≡ true → reciprocal squares own x range ≡ reciprocal_apart squares own x (nat_abs range.low)
    reciprocal_above e = rw (above_not_below (pos 0) range.low e, e)

    pub reciprocal_below : lt_z (pos 0) range.low ≡ false → lt_z range.high (pos 0) ≡ true
        → reciprocal squares own x range ≡ reciprocal_apart squares own x (nat_abs range.high)
    reciprocal_below e f = rw (not_above_below (pos 0) range.low e, above_not_below range.high (pos 0) f, e)

    pub reciprocal_none : lt_z (pos 0) range.low ≡ false → lt_z range.high (pos 0) ≡ false → reciprocal squares own x range ≡ refused ZeroInRange
    reciprocal_none e f = rw (not_above_below (pos 0) range.low e, not_above_below range.high (pos 0) f)

-- ---- the distance from 0 is the end on that side
ends_apart : (l h : ℤ) → pick (le_z l (pos 0)) (le_z (pos 0) h) false ≡ false
    → (0 < pick (lt_z (pos 0) l) (nat_abs l) (nat_abs h)) × ((pos (pick (lt_z (pos 0) l) (nat_abs l) (nat_abs h)) ≡ l) ⊎ (neg_ℤ (pos (pick (lt_z (pos 0) l) (nat_abs l) (nat_abs h))) ≡ h))
ends_apart (pos (suc n)) h e = rw (lt-ltb 0 (suc n) (omega arith)) (omega arith, inl refl)
ends_apart (pos zero) (negsuc m) e = (omega arith, inr refl)
ends_apart (negsuc n) (negsuc m) e = (omega arith, inr refl)
ends_apart (pos zero) (pos m) e = absurd (never m e)
  where
    never : (m : ℕ) → le_z (pos 0) (pos m) ≡ false → ⊥
    never m e = let z : ◌≡◌ {A = Bool} true false = sym (leb-zero m) ∙ e in subst T z tt
ends_apart (negsuc n) (pos m) e = absurd (never m e)
  where
    never : (m : ℕ) → le_z (pos 0) (pos m) ≡ false → ⊥
    never m e = let z : ◌≡◌ {A = Bool} true false = sym (leb-zero m) ∙ e in subst T z tt

pub distance_is_end : (range : Range) → zero_in_range range ≡ false
    → (0 < distance range) × ((pos (distance range) ≡ range.low) ⊎ (neg_ℤ (pos (distance range)) ≡ range.high))
distance_is_end range e = ends_apart range.low range.high e

-- ---- a row of which the form's range does not hold 0
module _ (x : Row) where
  abbrev l : ℕ
  l = sum_abs x.linear

  -- all that is taken from the centre, or added to it
  outweighed : (a m : ℕ) → 0 < a → nat_abs x.centre ≡ a + (l + m) → Outweighs x
  outweighed a m h e = record { some = omega (arith, e); within = omega (arith, e) }

  above_outweighs : (a m : ℕ) → 0 < a → pos a ≡ x.centre -ℤ pos (l + m) → Outweighs x
  above_outweighs a m h e =
      outweighed a m h (ap nat_abs (lin_ℤ 3 (λ c m z. z ≗ c ⊖ m ⇒ so (c ≗ z ⊕ m)) x.centre (pos (l + m)) (pos a) (omega arith) e))

  below_outweighs : (a m : ℕ) → 0 < a → neg_ℤ (pos a) ≡ x.centre +ℤ pos (l + m) → Outweighs x
  below_outweighs a m h e =
      outweighed a m h
      (ap nat_abs (lin_ℤ 3 (λ c m z. neg z ≗ c ⊕ m ⇒ so (c ≗ neg (z ⊕ m))) x.centre (pos (l + m)) (pos a) (omega arith) e)
      ∙ nat_abs_neg (pos (a + (l + m))))

  form_outweighs : ApartOutweighs (form_range x) x
  unfolding low high
  form_outweighs e = by_side (distance_is_end (form_range x) e)
    where
      by_side : (0 < distance (form_range x)) × ((pos (distance (form_range x)) ≡ low x) ⊎ (neg_ℤ (pos (distance (form_range x))) ≡ high x)) → Outweighs x
      by_side (h, inl q) = above_outweighs (distance (form_range x)) (pairs_below x.pair) h q
      by_side (h, inr q) = below_outweighs (distance (form_range x)) (pairs_above x.pair) h q

  pub form_centred : Centred (form_range x) x
  form_centred = record { outweighs = form_outweighs; low_below = low_not_above_centre x }
