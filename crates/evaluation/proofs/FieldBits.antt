-- A field of a schedule as the code reads it: the cast of a natural one is its number, and a test of its bits is a test of its number.
use mathlib.Core.Path.{◌≡◌}
use mathlib.Core.Bool.{true, false}
use Prim.Native.Nat.{ℕ, ◌^◌, ◌≤◌, ◌<◌}
use native.Mathlib.Omega.{arith}
use borrow.Author.Tests.{ltb-true, ltb-false}
use lib.Dec.{T}
use lib.IntN.{ℤ, pos, negsuc, nat_abs}
use lib.Signed.{lt_z, non_neg}
use mir.Syntax.{w64}
use mir.Val.{Fits, SFits, to_z, of_z}
use mir.ValLaws.{to_z-of_z}
use Rattle.sheet.specs.Lines.{natural}
use Rattle.sheet.proofs.Passing.{Natural}

pub record NaturalCast (z : ℤ) : Type 0 where
  pub fits : T (non_neg (to_z w64 (of_z w64 z))) × Fits w64 (nat_abs (to_z w64 (of_z w64 z)))
  pub is : nat_abs (to_z w64 (of_z w64 z)) ≡ natural z

pub cast_natural : {a b : ℕ} {z : ℤ} → Natural a b z → SFits w64 z → NaturalCast z
cast_natural {a} {b} {z} h f = by_sign z f (to_z-of_z w64 z f) h.is
  where
    by_sign : (z : ℤ) → SFits w64 z → to_z w64 (of_z w64 z) ≡ z → z ≡ pos (natural z) → NaturalCast z
    by_sign (pos n) f e q = record { fits = rw e (tt, record { fits = omega (arith, f.sfits) }); is = rw e }
    by_sign (negsuc n) f e q = absurd (let y : ◌≡◌ {A = ℕ} 0 1 = cc in omega arith)

-- what a test of the bits tells of the number
pub number_is : {z : ℤ} {n : ℕ} → SFits w64 z → n < 2 ^ 63 → of_z w64 z ≡ n → natural z ≡ n
number_is {z} {n} f h e = by_sign z f e
  where
    by_sign : (z : ℤ) → SFits w64 z → of_z w64 z ≡ n → natural z ≡ n
    by_sign (pos m) f e = let l = f.sfits in omega arith
    by_sign (negsuc m) f e = absurd (let l = f.sfits in omega arith)

pub number_is_not : {z : ℤ} {n : ℕ} → SFits w64 z → 0 < n → (of_z w64 z ≡ n → ⊥) → natural z ≡ n → ⊥
number_is_not {z} {n} f h t q = t (by_sign z f q)
  where
    by_sign : (z : ℤ) → SFits w64 z → natural z ≡ n → of_z w64 z ≡ n
    by_sign (pos m) f e = let l = f.sfits in omega arith
    by_sign (negsuc m) f e = absurd (omega arith)

pub number_above : {z : ℤ} {n : ℕ} → SFits w64 z → lt_z (pos n) (to_z w64 (of_z w64 z)) ≡ true → n < natural z
number_above {z} {n} f t = by_sign z (rw (to_z-of_z w64 z f) at t)
  where
    by_sign : (z : ℤ) → lt_z (pos n) z ≡ true → n < natural z
    by_sign (pos m) e = ltb-true n m e
    by_sign (negsuc m) e = absurd (let y : ◌≡◌ {A = ℕ} 0 1 = cc in omega arith)

pub number_not_above : {z : ℤ} {n : ℕ} → SFits w64 z → lt_z (pos n) (to_z w64 (of_z w64 z)) ≡ false → natural z ≤ n
number_not_above {z} {n} f t = by_sign z (rw (to_z-of_z w64 z f) at t)
  where
    by_sign : (z : ℤ) → lt_z (pos n) z ≡ false → natural z ≤ n
    by_sign (pos m) e = ltb-false n m e
    by_sign (negsuc m) e = omega arith
