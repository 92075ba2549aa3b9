-- What a signed local of 64 bits holds. Goals of code say `to_z w64 (of_z w64 z)`, the number that z's bits stand for: it is z where z fits.
-- And what a test of code says of the numbers tested.
use mathlib.Core.Path.{◌≡◌, refl, sym, subst}
use mathlib.Core.Logic.{◌≢◌}
use mathlib.Core.Bool.{true, false, not}
use Prim.Native.Nat.{zero, suc, ◌^◌, ◌<◌}
use native.Mathlib.Omega.{arith}
use lib.Dec.{T, lt→ltb, nleb→lt}
use lib.IntN.{ℤ, pos, negsuc}
use lib.Signed.{mag, lt_z, le_z, ◌<ℤ◌, ◌≤ℤ◌, lt_z_yes, lt_z_no, le_z_yes}
use mir.Syntax.{w64}
use mir.Val.{SFits, to_z, of_z}
use mir.ValLaws.{to_z-of_z}

-- of an element read, `back c.x.given`; of a call's result, `back c.f.type_inv`
pub back : {z : ℤ} → mag z < 2 ^ 63 → to_z w64 (of_z w64 z) ≡ z
back {z} l = to_z-of_z w64 z (record { sfits = l })

-- a number that is another in disguise, one that fits
pub back_as : {z x : ℤ} → z ≡ x → SFits w64 x → to_z w64 (of_z w64 z) ≡ x
back_as {z} {x} e f = rw e (to_z-of_z w64 x f)

-- an operation on two numbers that fit: what the machine asks, and what it gives
module _ (op : ℤ → ℤ → ℤ) {a b : ℤ} (fa : SFits w64 a) (fb : SFits w64 b) (f : SFits w64 (op a b)) where
  pub operation_fits : SFits w64 (op (to_z w64 (of_z w64 a)) (to_z w64 (of_z w64 b)))
  operation_fits = rw (to_z-of_z w64 a fa, to_z-of_z w64 b fb) f

  pub operation_gives : to_z w64 (of_z w64 (op (to_z w64 (of_z w64 a)) (to_z w64 (of_z w64 b)))) ≡ op a b
  operation_gives = rw (to_z-of_z w64 a fa, to_z-of_z w64 b fb) (to_z-of_z w64 (op a b) f)

-- ---- tests
pub <ℤ_of_test : {a b : ℤ} → lt_z a b ≡ true → a <ℤ b
<ℤ_of_test e = lt_z_yes (subst T (sym e) tt)

pub ≥ℤ_of_test : {a b : ℤ} → lt_z a b ≡ false → b ≤ℤ a
≥ℤ_of_test e = lt_z_no (subst (λ t. T (not t)) (sym e) tt)

pub ≤ℤ_of_test : {a b : ℤ} → le_z a b ≡ true → a ≤ℤ b
≤ℤ_of_test e = le_z_yes (subst T (sym e) tt)

pub >ℤ_of_test : {a b : ℤ} → le_z a b ≡ false → b <ℤ a
>ℤ_of_test {a} {b} e = lt_z_yes (turned a b (subst (λ t. T (not t)) (sym e) tt))
  where
    turned : (a b : ℤ) → T (not (le_z a b)) → T (lt_z b a)
    turned (pos m) (pos n) t = lt→ltb n m (nleb→lt m n t)
    turned (pos m) (negsuc n) t = tt
    turned (negsuc m) (pos n) t = t
    turned (negsuc m) (negsuc n) t = lt→ltb m n (nleb→lt n m t)

-- a divisor that is not 0, as its bits
pub bits_above_zero : (d : ℤ) → d ≢ pos 0 → SFits w64 d → 0 < of_z w64 d
bits_above_zero (pos zero) n f = absurd (n refl)
bits_above_zero (pos (suc d)) n f = omega arith
bits_above_zero (negsuc d) n f = let h : d < 2 ^ 63 = f.sfits in omega arith
