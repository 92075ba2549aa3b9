-- The machine's lesser and greater of two numbers are the definition's.
use mathlib.Core.Path.{◌≡◌, refl, ap₂, ◌∙◌}
use mathlib.Core.Bool.{Bool, true, false, cond}
use lib.IntN.{ℤ}
use lib.Signed.{lt_z, le_z}
use Rattle.std.specs.Int.{int_min, int_max}
use Rattle.integer.proofs.Order.{≤ℤ_antisym, ≤ℤ_of-<ℤ}
use Rattle.integer.proofs.Machine.{<ℤ_of_test, ≥ℤ_of_test, ≤ℤ_of_test, >ℤ_of_test}
use Rattle.affine.specs.Lists.{pick}
use Rattle.interval.specs.Interval.{lesser, greater}

min_is_lesser : (a b : ℤ) → int_min a b ≡ lesser a b
min_is_lesser a b = by_tests (lt_z b a) (le_z a b) refl refl
  where
    by_tests : (s t : Bool) → lt_z b a ≡ s → le_z a b ≡ t → cond s b a ≡ pick t a b
    by_tests true true e f = ≤ℤ_antisym (≤ℤ_of-<ℤ (<ℤ_of_test e)) (≤ℤ_of_test f)
    by_tests true false e f = refl
    by_tests false true e f = refl
    by_tests false false e f = ≤ℤ_antisym (≥ℤ_of_test e) (≤ℤ_of-<ℤ (>ℤ_of_test f))

max_is_greater : (a b : ℤ) → int_max a b ≡ greater a b
max_is_greater a b = by_tests (lt_z b a) (le_z a b) refl refl
  where
    by_tests : (s t : Bool) → lt_z b a ≡ s → le_z a b ≡ t → cond s a b ≡ pick t b a
    by_tests true true e f = ≤ℤ_antisym (≤ℤ_of_test f) (≤ℤ_of-<ℤ (<ℤ_of_test e))
    by_tests true false e f = refl
    by_tests false true e f = refl
    by_tests false false e f = ≤ℤ_antisym (≤ℤ_of-<ℤ (>ℤ_of_test f)) (≥ℤ_of_test e)

-- of numbers that are known in another form
pub lesser_given : {a b x y r : ℤ} → r ≡ int_min a b → a ≡ x → b ≡ y → r ≡ lesser x y
lesser_given {a} {b} {x} {y} e f g = e ∙ ap₂ int_min f g ∙ min_is_lesser x y

pub greater_given : {a b x y r : ℤ} → r ≡ int_max a b → a ≡ x → b ≡ y → r ≡ greater x y
greater_given {a} {b} {x} {y} e f g = e ∙ ap₂ int_max f g ∙ max_is_greater x y
