-- Decimal text: its equations for the writer, the number that it tells, and how long it can be.
use mathlib.Core.Path.{◌≡◌, refl, ap, ◌∙◌}
use mathlib.Core.Bool.{true, false}
use mathlib.Core.List.{List, [], ◌∷◌, ◌++◌}
use Prim.Native.Nat.{ℕ, zero, suc, ◌+◌, ◌-◌, ◌*◌, ◌/◌, ◌%◌, ◌^◌, ◌≤◌, ◌<◌}
use native.Mathlib.Nat.{pow-suc}
use native.Mathlib.Numerals.{sub-one}
use native.Mathlib.Omega.{arith}
use borrow.Author.Tests.{lt-ltb, le-ltb, ltb-true}
use lib.Dec.{ltb}
use lib.Signed.{lt_z}
use mir.Syntax.{w64}
use mir.Val.{SFits, to_z, of_z}
use mir.ValLaws.{to_z-of_z}
use lib.ListN.{length, length-append}
use Rattle.sheet.specs.Text.{most_digits, decimal, numeral}
use lib.IntN.{ℤ, pos, negsuc, nat_abs}
use Rattle.std.specs.Char.{digit_value}
use Rattle.std.specs.Str.Parse.{digits_value}
use Rattle.std.proofs.lemmas.Str.{digit_value_digit}
use Rattle.std.proofs.lemmas.Int.Digits.{digits_value_push}
use Rattle.sheet.proofs.Choice.{pick_elim}

pub decimal_one : (k n : ℕ) → (k ≡ 0 → ⊥) → n < 10 → decimal k n ≡ (n + 48) ∷ []
unfolding decimal
decimal_one zero n f h = absurd (f refl)
decimal_one (suc k) n f h = simp (lt-ltb _ _ h)

pub decimal_more : (k n : ℕ) → (k ≡ 0 → ⊥) → 10 ≤ n → decimal k n ≡ decimal (k - 1) (n / 10) ++ ((n % 10 + 48) ∷ [])
unfolding decimal
decimal_more zero n f h = absurd (f refl)
decimal_more (suc k) n f h = simp (le-ltb _ _ h, sub-one)

pub decimal_length : (k n : ℕ) → (k ≡ 0 → ⊥) → 10 ≤ n → length (decimal k n) ≡ length (decimal (k - 1) (n / 10)) + 1
decimal_length k n f h = ap length (decimal_more k n f h) ∙ length-append (decimal (k - 1) (n / 10)) ((n % 10 + 48) ∷ [])

-- the digits of a number tell the number, where none is cut
digit_tells : (d : ℕ) → d < 10 → digit_value (d + 48) ≡ d
digit_tells d h = omega (arith, digit_value_digit (d + 48) (omega arith, omega arith))

pub decimal_value : (k n : ℕ) → n < 10 ^ k → digits_value 10 (decimal k n) ≡ n
unfolding decimal
decimal_value zero n h = omega arith
decimal_value (suc k) n h =
    let w : n < 10 ^ k * 10 = rw pow-suc at h in
    pick_elim (λ (l : List ℕ). digits_value 10 l ≡ n) (ltb n 10) _ _
    (λ e. omega (arith, digit_tells n (ltb-true n 10 e)))
    (λ e. rw (digits_value_push 10 (decimal k (n / 10)) (n % 10 + 48), decimal_value k (n / 10) (omega arith), digit_tells (n % 10) (omega arith)) (omega arith))

-- the numeral goes by the machine's test of v < 0
pub numeral_below : (z : ℤ) → SFits w64 z → lt_z (to_z w64 (of_z w64 z)) (pos 0) ≡ true → numeral z ≡ 45 ∷ decimal most_digits (nat_abs z)
unfolding numeral
numeral_below z f e = go z (rw (to_z-of_z w64 z f) at e)
  where
    go : (z : ℤ) → lt_z z (pos 0) ≡ true → numeral z ≡ 45 ∷ decimal most_digits (nat_abs z)
    go (pos n) e = absurd (omega (arith, ltb-true n 0 e))
    go (negsuc n) e = refl

pub numeral_above : (z : ℤ) → SFits w64 z → lt_z (to_z w64 (of_z w64 z)) (pos 0) ≡ false → numeral z ≡ decimal most_digits (nat_abs z)
unfolding numeral
numeral_above z f e = go z (rw (to_z-of_z w64 z f) at e)
  where
    go : (z : ℤ) → lt_z z (pos 0) ≡ false → numeral z ≡ decimal most_digits (nat_abs z)
    go (pos n) e = refl
    go (negsuc n) e = let x : true ≡ false = e in absurd (let y : ◌≡◌ {A = ℕ} 0 1 = cc in omega arith)

-- a number below 10 ^ d has d digits at most
pub decimal_width : (k d n : ℕ) → n < 10 ^ suc d → length (decimal k n) ≤ suc d
unfolding decimal
decimal_width zero d n h = omega arith
decimal_width (suc k) zero n h = simp (lt-ltb n 10 (omega arith)) (omega arith)
decimal_width (suc k) (suc d) n h =
    let w : n < 10 ^ suc d * 10 = rw pow-suc at h in
    pick_elim (λ (l : List ℕ). length l ≤ suc (suc d)) (ltb n 10) _ _
    (λ e. omega arith)
    (λ e. rw (length-append (decimal k (n / 10)) ((n % 10 + 48) ∷ [])) (omega (arith, decimal_width k d (n / 10) (omega arith))))

pub numeral_width : (d : ℕ) (v : ℤ) → nat_abs v < 10 ^ suc d → length (numeral v) ≤ suc (suc d)
unfolding numeral
numeral_width d (pos n) h = omega (arith, decimal_width most_digits d n h)
numeral_width d (negsuc n) h = omega (arith, decimal_width most_digits d (suc n) h)

-- whatever the number, a numeral is a minus and twenty digits at the most
decimal_short : (k n : ℕ) → length (decimal k n) ≤ k
unfolding decimal
decimal_short zero n = omega arith
decimal_short (suc k) n =
    pick_elim (λ (l : List ℕ). length l ≤ suc k) (ltb n 10) _ _
    (λ e. omega arith)
    (λ e. rw (length-append (decimal k (n / 10)) ((n % 10 + 48) ∷ [])) (omega (arith, decimal_short k (n / 10))))

pub numeral_short : (v : ℤ) → length (numeral v) ≤ 21
unfolding numeral
numeral_short (pos n) = omega (arith, decimal_short most_digits n)
numeral_short (negsuc n) = omega (arith, decimal_short most_digits (suc n))
