-- A sum that stops one above the span limit: stopping early changes neither the sum so stopped nor the test of it.
use mathlib.Core.Path.{◌≡◌, refl, sym, ap, ◌∙◌}
use mathlib.Core.List.{List, [], ◌∷◌}
use Rattle.std.specs.List.{fold}
use native.Mathlib.Decide.{dec_le}
use Prim.Native.Nat.{min, ℕ, suc, ◌+◌, ◌≤◌, ◌<◌}
use native.Mathlib.Nat.{add-zero, zero-add, add_assoc}
use native.Mathlib.Omega.{arith}
use lib.Dec.{leb}
use lib.IntN.{ℤ, nat_abs}
use borrow.Author.Tests.{le-leb, lt-leb, leb-true, leb-false}
use Rattle.integer.specs.Sum.{sum_abs}
use Rattle.affine.specs.Limits.{span_limit}
use Rattle.affine.specs.Capped.{capped}
use Rattle.affine.proofs.Lists.{pick_elim}

pub capped_below : (n : ℕ) → n ≤ span_limit → capped n ≡ n
unfolding capped
capped_below n h = simp (le-leb n span_limit h)

pub capped_above : (n : ℕ) → span_limit < n → capped n ≡ suc span_limit
unfolding capped
capped_above n h = simp (lt-leb n span_limit h)

-- one of the two
capped_elim : (P : ℕ → Type 0) (n : ℕ) → (n ≤ span_limit → P n) → (span_limit < n → P (suc span_limit)) → P (capped n)
unfolding capped
capped_elim P n f g = pick_elim P (leb n span_limit) n (suc span_limit) (λ e. f (leb-true n span_limit e)) (λ e. g (leb-false n span_limit e))

pub capped_le : (n : ℕ) → capped n ≤ suc span_limit
capped_le n = capped_elim (λ m. m ≤ suc span_limit) n (λ h. omega arith) (λ h. omega arith)

-- a sum that is so stopped already
capped_same : (n : ℕ) → n ≤ suc span_limit → capped n ≡ n
capped_same n l = capped_elim (λ m. m ≡ n) n (λ h. refl) (λ h. omega arith)

capped_add : (a b : ℕ) → capped (capped a + b) ≡ capped (a + b)
capped_add a b =
    capped_elim (λ m. capped (m + b) ≡ capped (a + b)) a (λ h. refl)
    (λ h. capped_above (suc span_limit + b) (omega arith) ∙ sym (capped_above (a + b) (omega arith)))

capped_test : (n : ℕ) → leb (capped n) span_limit ≡ leb n span_limit
capped_test n =
    capped_elim (λ m. leb m span_limit ≡ leb n span_limit) n (λ h. refl)
    (λ h. sym (lt-leb n span_limit h))

-- three parts, stopped after each
pub capped_parts : (a b c : ℕ) → leb (capped (capped (capped (0 + a) + b) + c)) span_limit ≡ leb (a + (b + c)) span_limit
capped_parts a b c =
    rw (zero-add a, capped_add a b, capped_add (a + b) c, capped_test (a + b + c), add_assoc a b c)

-- the absolute values of more numbers, stopped after each
pub capped_fold : (start : ℕ) (xs : List ℤ) → start ≤ suc span_limit → fold (λ n z. capped (n + nat_abs z)) start xs ≡ capped (start + sum_abs xs)
capped_fold start [] h = sym (capped_same start h) ∙ ap capped (sym (add-zero start))
capped_fold start (x ∷ xs) h =
    capped_fold (capped (start + nat_abs x)) xs (capped_le (start + nat_abs x))
    ∙ capped_add (start + nat_abs x) (sum_abs xs)
    ∙ ap capped (add_assoc start (nat_abs x) (sum_abs xs))

pub capped_min : (n : ℕ) → min n (suc span_limit) ≡ capped n
capped_min n =
    elim (dec_le n span_limit) [
      | yes l ↦ omega (arith, capped_below n l)
      | no h ↦ let over : span_limit < n = omega arith in omega (arith, capped_above n over)
    ]
