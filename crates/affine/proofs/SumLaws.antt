-- Sums over a list: one element more, no part above the whole, numbers by index, a number changed. By induction on the list.
use mathlib.Core.Path.{◌≡◌, refl, ap, ap₂}
use mathlib.Core.List.{List, [], ◌∷◌, map}
use Prim.Native.Nat.{ℕ, zero, suc, ◌+◌, ◌*◌, ◌≤◌, ◌<◌}
use native.Mathlib.Nat.{mul-add, mul-suc}
use native.Mathlib.Omega.{arith}
use lib.IntN.{ℤ, pos, nat_abs}
use lib.ListN.{length, set, replicate}
use Rattle.integer.specs.Sum.{sum_abs}
use Rattle.affine.specs.Lists.{at, tabulate, sum}

-- ---- sums of natural numbers f 0, f 1 and so on: two of them, term by term
pub sum_tabulate_add : (n : ℕ) (f g : ℕ → ℕ) → sum (tabulate n f) + sum (tabulate n g) ≡ sum (tabulate n (λ i. f i + g i))
unfolding sum tabulate
sum_tabulate_add zero f g = refl
sum_tabulate_add (suc n) f g = omega (arith, sum_tabulate_add n (λ i. f (suc i)) (λ i. g (suc i)))

-- each of them the absolute value of the number at its index
pub sum_tabulate_absolutes : (n : ℕ) (f : ℕ → ℕ) (xs : List ℤ) → length xs ≡ n → ((i : ℕ) → f i ≡ nat_abs (at xs i)) → sum (tabulate n f) ≡ sum_abs xs
unfolding sum tabulate
sum_tabulate_absolutes zero f [] l h = refl
sum_tabulate_absolutes zero f (x ∷ xs) l h = absurd (omega arith)
sum_tabulate_absolutes (suc n) f [] l h = absurd (omega arith)
sum_tabulate_absolutes (suc n) f (x ∷ xs) l h = ap₂ (λ a b. a + b) (h 0) (sum_tabulate_absolutes n (λ i. f (suc i)) xs (omega arith) (λ i. h (suc i)))

-- ---- the absolute values of numbers by index: those of a list
pub sum_abs_tabulate_at : (n : ℕ) (xs : List ℤ) → sum_abs (tabulate n (at xs)) ≤ sum_abs xs
unfolding tabulate
sum_abs_tabulate_at zero xs = omega arith
sum_abs_tabulate_at (suc n) [] = let h = sum_abs_tabulate_at n [] in omega arith
sum_abs_tabulate_at (suc n) (x ∷ xs) = let h = sum_abs_tabulate_at n xs in omega arith

-- numbers bounded by those of two lists, with a weight for each
pub sum_abs_tabulate_within : (n : ℕ) (f g h : ℕ → ℤ) (a b : ℕ) → ((i : ℕ) → nat_abs (f i) ≤ a * nat_abs (g i) + b * nat_abs (h i))
    → sum_abs (tabulate n f) ≤ a * sum_abs (tabulate n g) + b * sum_abs (tabulate n h)
unfolding tabulate
sum_abs_tabulate_within zero f g h a b l = omega arith
sum_abs_tabulate_within (suc n) f g h a b l =
    let first = l 0 in
    let rest = sum_abs_tabulate_within n (λ i. f (suc i)) (λ i. g (suc i)) (λ i. h (suc i)) a b (λ i. l (suc i)) in
    rw (mul-add a (nat_abs (g 0)), mul-add b (nat_abs (h 0))) (omega arith)

-- each at most its number in the other list
pub sum_abs_tabulate_le : (n : ℕ) (f g : ℕ → ℤ) → ((i : ℕ) → nat_abs (f i) ≤ nat_abs (g i)) → sum_abs (tabulate n f) ≤ sum_abs (tabulate n g)
sum_abs_tabulate_le n f g h = omega (arith, sum_abs_tabulate_within n f g g 1 0 (λ i. omega (arith, h i)))

-- each at most m
pub sum_abs_tabulate_each : (n m : ℕ) (f : ℕ → ℤ) → ((i : ℕ) → nat_abs (f i) ≤ m) → sum_abs (tabulate n f) ≤ m * n
unfolding tabulate
sum_abs_tabulate_each zero m f h = omega arith
sum_abs_tabulate_each (suc n) m f h =
    let rest = sum_abs_tabulate_each n m (λ i. f (suc i)) (λ i. h (suc i)) in
    rw (mul-suc m n) (omega (arith, h 0))

-- ---- one number of a list changed, and all numbers made no larger
pub sum_abs_set : (xs : List ℤ) (i : ℕ) (v : ℤ) → sum_abs (set xs i v) ≤ sum_abs xs + nat_abs v
sum_abs_set [] i v = omega arith
sum_abs_set (x ∷ xs) zero v = omega arith
sum_abs_set (x ∷ xs) (suc i) v = let rest = sum_abs_set xs i v in omega arith

-- a number put where 0 stood
pub sum_abs_set_zero : (xs : List ℤ) (i : ℕ) (v : ℤ) → i < length xs → at xs i ≡ pos 0 → sum_abs (set xs i v) ≡ sum_abs xs + nat_abs v
sum_abs_set_zero [] i v h e = absurd (omega arith)
sum_abs_set_zero (x ∷ xs) zero v h e = let none = ap nat_abs e in omega arith
sum_abs_set_zero (x ∷ xs) (suc i) v h e = let rest = sum_abs_set_zero xs i v (omega arith) e in omega arith

pub sum_abs_map : (f : ℤ → ℤ) → ((z : ℤ) → nat_abs (f z) ≤ nat_abs z) → (xs : List ℤ) → sum_abs (map f xs) ≤ sum_abs xs
sum_abs_map f h [] = omega arith
sum_abs_map f h (x ∷ xs) = let rest = sum_abs_map f h xs in omega (arith, h x)

pub sum_abs_zeros : (n : ℕ) → sum_abs (replicate n (pos 0)) ≡ 0
sum_abs_zeros zero = refl
sum_abs_zeros (suc n) = let rest = sum_abs_zeros n in omega arith
