-- The order of the pairs by index: what stands at an index is what the two symbols of that pair give, and the first of them is never after
-- the second. By induction on the number of symbols.
use mathlib.Core.Path.{◌≡◌, refl, sym, ap, ap₂, ◌∙◌}
use mathlib.Core.Bool.{Bool, true}
use mathlib.Core.List.{List, [], ◌∷◌, ◌++◌, map, map-append}
use Prim.Native.Nat.{ℕ, zero, suc, ◌+◌, ◌≤◌, ◌<◌}
use native.Mathlib.Nat.{le_of_suc-le-suc, not-suc-le-zero}
use native.Mathlib.Omega.{arith}
use borrow.Author.Tests.{leb-true, le-leb}
use lib.Dec.{leb}
use lib.ListN.{length, get_or, length-append}
use Rattle.affine.specs.Limits.{pair_count}
use Rattle.affine.specs.Lists.{tabulate}
use Rattle.affine.specs.PairOrder.{over_pairs, firsts, seconds}
use Rattle.affine.proofs.Lists.{length_tabulate, map_tabulate}

pub length_over_pairs : {A : Type 0} (n : ℕ) (f : ℕ → ℕ → A) → length (over_pairs n f) ≡ pair_count n
unfolding over_pairs
length_over_pairs zero f = refl
length_over_pairs (suc n) f =
    ap suc
    (length-append (tabulate n (λ j. f 0 (suc j))) _
    ∙ ap₂ (λ a b. a + b) (length_tabulate n (λ j. f 0 (suc j))) (length_over_pairs n (λ i j. f (suc i) (suc j))))

get_or_map : {A B : Type 0} (h : A → B) (xs : List A) (k : ℕ) (d : A) (e : B) → k < length xs → get_or (map h xs) k e ≡ h (get_or xs k d)
get_or_map h [] k d e l = absurd (not-suc-le-zero l)
get_or_map h (x ∷ xs) zero d e l = refl
get_or_map h (x ∷ xs) (suc k) d e l = get_or_map h xs k d e (le_of_suc-le-suc l)

pub map_over_pairs : {A B : Type 0} (h : A → B) (n : ℕ) (f : ℕ → ℕ → A) → map h (over_pairs n f) ≡ over_pairs n (λ i j. h (f i j))
unfolding over_pairs
map_over_pairs h zero f = refl
map_over_pairs h (suc n) f =
    ap (λ l. h (f 0 0) ∷ l)
    (map-append h (tabulate n (λ j. f 0 (suc j))) _
    ∙ ap₂ (λ a b. a ++ b) (map_tabulate h n (λ j. f 0 (suc j))) (map_over_pairs h n (λ i j. f (suc i) (suc j))))

-- both symbols of each pair
both : ℕ → List (ℕ × ℕ)
both n = over_pairs n (λ i j. (i, j))

-- at index k stands what the first and the second symbol of the pair at index k give
pub get_or_over_pairs : {A : Type 0} (n : ℕ) (f : ℕ → ℕ → A) (d : A) (k : ℕ) → k < pair_count n
    → get_or (over_pairs n f) k d ≡ f (get_or (firsts n) k 0) (get_or (seconds n) k 0)
unfolding firsts seconds both
get_or_over_pairs n f d k h =
    ap (λ l. get_or l k d) (sym (map_over_pairs (λ p. f p.0 p.1) n (λ i j. (i, j))))
    ∙ at_pair (λ p. f p.0 p.1) d
    ∙ ap₂ f (sym (at_pair (λ p. p.0) 0) ∙ ap (λ l. get_or l k 0) (map_over_pairs (λ (p : ℕ × ℕ). p.0) n (λ i j. (i, j))))
    (sym (at_pair (λ p. p.1) 0) ∙ ap (λ l. get_or l k 0) (map_over_pairs (λ (p : ℕ × ℕ). p.1) n (λ i j. (i, j))))
  where
    at_pair : {B : Type 0} (g : ℕ × ℕ → B) (e : B) → get_or (map g (both n)) k e ≡ g (get_or (both n) k (0, 0))
    at_pair g e =
        let long : length (both n) ≡ pair_count n = length_over_pairs n (λ i j. (i, j)) in
        get_or_map g (both n) k (0, 0) e (rw long h)

append_all : (xs ys : List Bool) → ((k : ℕ) → get_or xs k true ≡ true) → ((k : ℕ) → get_or ys k true ≡ true) → (k : ℕ) → get_or (xs ++ ys) k true ≡ true
append_all [] ys h g k = g k
append_all (x ∷ xs) ys h g zero = h zero
append_all (x ∷ xs) ys h g (suc k) = append_all xs ys (λ i. h (suc i)) g k

tabulate_all : (n : ℕ) (f : ℕ → Bool) → ((i : ℕ) → f i ≡ true) → (k : ℕ) → get_or (tabulate n f) k true ≡ true
unfolding tabulate
tabulate_all zero f h k = refl
tabulate_all (suc n) f h zero = h 0
tabulate_all (suc n) f h (suc k) = tabulate_all n (λ i. f (suc i)) (λ i. h (suc i)) k

over_pairs_all : (n : ℕ) (f : ℕ → ℕ → Bool) → ((i j : ℕ) → i ≤ j → f i j ≡ true) → (k : ℕ) → get_or (over_pairs n f) k true ≡ true
unfolding over_pairs
over_pairs_all zero f h k = refl
over_pairs_all (suc n) f h zero = h 0 0 (omega arith)
over_pairs_all (suc n) f h (suc k) =
    append_all (tabulate n (λ j. f 0 (suc j))) _ (tabulate_all n (λ j. f 0 (suc j)) (λ j. h 0 (suc j) (omega arith)))
    (over_pairs_all n (λ i j. f (suc i) (suc j)) (λ i j l. h (suc i) (suc j) (omega arith))) k

pub first_le_second : (n k : ℕ) → k < pair_count n → get_or (firsts n) k 0 ≤ get_or (seconds n) k 0
first_le_second n k h =
    leb-true (get_or (firsts n) k 0) (get_or (seconds n) k 0)
    (sym (get_or_over_pairs n leb true k h) ∙ over_pairs_all n leb (λ i j l. le-leb i j l) k)
