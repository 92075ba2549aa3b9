-- The pairs of a row by index: both symbols are among those that stand in pairs, by one test of the two lists, computed; and what is
-- listed index by index from them is listed in the order of the pairs.
use mathlib.Core.Path.{◌≡◌, refl, sym, ◌∙◌}
use mathlib.Core.Bool.{Bool, true, false}
use mathlib.Core.List.{List, [], ◌∷◌}
use Prim.Native.Nat.{ℕ, zero, suc, ◌<◌}
use native.Mathlib.Omega.{arith}
use borrow.Author.Tests.{ltb-true}
use lib.Dec.{ltb}
use lib.IntN.{ℤ, pos}
use lib.ListN.{get_or}
use Rattle.affine.specs.Limits.{paired, pairs}
use Rattle.affine.specs.Lists.{pick, tabulate}
use Rattle.affine.specs.PairOrder.{over_pairs, firsts, seconds, first_of, second_of}
use Rattle.affine.proofs.Lists.{tabulate_cong, tabulate_at}
use Rattle.affine.proofs.PairOrder.{length_over_pairs, get_or_over_pairs}

all_below : ℕ → List ℕ → Bool
all_below n [] = true
all_below n (x ∷ xs) = pick (ltb x n) (all_below n xs) false

get_or_below : (n : ℕ) (xs : List ℕ) → all_below n xs ≡ true → 0 < n → (k : ℕ) → get_or xs k 0 < n
unfolding all_below
get_or_below n [] e h k = h
get_or_below n (x ∷ xs) e h k = by_test (ltb x n) refl e (λ f. get_or_below n xs f h) k
  where
    by_test : (b : Bool) → ltb x n ≡ b → pick b (all_below n xs) false ≡ true → (all_below n xs ≡ true → (k : ℕ) → get_or xs k 0 < n)
        → (k : ℕ) → get_or (x ∷ xs) k 0 < n
    by_test true t e rest zero = ltb-true x n t
    by_test true t e rest (suc k) = rest e k
    by_test false t e rest k = absurd (let z : ◌≡◌ {A = ℕ} 0 1 = cc in omega arith)

pub first_below : (k : ℕ) → first_of k < paired
unfolding all_below tabulate over_pairs firsts
first_below k = get_or_below paired (firsts paired) refl (omega arith) k

pub second_below : (k : ℕ) → second_of k < paired
unfolding all_below tabulate over_pairs seconds
second_below k = get_or_below paired (seconds paired) refl (omega arith) k

pub tabulate_pairs : (f : ℕ → ℕ → ℤ) → tabulate pairs (λ k. f (first_of k) (second_of k)) ≡ over_pairs paired f
tabulate_pairs f =
    tabulate_cong pairs (λ k h. sym (get_or_over_pairs paired f (pos 0) k h)) ∙ tabulate_at (over_pairs paired f) pairs (length_over_pairs paired f)
