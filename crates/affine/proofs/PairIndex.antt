-- The index of the pair of two symbols, along the order of the pairs. By induction on the number of symbols.
use mathlib.Core.Path.{◌≡◌, refl, sym, ap, ◌∙◌}
use mathlib.Core.List.{◌++◌}
use Prim.Native.Nat.{ℕ, zero, suc, ◌+◌, ◌-◌, ◌≤◌, ◌<◌}
use native.Mathlib.Decide.{dec_lt}
use native.Mathlib.Omega.{arith}
use lib.ListN.{get_or, get_or-append}
use lib.Seq.{get_or-append-add}
use Rattle.affine.specs.Lists.{tabulate}
use Rattle.affine.specs.PairOrder.{over_pairs, firsts, seconds}
use Rattle.affine.proofs.Lists.{length_tabulate, get_or_tabulate}
use Rattle.affine.specs.Limits.{pair_count}
use Rattle.affine.proofs.PairOrder.{get_or_over_pairs}

-- the index of the pair of symbols i and j, i not after j, among the pairs of n symbols
pub index_in : ℕ → ℕ → ℕ → ℕ
index_in zero i j = 0
index_in (suc n) zero j = j
index_in (suc n) (suc i) zero = 0
index_in (suc n) (suc i) (suc j) = suc (n + index_in n i j)

pub index_first : (n j : ℕ) → 0 < n → index_in n 0 j ≡ j
unfolding index_in
index_first zero j h = absurd (omega arith)
index_first (suc n) j h = refl

-- the pair of the next first symbol: those of symbol i are n - i, and j stands one place nearer to their front
pub index_next : (n i j : ℕ) → i < j → j < n → index_in n (suc i) j ≡ index_in n i j + (n - 1 - i)
unfolding index_in
index_next zero i j l h = absurd (omega arith)
index_next (suc n) i zero l h = absurd (omega arith)
index_next (suc n) zero (suc j) l h = omega (arith, index_first n j (omega arith))
index_next (suc n) (suc i) (suc j) l h = omega (arith, index_next n i j (omega arith) (omega arith))

pub index_below : (n i j : ℕ) → i ≤ j → j < n → index_in n i j < pair_count n
unfolding index_in
index_below zero i j l h = absurd (omega arith)
index_below (suc n) zero j l h = omega arith
index_below (suc n) (suc i) zero l h = absurd (omega arith)
index_below (suc n) (suc i) (suc j) l h = omega (arith, index_below n i j (omega arith) (omega arith))

-- ---- a list over pairs, taken apart: the pairs of the first symbol, and those of the later ones
module _ {A : Type 0} (n : ℕ) (f : ℕ → ℕ → A) (d : A) where
  get_or_first : (k : ℕ) → k < n → get_or (over_pairs (suc n) f) (suc k) d ≡ f 0 (suc k)
  unfolding over_pairs
  get_or_first k h =
      let long = length_tabulate n (λ j. f 0 (suc j)) in
      get_or-append (tabulate n (λ j. f 0 (suc j))) _ d k (omega arith) ∙ get_or_tabulate n _ d k h

  get_or_later : (k : ℕ) → get_or (over_pairs (suc n) f) (suc (n + k)) d ≡ get_or (over_pairs n (λ i j. f (suc i) (suc j))) k d
  unfolding over_pairs
  get_or_later k =
      let first = tabulate n (λ j. f 0 (suc j)) in
      let later = over_pairs n (λ i j. f (suc i) (suc j)) in
      ap (λ m. get_or (first ++ later) (m + k) d) (sym (length_tabulate n (λ j. f 0 (suc j)))) ∙ get_or-append-add first later k d

-- what stands at the index of a pair is what its symbols give
pub get_or_index : {A : Type 0} (n : ℕ) (f : ℕ → ℕ → A) (d : A) (i j : ℕ) → i ≤ j → j < n → get_or (over_pairs n f) (index_in n i j) d ≡ f i j
unfolding index_in over_pairs
get_or_index zero f d i j l h = absurd (omega arith)
get_or_index (suc n) f d zero zero l h = refl
get_or_index (suc n) f d zero (suc j) l h = get_or_first n f d j (omega arith)
get_or_index (suc n) f d (suc i) zero l h = absurd (omega arith)
get_or_index (suc n) f d (suc i) (suc j) l h =
    get_or_later n f d (index_in n i j) ∙ get_or_index n (λ i j. f (suc i) (suc j)) d i j (omega arith) (omega arith)

pub first_at_index : (n i j : ℕ) → i ≤ j → j < n → get_or (firsts n) (index_in n i j) 0 ≡ i
unfolding firsts
first_at_index n i j l h = get_or_index n (λ i j. i) 0 i j l h

pub second_at_index : (n i j : ℕ) → i ≤ j → j < n → get_or (seconds n) (index_in n i j) 0 ≡ j
unfolding seconds
second_at_index n i j l h = get_or_index n (λ i j. j) 0 i j l h

-- the indices of all pairs, listed, are 0, 1 and so on; g for the induction
get_or_counted : (n : ℕ) (g : ℕ → ℕ) (d k : ℕ) → k < pair_count n → get_or (over_pairs n (λ i j. g (index_in n i j))) k d ≡ g k
unfolding index_in over_pairs
get_or_counted zero g d k h = absurd (omega arith)
get_or_counted (suc n) g d zero h = refl
get_or_counted (suc n) g d (suc k) h =
    elim (dec_lt k n) [
      | yes l ↦ get_or_first n (λ i j. g (index_in (suc n) i j)) d k l
      | no l ↦
          let e : k ≡ n + (k - n) = omega arith in
          rw e (get_or_later n (λ i j. g (index_in (suc n) i j)) d (k - n) ∙ get_or_counted n (λ m. g (suc (n + m))) d (k - n) (omega arith))
    ]

-- so each index is that of its symbols
pub index_of_symbols : (n k : ℕ) → k < pair_count n → index_in n (get_or (firsts n) k 0) (get_or (seconds n) k 0) ≡ k
index_of_symbols n k h = sym (get_or_over_pairs n (index_in n) 0 k h) ∙ get_or_counted n (λ m. m) 0 k h
