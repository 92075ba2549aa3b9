-- A list of zeros into which a loop puts the numbers f 0, f 1 and so on, each once: what it holds while some of them are put, and the sum of its
-- absolute values.
use mathlib.Core.Path.{◌≡◌, refl, sym, ap, ◌∙◌}
use mathlib.Core.Logic.{◌≢◌}
use mathlib.Core.Bool.{Bool, true, false}
use mathlib.Core.List.{List}
use Prim.Native.Nat.{ℕ, ◌+◌, ◌≤◌, ◌<◌}
use native.Mathlib.Omega.{arith}
use borrow.Author.Tests.{ltb-true, ltb-false, lt-ltb, le-ltb}
use lib.Dec.{ltb}
use lib.IntN.{ℤ, pos, nat_abs}
use lib.ListN.{length, set, replicate}
use Rattle.integer.specs.Sum.{sum_abs}
use Rattle.affine.specs.Lists.{pick, at, tabulate}
use Rattle.affine.proofs.Lists.{pick_elim, length_tabulate, at_tabulate, tabulate_cong, set_tabulate, replicate_tabulate}
use Rattle.affine.proofs.SumLaws.{sum_abs_tabulate_le, sum_abs_set_zero, sum_abs_zeros}

-- ---- some of n numbers: f k at each index k that is done, 0 at the others
abbrev pub partly : ℕ → (ℕ → Bool) → (ℕ → ℤ) → List ℤ
partly n done f = tabulate n (λ k. pick (done k) (f k) (pos 0))

pub length_partly : (n : ℕ) (done : ℕ → Bool) (f : ℕ → ℤ) → length (partly n done f) ≡ n
length_partly n done f = length_tabulate n _

pub partly_none : (n : ℕ) {done : ℕ → Bool} (f : ℕ → ℤ) → ((k : ℕ) → done k ≡ false) → replicate n (pos 0) ≡ partly n done f
partly_none n f none = replicate_tabulate n (pos 0) ∙ tabulate_cong n (λ k h. rw (none k))

-- two tests that pass together
same_test : (s t : Bool) → (s ≡ true → t ≡ true) → (t ≡ true → s ≡ true) → s ≡ t
same_test true t forth back = sym (forth refl)
same_test false true forth back = back refl
same_test false false forth back = refl

pub partly_same : (n : ℕ) (done done' : ℕ → Bool) (f : ℕ → ℤ) → ((k : ℕ) → k < n → done k ≡ true → done' k ≡ true)
    → ((k : ℕ) → k < n → done' k ≡ true → done k ≡ true) → partly n done f ≡ partly n done' f
partly_same n done done' f forth back = tabulate_cong n (λ k h. rw (same_test (done k) (done' k) (forth k h) (back k h)))

pub partly_sum_within : (n : ℕ) (done done' : ℕ → Bool) (f : ℕ → ℤ) → ((k : ℕ) → done k ≡ true → done' k ≡ true)
    → sum_abs (partly n done f) ≤ sum_abs (partly n done' f)
partly_sum_within n done done' f h =
    sum_abs_tabulate_le n _ _ (λ k. pick_elim (within (done' k) (f k)) (done k) (f k) (pos 0) (λ t. rw (h k t) (omega arith)) (λ t. omega arith))
  where
    within : Bool → ℤ → ℤ → Type 0
    within t y z = nat_abs z ≤ nat_abs (pick t y (pos 0))

-- ---- in the order of a rank: where the numbers of ranks below p are put, the next turn puts the one number of rank p, at index k
abbrev pub below : (ℕ → ℕ) → ℕ → ℕ → Bool
below rank p m = ltb (rank m) p

pub record Turn (n : ℕ) (rank : ℕ → ℕ) (p k : ℕ) : Type 0 where
  pub inside : k < n
  pub ranked : rank k ≡ p
  pub alone : (m : ℕ) → m < n → rank m ≡ p → m ≡ k

module _ {n : ℕ} {rank : ℕ → ℕ} {p k : ℕ} (f : ℕ → ℤ) (turn : Turn n rank p k) where
  pub turn_zero : at (partly n (below rank p) f) k ≡ pos 0
  turn_zero = at_tabulate n _ k turn.inside ∙ rw (le-ltb (rank k) p (omega arith))

  pub turn_more : set (partly n (below rank p) f) k (f k) ≡ partly n (below rank (p + 1)) f
  turn_more =
      set_tabulate n _ _ k (f k) turn.inside (rw (lt-ltb (rank k) (p + 1) (omega arith)))
      (λ m h other. rw (same m (λ e. other (turn.alone m h e))))
    where
      same : (m : ℕ) → rank m ≢ p → below rank p m ≡ below rank (p + 1) m
      same m other =
          same_test (below rank p m) (below rank (p + 1) m) (λ t. lt-ltb (rank m) (p + 1) (omega (arith, ltb-true (rank m) p t)))
          (λ t. lt-ltb (rank m) p (omega (arith, ltb-true (rank m) (p + 1) t)))

  pub turn_sum_more : sum_abs (partly n (below rank (p + 1)) f) ≡ sum_abs (partly n (below rank p) f) + nat_abs (f k)
  turn_sum_more =
      ap sum_abs (sym turn_more)
      ∙ sum_abs_set_zero (partly n (below rank p) f) k (f k) (omega (arith, length_partly n (below rank p) f, turn.inside)) turn_zero

-- ---- in the order of the indices: the first i of n numbers
abbrev pub front : ℕ → (ℕ → ℤ) → ℕ → List ℤ
front n f i = partly n (λ k. ltb k i) f

pub front_none : (n : ℕ) (f : ℕ → ℤ) → replicate n (pos 0) ≡ front n f 0
front_none n f = partly_none n f (λ k. le-ltb k 0 (omega arith))

module _ (n : ℕ) (f : ℕ → ℤ) (i : ℕ) (h : i < n) where
  front_turn : Turn n (λ k. k) i i
  front_turn = record { inside = h; ranked = refl; alone = λ m l e. e }

  pub front_more : set (front n f i) i (f i) ≡ front n f (i + 1)
  front_more = turn_more f front_turn

  pub front_sum_more : sum_abs (front n f (i + 1)) ≡ sum_abs (front n f i) + nat_abs (f i)
  front_sum_more = turn_sum_more f front_turn

-- numbers that are 0 need not be put
pub front_all : (n : ℕ) (f : ℕ → ℤ) (i : ℕ) → ((k : ℕ) → i ≤ k → k < n → f k ≡ pos 0) → front n f i ≡ tabulate n f
front_all n f i zeros =
    tabulate_cong n (λ k h. pick_elim (λ z. z ≡ f k) (ltb k i) (f k) (pos 0) (λ t. refl) (λ t. sym (zeros k (ltb-false k i t) h)))

pub front_sum_none : (n : ℕ) (f : ℕ → ℤ) → sum_abs (front n f 0) ≡ 0
front_sum_none n f = ap sum_abs (sym (front_none n f)) ∙ sum_abs_zeros n

pub front_sum_within : (n : ℕ) (f : ℕ → ℤ) (i : ℕ) → sum_abs (front n f i) ≤ sum_abs (tabulate n f)
front_sum_within n f i = partly_sum_within n (λ k. ltb k i) (λ k. true) f (λ k t. refl)
