-- The pairs of a row column by column, a column for each second symbol: where a loop over a column stands, and what a list holds into which it
-- puts the numbers of the pairs.
use mathlib.Core.Path.{◌≡◌, sym, ap₂, ◌∙◌}
use mathlib.Core.Bool.{Bool}
use mathlib.Core.List.{List, map}
use Prim.Native.Nat.{ℕ, suc, ◌+◌, ◌-◌, ◌*◌, ◌≤◌, ◌<◌}
use native.Mathlib.Numerals.{add-one}
use native.Mathlib.Omega.{arith}
use borrow.Author.Tests.{ltb-true, lt-ltb, le-ltb}
use lib.IntN.{ℤ, pos, nat_abs}
use lib.ListN.{set, replicate}
use Rattle.integer.specs.Sum.{sum_abs}
use Rattle.affine.specs.Limits.{paired, pairs}
use Rattle.affine.specs.Lists.{pick}
use Rattle.affine.specs.PairOrder.{first_of, second_of, in_use, over_used}
use Rattle.affine.proofs.Lists.{pick_elim, tabulate_cong, map_tabulate}
use Rattle.affine.proofs.PairOrder.{first_le_second}
use Rattle.affine.proofs.PairSymbols.{first_below, second_below}
use Rattle.affine.proofs.PairIndex.{index_in, index_first, index_next, index_below, first_at_index, second_at_index, index_of_symbols}
use Rattle.affine.proofs.PutSoFar.{partly, partly_none, partly_same, partly_sum_within, below, Turn, turn_more, turn_sum_more}

-- ---- the place of a loop over the pairs of column j: its pair is that of symbols i and j, at index k, while i is not after j
pub record AtPair (j i k : ℕ) : Type 0 where
  pub within : i ≤ suc j
  pub place : i ≤ j → k ≡ index_in paired i j

pub at_first : (j : ℕ) → AtPair j 0 j
at_first j = record { within = omega arith; place = λ l. sym (index_first paired j (omega arith)) }

pub at_next : {j i k : ℕ} → j < paired → i ≤ j → AtPair j i k → AtPair j (i + 1) (k + (paired - 1 - i))
at_next {j} {i} {k} h l here =
    record {
      within = omega arith;
      place = λ more. rw (here.place l, add-one) (sym (index_next paired i j (omega arith) h));
    }

pub at_symbols : {j i k : ℕ} → j < paired → i ≤ j → AtPair j i k → (k < pairs) × (first_of k ≡ i) × (second_of k ≡ j)
at_symbols {j} {i} h l here = rw (here.place l) (index_below paired i j l h, first_at_index paired i j l h, second_at_index paired i j l h)

-- ---- f at the pairs of the columns before j, and at the first i pairs of column j
-- its place in this order, and whether it is passed
abbrev columnwise : ℕ → ℕ
columnwise k = paired * second_of k + first_of k

abbrev passed : ℕ → ℕ → ℕ → Bool
passed j i = below columnwise (paired * j + i)

abbrev pub column : (ℕ → ℤ) → ℕ → ℕ → List ℤ
column f j i = partly pairs (passed j i) f

pub column_none : (f : ℕ → ℤ) (j : ℕ) → over_used j f ≡ column f j 0
column_none f j =
    partly_same pairs (in_use j) (passed j 0) f (λ k h t. lt-ltb (columnwise k) _ (omega (arith, ltb-true (second_of k) j t, first_below k)))
    (λ k h t. lt-ltb (second_of k) j (omega (arith, ltb-true (columnwise k) _ t)))

module _ (f : ℕ → ℤ) {j i k : ℕ} (h : j < paired) (l : i ≤ j) (here : AtPair j i k) where
  column_turn : Turn pairs columnwise (paired * j + i) k
  column_turn =
      record {
        inside = (at_symbols h l here).0;
        ranked = rw ((at_symbols h l here).1, (at_symbols h l here).2);
        alone = λ m b e.
            let first : first_of m ≡ i = omega (arith, first_below m) in
            let second : second_of m ≡ j = omega (arith, first_below m) in
            sym (index_of_symbols paired m b) ∙ ap₂ (index_in paired) first second ∙ sym (here.place l);
      }

  next : paired * j + (i + 1) ≡ paired * j + i + 1
  next = omega arith

  pub column_more : set (column f j i) k (f k) ≡ column f j (i + 1)
  column_more = rw next (turn_more f column_turn)

  pub column_sum_more : sum_abs (column f j (i + 1)) ≡ sum_abs (column f j i) + nat_abs (f k)
  column_sum_more = rw next (turn_sum_more f column_turn)

pub column_all : (f : ℕ → ℤ) {j i k : ℕ} → AtPair j i k → j < i → column f j i ≡ over_used (suc j) f
column_all f {j} {i} here over =
    partly_same pairs (passed j i) (in_use (suc j)) f
    (λ k h t. lt-ltb (second_of k) (suc j) (omega (arith, ltb-true (columnwise k) _ t, here.within, second_below k)))
    (λ k h t. lt-ltb (columnwise k) _ (omega (arith, ltb-true (second_of k) (suc j) t, first_le_second paired k h)))

pub column_sum_within : (f : ℕ → ℤ) (j i : ℕ) → i ≤ suc j → sum_abs (column f j i) ≤ sum_abs (over_used (suc j) f)
column_sum_within f j i l =
    partly_sum_within pairs (passed j i) (in_use (suc j)) f
    (λ k t. lt-ltb (second_of k) (suc j) (omega (arith, ltb-true (columnwise k) _ t, second_below k)))

-- ---- whole columns
pub used_none : (f : ℕ → ℤ) → replicate pairs (pos 0) ≡ over_used 0 f
used_none f = partly_none pairs f (λ k. le-ltb (second_of k) 0 (omega arith))

pub used_sum_within : (f : ℕ → ℤ) {j squares : ℕ} → j < squares → sum_abs (over_used (suc j) f) ≤ sum_abs (over_used squares f)
used_sum_within f {j} {squares} h =
    partly_sum_within pairs (in_use (suc j)) (in_use squares) f
    (λ k t. lt-ltb (second_of k) squares (omega (arith, h, ltb-true (second_of k) (suc j) t)))

pub map_used : (h : ℤ → ℤ) → h (pos 0) ≡ pos 0 → (squares : ℕ) (f : ℕ → ℤ) → map h (over_used squares f) ≡ over_used squares (λ k. h (f k))
map_used h zero_kept squares f =
    map_tabulate h pairs _
    ∙ tabulate_cong pairs
    (λ k l. pick_elim (λ z. h (pick (in_use squares k) (f k) (pos 0)) ≡ z) (in_use squares k) (h (f k)) (pos 0) (λ t. rw t) (λ t. rw t zero_kept))
