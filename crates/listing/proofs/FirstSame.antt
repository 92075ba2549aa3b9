-- The first row that is the same as a row: found at the first of those left, or behind those that are not the same; a bound of it; and what a search over the earlier rows finds.
use mathlib.Core.Path.{◌≡◌, refl, sym, ap, ◌∙◌}
use Rattle.std.specs.Prelude.{Option, Some, None, MatchOption}
use Rattle.std.specs.Option.{unwrap_or}
use mathlib.Core.Bool.{Bool, true, false}
use mathlib.Core.List.{List}
use Prim.Native.Nat.{ℕ, zero, suc, ◌+◌, ◌-◌, ◌≤◌, ◌<◌}
use native.Mathlib.Omega.{arith}
use lib.IntN.{ℤ}
use Rattle.affine.proofs.Lists.{pick_elim}
use Rattle.evaluation.specs.Asking.{same_of}
use Rattle.affine.specs.Row.{same}
use Rattle.evaluation.specs.Table.{row_at}
use Rattle.listing.specs.Listing.{first_among, first_same}
use Rattle.listing.proofs.HeldRows.{RowHeld, earlier_same}

module _ (table : List ℤ) (count row : ℕ) where
  first_is_here : (from : ℕ) → from < row → (same_of table count from row).same ≡ true → first_among table count row from (row - from) ≡ from
  unfolding first_among
  first_is_here from h e = let n : row - from ≡ suc (row - suc from) = omega arith in rw (n, e)

  pub first_is_none : (from : ℕ) → row ≤ from → first_among table count row from (row - from) ≡ 0
  unfolding first_among
  first_is_none from h = let n : row - from ≡ 0 = omega arith in rw n

  -- rows that are not the same are passed over
  none_before : (n m from : ℕ) → ((k : ℕ) → from ≤ k → k < from + n → (same_of table count k row).same ≡ false)
      → first_among table count row from (n + m) ≡ first_among table count row (from + n) m
  unfolding first_among
  none_before zero m from h = let e : from + 0 ≡ from = omega arith in let z : 0 + m ≡ m = omega arith in rw (e, z) refl
  none_before (suc n) m from h =
      let here = h from (omega arith) (omega arith) in
      let e : suc from + n ≡ from + suc n = omega arith in
      let z : suc n + m ≡ suc (n + m) = omega arith in
      rw (z, here) (none_before n m (suc from) (λ k a b. h k (omega arith) (omega arith)) ∙ ap (λ i. first_among table count row i m) e)

  pub first_small : (n from : ℕ) → first_among table count row from n ≤ from + n
  unfolding first_among
  first_small zero from = omega arith
  first_small (suc n) from = pick_elim (λ (k : ℕ). k ≤ from + suc n) (same_of table count from row).same _ _ (λ e. omega arith) (λ e. omega (arith, first_small n (suc from)))

-- what a search over the earlier rows finds
module _ {table : List ℤ} {count row : ℕ} (held : RowHeld table count row) where
  abbrev pub Alike : ℕ → Bool → Type 0
  Alike k b = same (row_at table (k - 1)) (row_at table (row - 1)) ≡ b

  unlike : (n : ℕ) → n ≤ row → ((k : ℕ) → 1 ≤ k → k < n → Alike k false) → (k : ℕ) → 1 ≤ k → k < n → (same_of table count k row).same ≡ false
  unlike n h each k l b = earlier_same held l (omega (arith, b, h)) ∙ each k l b

  pub first_found : (found : Option ℕ)
      → MatchOption found ((k : ℕ) → 1 ≤ k → k < row → Alike k false) (λ i. (1 ≤ i) × (i < row) × Alike i true × ((k : ℕ) → 1 ≤ k → k < i → Alike k false))
      → unwrap_or found 0 ≡ first_same table count row
  unfolding first_among
  first_found None h =
      let e : row - 1 ≡ (row - 1) + 0 = omega arith in
      let end : 1 + (row - 1) ≡ row = omega (arith, held.from_one) in
      sym (ap (first_among table count row 1) e ∙ none_before table count row (row - 1) 0 1 (λ k a b. unlike row (omega arith) h k a (omega (arith, b, end))) ∙ nothing (1 + (row - 1)))
    where
      nothing : (k : ℕ) → first_among table count row k 0 ≡ 0
      nothing k = refl
  first_found (Some i) h =
      let e : row - 1 ≡ (i - 1) + (row - i) = omega (arith, h.0, h.1) in
      let at : 1 + (i - 1) ≡ i = omega (arith, h.0) in
      let here : (same_of table count i row).same ≡ true = earlier_same held h.0 h.1 ∙ h.2 in
      sym (ap (first_among table count row 1) e
      ∙ none_before table count row (i - 1) (row - i) 1 (λ k a b. unlike i (omega (arith, h.1)) h.3 k a (omega (arith, b, at)))
      ∙ ap (λ k. first_among table count row k (row - i)) at
      ∙ first_is_here table count row i h.1 here)
