-- Tables whose rows have the same parts, and the same ranges beside them, have the same lines.
use mathlib.Core.Path.{◌≡◌, refl, sym, ap, ap₂, ◌∙◌}
use mathlib.Core.List.{List, [], ◌∷◌}
use Prim.Native.Nat.{ℕ, zero, suc, ◌+◌, ◌-◌, ◌≤◌, ◌<◌}
use native.Mathlib.Omega.{arith}
use lib.IntN.{ℤ, pos}
use Rattle.affine.specs.Lists.{pick, at}
use Rattle.affine.specs.Row.{same}
use Rattle.sheet.specs.Text.{line}
use Rattle.evaluation.specs.Table.{row_part, row_of_numbers, range_at, RangesOrdered}
use Rattle.evaluation.specs.Asking.{range_told, range_of, same_of}
use Rattle.listing.specs.Listing.{own, first_among, row_numbers, row_text}
use Rattle.listing.specs.Held.{RowsHeld}
use Rattle.listing.proofs.HeldRows.{RowHeld, row_range, row_own, earlier_same}

module _ {t u r s : List ℤ} {count : ℕ} (left : RowsHeld t count) (right : RowsHeld u count) (parts : (i : ℕ) → i < count → row_part t i ≡ row_part u i)
    (ordered : RangesOrdered r count) (ordered' : RangesOrdered s count) (ranges : (i : ℕ) → i < count → range_at r i ≡ range_at s i) where
  module _ (row : ℕ) (from_one : 1 ≤ row) (up_to : row ≤ count) where
    held : RowHeld t count row
    held = record { rows = left; from_one = from_one; up_to = up_to }

    held' : RowHeld u count row
    held' = record { rows = right; from_one = from_one; up_to = up_to }

    part : row_part t (row - 1) ≡ row_part u (row - 1)
    part = parts (row - 1) (omega arith)

    range_agrees : range_of t r count row ≡ range_of u s count row
    range_agrees = row_range held ordered ∙ ap range_told (ranges (row - 1) (omega arith)) ∙ sym (row_range held' ordered')

    own_agrees : own t count row ≡ own u count row
    own_agrees = row_own held ∙ ap (λ l. at l row) part ∙ sym (row_own held')

    same_agrees : (earlier : ℕ) → 1 ≤ earlier → earlier < row → (same_of t count earlier row).same ≡ (same_of u count earlier row).same
    same_agrees earlier h l =
        earlier_same held h l
        ∙ ap₂ (λ x y. same (row_of_numbers x) (row_of_numbers y)) (parts (earlier - 1) (omega arith)) part
        ∙ sym (earlier_same held' h l)

    first_agrees : (n from : ℕ) → 1 ≤ from → from + n ≤ row → first_among t count row from n ≡ first_among u count row from n
    unfolding first_among
    first_agrees zero from h l = refl
    first_agrees (suc n) from h l =
        ap₂ (λ b k. pick b from k) (same_agrees from h (omega arith)) (first_agrees n (suc from) (omega arith) (omega arith))

    numbers_agree : row_numbers t r count row ≡ row_numbers u s count row
    numbers_agree =
        λ i. pos row
        ∷ (range_agrees i).low
        ∷ (range_agrees i).high
        ∷ own_agrees i
        ∷ pos (first_agrees (row - 1) 1 (omega arith) (omega arith) i)
        ∷ []

    pub rows_agree : row_text t r count row ≡ row_text u s count row
    unfolding row_text
    rows_agree = ap line numbers_agree
