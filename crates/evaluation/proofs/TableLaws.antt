-- What a table holds after numbers were put at its front, so many for each of a list: each part is the numbers of its element, and behind them
-- stands what stood there before. And what a row's numbers, and a range's, are.
use mathlib.Core.Path.{◌≡◌, sym, ap, ap₂, ◌∙◌}
use mathlib.Core.List.{List, [], ◌∷◌, ◌++◌, append_assoc, append-nil}
use Prim.Native.Nat.{ℕ, zero, suc, ◌+◌, ◌-◌, ◌*◌, ◌≤◌, ◌<◌}
use native.Mathlib.Nat.{le_of_suc-le-suc, not-suc-le-zero, mul-suc, mul-add}
use native.Mathlib.Omega.{arith}
use lib.IntN.{ℤ}
use lib.ListN.{length, get_or, take, drop, length-append, length-drop}
use lib.Seq.{paste, take_at, drop_at, take_all, drop-drop}
use Rattle.affine.specs.declared.Row.{Row}
use Rattle.affine.specs.Limits.{symbols, pairs}
use Rattle.affine.specs.Row.{numbers}
use Rattle.affine.proofs.Form.{Shaped}
use Rattle.evaluation.specs.Table.{part, row_of_numbers, row_width, all_numbers, after}

pub length_numbers : (r : Row) → Shaped r → length (numbers r) ≡ row_width
length_numbers r s = ap suc (length-append r.linear r.pair ∙ ap₂ (λ a b. a + b) s.linear s.pair)

-- a row's numbers are the row
pub row_of_numbers_numbers : (r : Row) → Shaped r → row_of_numbers (numbers r) ≡ r
row_of_numbers_numbers r s = λ i. record { centre = r.centre; linear = linear i; pair = pair i }
  where
    linear : take symbols (r.linear ++ r.pair) ≡ r.linear
    linear = take_at r.linear r.pair symbols s.linear

    pair : take pairs (drop symbols (r.linear ++ r.pair)) ≡ r.pair
    pair = ap (λ l. take pairs l) (drop_at r.linear r.pair symbols s.linear) ∙ take_all pairs r.pair (rw s.pair (omega arith))

-- ---- the numbers of each of a list
module _ {A : Type 0} (width : ℕ) (of : A → List ℤ) where
  numbers_more : (xs : List A) (x : A) → all_numbers of (xs ++ (x ∷ [])) ≡ all_numbers of xs ++ of x
  unfolding all_numbers
  numbers_more [] x = append-nil (of x)
  numbers_more (y ∷ xs) x = ap (λ l. of y ++ l) (numbers_more xs x) ∙ sym (append_assoc (of y) (all_numbers of xs) (of x))

  -- as many numbers for each; d stands past the end
  abbrev pub Wide : A → List A → Type 0
  Wide d xs = (i : ℕ) → i < length xs → length (of (get_or xs i d)) ≡ width

  length_numbers_of : (d : A) (xs : List A) → Wide d xs → length (all_numbers of xs) ≡ width * length xs
  unfolding all_numbers
  length_numbers_of d [] w = omega arith
  length_numbers_of d (x ∷ xs) w =
      let first = w 0 (omega arith) in
      let others = length_numbers_of d xs (λ i l. w (suc i) (omega arith)) in
      length-append (of x) (all_numbers of xs) ∙ rw (mul-suc width (length xs)) (omega arith)

  -- the part with index i, whatever follows
  part_of_numbers : (d : A) (xs : List A) (rest : List ℤ) (i : ℕ) → i < length xs → Wide d xs → part width (all_numbers of xs ++ rest) i ≡ of (get_or xs i d)
  unfolding all_numbers
  part_of_numbers d [] rest i h w = absurd (not-suc-le-zero h)
  part_of_numbers d (x ∷ xs) rest zero h w =
      let e : width * zero ≡ 0 = omega arith in
      ap (λ k. take width (drop k (all_numbers of (x ∷ xs) ++ rest))) e
      ∙ ap (λ l. take width l) (append_assoc (of x) (all_numbers of xs) rest) ∙ take_at (of x) (all_numbers of xs ++ rest) width (w 0 (omega arith))
  part_of_numbers d (x ∷ xs) rest (suc i) h w =
      let e : width * suc i ≡ width + width * i = rw (mul-suc width i) (omega arith) in
      ap (λ l. take width (drop (width * suc i) l)) (append_assoc (of x) (all_numbers of xs) rest)
      ∙ ap (λ k. take width (drop k (of x ++ (all_numbers of xs ++ rest)))) e
      ∙ ap (λ l. take width l) (sym (drop-drop (width * i) width (of x ++ (all_numbers of xs ++ rest))))
      ∙ ap (λ l. take width (drop (width * i) l)) (drop_at (of x) (all_numbers of xs ++ rest) width (w 0 (omega arith)))
      ∙ part_of_numbers d xs rest i (le_of_suc-le-suc h) (λ j l. w (suc j) (omega arith))

  -- ---- put at the front of a table
  pub nothing_after : (table : List ℤ) → after width of [] table ≡ table
  unfolding after all_numbers
  nothing_after table = let e : width * 0 ≡ 0 = omega arith in ap (λ k. drop k table) e

  module _ (d : A) (xs : List A) (table : List ℤ) (wide : Wide d xs) where
    pub length_after : width * length xs ≤ length table → length (after width of xs table) ≡ length table
    unfolding after
    length_after h =
        length-append (all_numbers of xs) (drop (width * length xs) table)
        ∙ ap₂ (λ a b. a + b) (length_numbers_of d xs wide) (length-drop (width * length xs) table)
        ∙ omega arith

    pub part_after : (i : ℕ) → i < length xs → part width (after width of xs table) i ≡ of (get_or xs i d)
    unfolding after
    part_after i h = part_of_numbers d xs (drop (width * length xs) table) i h wide

    -- behind them stands what stood there before
    pub part_beyond : (i : ℕ) → length xs ≤ i → part width (after width of xs table) i ≡ part width table i
    unfolding after
    part_beyond i h =
        let before = all_numbers of xs in
        let at = width * length xs in
        let split : width * i ≡ at + width * (i - length xs) = rw (sym (mul-add width (length xs) (i - length xs))) (ap (λ k. width * k) (omega arith)) in
        ap (λ k. take width (drop k (before ++ drop at table))) split
        ∙ ap (take width)
        (sym (drop-drop (width * (i - length xs)) at (before ++ drop at table))
        ∙ ap (drop (width * (i - length xs))) (drop_at before (drop at table) at (length_numbers_of d xs wide))
        ∙ drop-drop (width * (i - length xs)) at table)
        ∙ ap (λ k. take width (drop k table)) (sym split)

    -- one more
    pub after_more : (x : A) → length (of x) ≡ width → after width of (xs ++ (x ∷ [])) table ≡ paste (after width of xs table) (width * length xs) (of x) width
    unfolding after
    after_more x w =
        let before = all_numbers of xs in
        let at = width * length xs in
        let behind = drop at table in
        let more : length (xs ++ (x ∷ [])) ≡ suc (length xs) = length-append xs (x ∷ []) ∙ omega arith in
        let end : width * length (xs ++ (x ∷ [])) ≡ at + width = rw (more, mul-suc width (length xs)) (omega arith) in
        let head : take at (before ++ behind) ≡ before = take_at before behind at (length_numbers_of d xs wide) in
        let middle : take width (of x) ≡ of x = take_all width (of x) (omega arith) in
        let rest : drop (at + width) (before ++ behind) ≡ drop (at + width) table =
        sym (drop-drop width at (before ++ behind)) ∙ ap (drop width) (drop_at before behind at (length_numbers_of d xs wide)) ∙ drop-drop width at table in
        ap₂ (λ a k. a ++ drop k table) (numbers_more xs x) end
        ∙ sym (ap₂ (λ a b. a ++ b) (ap₂ (λ a b. a ++ b) head middle) rest)

  -- put again, as many: of the first nothing is left
  pub after_again : (d : A) (xs ys : List A) (table : List ℤ) → Wide d xs → length xs ≡ length ys → after width of ys (after width of xs table) ≡ after width of ys table
  unfolding after
  after_again d xs ys table wide e =
      ap (λ k. all_numbers of ys ++ drop (width * k) (all_numbers of xs ++ drop (width * length xs) table)) (sym e)
      ∙ ap (λ l. all_numbers of ys ++ l) (drop_at (all_numbers of xs) (drop (width * length xs) table) (width * length xs) (length_numbers_of d xs wide))
      ∙ ap (λ k. all_numbers of ys ++ drop (width * k) table) e
