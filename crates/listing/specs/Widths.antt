-- The sizes that follow from the limits of inputs and steps (manual, section 8): they stand here as numbers, and in no definition or law.
use Rattle.std.specs.Prelude.{◌≡◌, List, [], ◌∷◌, ℕ, suc, ◌-◌, pos, map}
use Rattle.capacity.specs.Limits.{max_inputs, max_steps, max_rows}
use Rattle.affine.specs.Limits.{symbols, paired, pairs}
use Rattle.affine.specs.Lists.{at}
use Rattle.affine.specs.PairOrder.{first_of, second_of}
use Rattle.affine.specs.Steps.{input_row}
use Rattle.affine.specs.Product.{product_row}
use Rattle.sheet.specs.LongestSheet.{longest_sheet}
use Rattle.evaluation.specs.Table.{row_width}
use Rattle.listing.specs.Listing.{table_numbers, ranges_numbers}

-- A row has a centre, a number for each of 48 symbols and one for each of 36 pairs. The first table has a row, the second two numbers, for each of 48 rows;
-- the longest sheet has 917 bytes.
abbrev pub WidthsAre : Type 0
WidthsAre =
    (max_inputs ∷ max_steps ∷ max_rows ∷ symbols ∷ pairs ∷ row_width ∷ table_numbers ∷ ranges_numbers ∷ longest_sheet ∷ [])
    ≡ (8 ∷ 40 ∷ 48 ∷ 48 ∷ 36 ∷ 85 ∷ 4080 ∷ 96 ∷ 917 ∷ [])

-- The pair at index k, its symbols counted from 1.
unfoldable pub pair_at : ℕ → List ℕ
pair_at k = suc (first_of k) ∷ suc (second_of k) ∷ []

-- The pairs begin with (1,1) and (1,2); behind (1,8) comes (2,2), and the last are (7,8) and (8,8).
abbrev pub PairsInOrder : Type 0
PairsInOrder = map pair_at (0 ∷ 1 ∷ 7 ∷ 8 ∷ 34 ∷ 35 ∷ []) ≡ ((1 ∷ 1 ∷ []) ∷ (1 ∷ 2 ∷ []) ∷ (1 ∷ 8 ∷ []) ∷ (2 ∷ 2 ∷ []) ∷ (7 ∷ 8 ∷ []) ∷ (8 ∷ 8 ∷ []) ∷ [])

-- Inputs 7 and 8 from 0 to 2, multiplied: the coefficient of the pair (7,8), the last but one, is 1.
abbrev pub LastInputsMeet : Type 0
LastInputsMeet = at (product_row paired paired (input_row (paired - 2) (pos 0) (pos 8192)) (input_row (paired - 1) (pos 0) (pos 8192))).pair (pairs - 2) ≡ pos 4096
