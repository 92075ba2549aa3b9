-- "A row" (manual, sections 5.1 and 5.3): its numbers, its span, its range.
use Rattle.std.specs.Prelude.{Bool, true, false, List, [], ◌∷◌, ◌++◌, ◌≡◌, ℕ, suc, ◌+◌, ◌≤◌, leb, ℤ, pos, negsuc, nat_abs, ◌+ℤ◌, ◌-ℤ◌}
use Rattle.integer.specs.Sum.{sum_abs}
use Rattle.affine.specs.declared.Row.{Row}
use Rattle.affine.specs.declared.Range.{Range}
use Rattle.affine.specs.Limits.{pairs, span_limit}
use Rattle.affine.specs.Lists.{pick, at, tabulate, sum, equal}
use Rattle.affine.specs.PairOrder.{is_square}

-- "a row has 85 numbers: centre, 48 linear, 36 pairs in the same manner"; linear coefficients are "for noise symbols 1 to .."
abbrev pub numbers : Row → List ℤ
numbers r = r.centre ∷ (r.linear ++ r.pair)

-- "Span: the sum of the absolute values of all .. numbers." (The field's term: the sum of the centre's magnitude and the radius.)
unfoldable pub span : Row → ℕ
span r = sum_abs (numbers r)

-- "all linear and pair absolutes" of a row (the field's term: its radius)
unfoldable pub radius : Row → ℕ
radius r = sum_abs r.linear + sum_abs r.pair

-- "It is at most 1,073,741,824 in an accepted row."
abbrev pub within_span : Row → Bool
within_span r = leb (span r) span_limit

-- How far the term of a pair goes below 0, and above it. Of a pair (i,i), whose product lies from 0 to 1: "every negative coefficient",
-- and in the mirror "the positive ones". Of a pair of different symbols: the absolute coefficient.
unfoldable pub pair_below : Bool → ℤ → ℕ
pair_below true (pos n) = 0
pair_below true (negsuc n) = suc n
pair_below false z = nat_abs z

unfoldable pub pair_above : Bool → ℤ → ℕ
pair_above true (pos n) = n
pair_above true (negsuc n) = 0
pair_above false z = nat_abs z

-- An accepted comparison calls two rows the same "exactly when all their numbers agree".
unfoldable pub agree : List ℤ → List ℤ → Bool
agree [] [] = true
agree [] (y ∷ ys) = false
agree (x ∷ xs) [] = false
agree (x ∷ xs) (y ∷ ys) = pick (equal x y) (agree xs ys) false

abbrev pub same : Row → Row → Bool
same x y = agree (numbers x) (numbers y)

unfoldable pub pairs_below : List ℤ → ℕ
pairs_below p = sum (tabulate pairs (λ k. pair_below (is_square k) (at p k)))

unfoldable pub pairs_above : List ℤ → ℕ
pairs_above p = sum (tabulate pairs (λ k. pair_above (is_square k) (at p k)))

-- "Range, after formula (8) of source document 000: low is the centre, less every absolute linear coefficient, less every absolute
-- coefficient of a pair of different symbols, plus every negative coefficient of a pair (i,i)."
unfoldable pub low : Row → ℤ
low r = r.centre -ℤ pos (sum_abs r.linear + pairs_below r.pair)

-- "High is the mirror of that, with the positive ones."
unfoldable pub high : Row → ℤ
high r = r.centre +ℤ pos (sum_abs r.linear + pairs_above r.pair)

-- both ends: the range of a row's form
abbrev pub form_range : Row → Range
form_range r = record { low = low r; high = high r }

-- ---- what the code asks of the operands of a row (not of the specification): no coefficient of the row's own symbol, or of a later row's
abbrev pub NoneFrom : ℕ → List ℤ → Type 0
NoneFrom own l = (i : ℕ) → own ≤ i → at l i ≡ pos 0
