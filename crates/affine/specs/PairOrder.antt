-- The order of the pairs of a row: "(1,1), (1,2) to .., (2,2) and so on", to the last symbol with itself. Symbols are counted from 0 here.
use Rattle.std.specs.Prelude.{Bool, List, [], ◌∷◌, ◌++◌, ℕ, zero, suc, eqb, ltb, ℤ, pos, get_or}
use Rattle.affine.specs.Limits.{paired, pairs}
use Rattle.affine.specs.Lists.{pick, tabulate}

-- f at the pairs of n symbols: those of the first symbol, with itself and then with each later one, before those of the later symbols
unfoldable pub over_pairs : {A : Type 0} → ℕ → (ℕ → ℕ → A) → List A
over_pairs zero f = []
over_pairs (suc n) f = f 0 0 ∷ (tabulate n (λ j. f 0 (suc j)) ++ over_pairs n (λ i j. f (suc i) (suc j)))

-- the first and the second symbol of each pair, in that order
unfoldable pub firsts : ℕ → List ℕ
firsts n = over_pairs n (λ i j. i)

unfoldable pub seconds : ℕ → List ℕ
seconds n = over_pairs n (λ i j. j)

-- of the pair at index k of a row
abbrev pub first_of : ℕ → ℕ
first_of k = get_or (firsts paired) k 0

abbrev pub second_of : ℕ → ℕ
second_of k = get_or (seconds paired) k 0

-- a pair (i,i)
abbrev pub is_square : ℕ → Bool
is_square k = eqb (first_of k) (second_of k)

-- "Pairs are used only among the first "squares" inputs." The second symbol of a pair is never before its first.
abbrev pub in_use : ℕ → ℕ → Bool
in_use squares k = ltb (second_of k) squares

-- a number for each pair: f of its index where the pair is in use, 0 where it is not
abbrev pub over_used : ℕ → (ℕ → ℤ) → List ℤ
over_used squares f = tabulate pairs (λ k. pick (in_use squares k) (f k) (pos 0))
