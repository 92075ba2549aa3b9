-- On what each number of a product depends: "for accepted multiplies at one step, under one count of squares: where their operands, first with first
-- and second with second, agree in the numbers that 01 names for a total, the results agree in the number made from it, the own coefficient aside".
use Rattle.std.specs.Prelude.{◌≡◌, ◌≢◌, List, [], ◌∷◌, ℕ, ℤ}
use Rattle.affine.specs.declared.Row.{Row}
use Rattle.affine.specs.Answer.{Accepted}
use Rattle.affine.specs.Lists.{pick, at}
use Rattle.affine.specs.PairOrder.{first_of, second_of, in_use}
use Rattle.affine.specs.Product.{product}

-- where a number of a row stands, and with it the total that a product's number there is made from: the centre, symbol i, the pair at index k
pub data Place : Type 0 where
  centre : Place
  symbol : ℕ → Place
  pair : ℕ → Place

abbrev pub number_at : Row → Place → ℤ
number_at r centre = r.centre
number_at r (symbol i) = at r.linear i
number_at r (pair k) = at r.pair k

-- the numbers that are named for a total: "centre cd; for symbol i, c times the second's coefficient plus d times the first's; for each pair in use,
-- c and d times the pair coefficients crosswise, plus the linear products that meet in that pair"
unfoldable pub named : ℕ → Place → List Place
named squares centre = centre ∷ []
named squares (symbol i) = centre ∷ symbol i ∷ []
named squares (pair k) = pick (in_use squares k) (centre ∷ pair k ∷ symbol (first_of k) ∷ symbol (second_of k) ∷ []) []

-- two rows agree in the numbers at these places
unfoldable pub AgreeAt : List Place → Row → Row → Type 0
AgreeAt [] x y = Unit {0}
AgreeAt (p ∷ ps) x y = (number_at x p ≡ number_at y p) × AgreeAt ps x y

-- Of the row that was made of x and y, under a count of squares and with a symbol of its own: any other two rows whose product under these is accepted, and that agree
-- with x and y in the numbers that are named for a total, have the same number made from that total. The own coefficient is aside: all numbers make it.
abbrev pub NumbersAgree : ℕ → ℕ → Row → Row → Row → Type 0
NumbersAgree squares own x y made =
    (x' y' : Row) → (product squares own x' y').status ≡ Accepted
    → (p : Place) → p ≢ symbol own → AgreeAt (named squares p) x x' → AgreeAt (named squares p) y y'
    → number_at made p ≡ number_at (product squares own x' y').row p

-- The claim, of any rows, count of squares and own symbol; what `multiply` makes, its contract says.
abbrev pub ProductsAgree : Type 0
ProductsAgree =
    (squares own : ℕ) (x y : Row) → (product squares own x y).status ≡ Accepted → NumbersAgree squares own x y (product squares own x y).row
