-- Each number of a product is made from the numbers that are named for its total: products of operands that agree in those agree in it.
use mathlib.Core.Path.{◌≡◌, refl, ap, sym, subst}
use mathlib.Core.Logic.{◌≢◌}
use mathlib.Core.Bool.{Bool, true, false}
use mathlib.Core.List.{List, [], map}
use Prim.Native.Nat.{ℕ, zero, suc}
use lib.IntN.{ℤ, pos}
use lib.Seq.{get_or-set_other}
use Rattle.std.specs.Prelude.{Result, Ok, Err, IfOk}
use Rattle.affine.specs.declared.Made.{Made}
use Rattle.affine.specs.declared.NoRow.{NoRow}
use Rattle.affine.specs.declared.Row.{Row}
use Rattle.affine.specs.Answer.{Answer, Accepted}
use Rattle.affine.specs.Limits.{symbols, pairs}
use Rattle.affine.specs.Lists.{pick, at, tabulate}
use Rattle.affine.specs.PairOrder.{in_use}
use Rattle.affine.specs.Row.{form_range}
use Rattle.affine.specs.Steps.{checked}
use Rattle.affine.specs.Told.{answer_of}
use Rattle.affine.specs.Product.{linear_totals, pair_totals, product_row, product}
use Rattle.affine.specs.Agreement.{Place, centre, symbol, pair, number_at, named, AgreeAt, NumbersAgree, ProductsAgree}
use Rattle.affine.proofs.Answers.{checked_accepted}

-- the row of an accepted answer is the row that was tested
accepted_row_lem : (r : Row) → (checked r).status ≡ Accepted → (checked r).row ≡ r
accepted_row_lem r e = ap (λ a. a.row) (checked_accepted r (form_range r) e)

-- the number at index i of a list that is tabulated and then mapped comes from the function's value at i alone
at_mapped : (q : ℤ → ℤ) (n : ℕ) (f g : ℕ → ℤ) (i : ℕ) → f i ≡ g i → at (map q (tabulate n f)) i ≡ at (map q (tabulate n g)) i
unfolding tabulate
at_mapped q zero f g i e = refl
at_mapped q (suc n) f g zero e = ap q e
at_mapped q (suc n) f g (suc i) e = at_mapped q n (λ i. f (suc i)) (λ i. g (suc i)) i e

module _ (x y x' y' : Row) where
  -- a total that is chosen by a test, with 0 for the others: of those nothing has to agree
  chosen_agree : (t : Bool) (ps : List Place) {a b : ℤ} → (AgreeAt ps x x' → AgreeAt ps y y' → a ≡ b)
      → AgreeAt (pick t ps []) x x' → AgreeAt (pick t ps []) y y' → pick t a (pos 0) ≡ pick t b (pos 0)
  chosen_agree true ps f h k = f h k
  chosen_agree false ps f h k = refl

  -- before the test of the span
  rows_agree : (squares own : ℕ) (p : Place) → p ≢ symbol own → AgreeAt (named squares p) x x' → AgreeAt (named squares p) y y'
      → number_at (product_row squares own x y) p ≡ number_at (product_row squares own x' y') p
  unfolding product_row linear_totals pair_totals named AgreeAt
  rows_agree squares own centre d h h' = cc
  rows_agree squares own (symbol i) d h h' =
      let other : i ≢ own = λ e. d (ap symbol e) in
      simp get_or-set_other (at_mapped _ symbols _ _ i (cc))
  rows_agree squares own (pair k) d h h' = at_mapped _ pairs _ _ k (chosen_agree (in_use squares k) _ (λ h h'. cc) h h')

-- of any two accepted products
pub products_agree : ProductsAgree
products_agree squares own x y s =
    λ x' y' s' p d h h'.
    rw (accepted_row_lem (product_row squares own x y) s, accepted_row_lem (product_row squares own x' y') s') (rows_agree x y x' y' squares own p d h h')

-- of a result that tells the product's answer
pub numbers_agree : (squares own : ℕ) (x y : Row) (a : Result Made NoRow) → answer_of a ≡ product squares own x y
    → IfOk a (λ made. NumbersAgree squares own x y made.row)
numbers_agree squares own x y (Ok m) e =
    subst (NumbersAgree squares own x y) (ap (λ (b : Answer). b.row) (sym e)) (products_agree squares own x y (ap (λ (b : Answer). b.status) (sym e)))
numbers_agree squares own x y (Err w) e = tt
