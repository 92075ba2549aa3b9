-- A formula has one reading.
use mathlib.Core.Path.{◌≡◌, sym, ap, ◌∙◌}
use mathlib.Core.List.{List}
use Prim.Native.Nat.{ℕ}
use Rattle.formulas.specs.Grammar.{Tree, letter, Formula}
use Rattle.formulas.specs.Reading.{Outcome, no_formula, tree}
use Rattle.formulas.proofs.Complete.{formula_read}

-- the tree of an outcome, or any
tree_of : Outcome → Tree
tree_of (no_formula place) = letter place
tree_of (tree t) = t

pub one_reading : (inputs : ℕ) (s : List ℕ) (t u : Tree) → Formula inputs s t → Formula inputs s u → t ≡ u
unfolding tree_of
one_reading inputs s t u x y = ap tree_of (sym (formula_read inputs s t x) ∙ formula_read inputs s u y)
