-- Every state of the reading stands behind the beginning of a formula, and behind a byte that breaks it no formula goes on.
use mathlib.Core.Path.{◌≡◌, sym, ◌∙◌, subst}
use mathlib.Core.List.{List, [], ◌∷◌, ◌++◌, append_assoc, append-nil}
use Prim.Native.Nat.{ℕ, ◌+◌, ◌<◌}
use lib.ListN.{length}
use lib.Seq.{append_snoc}
use Rattle.formulas.specs.Grammar.{Tree, Text, letter_text, literal_text, brackets, Formula}
use Rattle.formulas.specs.Reading.{Open, State, broken, next, Outcome, no_formula, tree, reading, start, token_of}
use Rattle.formulas.specs.Claims.{Begins}
use Rattle.formulas.proofs.Complete.{formula_read}
use Rattle.formulas.proofs.Sound.{Around, outside, bracket, Holds, wants, counts, holds, Reached}

-- the beginning of a text that begins a formula begins it too
pub begins_shorter : (inputs : ℕ) (s x : List ℕ) → Begins inputs (s ++ x) → Begins inputs s
begins_shorter inputs s x (rest, t, f) = (x ++ rest, t, rw (append_assoc s x rest) at f)

module _ {inputs : ℕ} where
  -- behind a sum come the closing brackets
  closes : {k : ℕ} {around : List Open} {u x : List ℕ} {t : Tree} → Around inputs k around u → Text inputs 2 k x t → Begins inputs (u ++ x)
  closes {x = x} {t = t} outside h = ([], t, rw (append-nil x) h)
  closes {x = x} (bracket {u = u} {v = v} {w = w} a f g) h =
      begins_shorter inputs (u ++ (v ++ (w ++ (40 ∷ []))) ++ x) (41 ∷ []) (simp append_assoc (simp append_assoc at (closes a (f.before (g.before (brackets h))))))

  -- where an operand must come, the first letter may
  holds_begins : {s : State} {u : List ℕ} → 0 < inputs → Holds inputs s u → Begins inputs u
  holds_begins i (wants {u = u} {v = v} {w = w} a f g) =
      begins_shorter inputs (u ++ (v ++ w)) (97 ∷ []) (simp append_assoc (simp append_assoc at (closes a (f.before (g.before (letter_text i))))))
  holds_begins i (counts a f g n) = closes a (f.before (g.before (literal_text n)))
  holds_begins i (holds a f h) = closes a (f.before h)

pub reached_begins : {inputs place : ℕ} {u : List ℕ} {s : State} → 0 < inputs → Reached inputs place u s → Begins inputs u
reached_begins i r = holds_begins i r.so_far

-- a byte that breaks the reading breaks it whatever follows
stays_broken : {inputs place : ℕ} {u : List ℕ} {s : State} (b : ℕ) → Reached inputs place u s → next s (token_of inputs b) ≡ broken
    → (rest : List ℕ) → reading inputs place start (u ++ (b ∷ rest)) ≡ no_formula (place + length u)
unfolding reading
stays_broken b r e rest = r.goes_on (b ∷ rest) ∙ rw e

abbrev IsTree : Outcome → Type 0
IsTree (no_formula place) = ⊥
IsTree (tree t) = Unit {0}

-- a text of which the reading says no is no formula
pub no_formula_is : {inputs place : ℕ} {s : List ℕ} {t : Tree} → reading inputs 1 start s ≡ no_formula place → ¬ Formula inputs s t
no_formula_is {inputs} {s = s} {t = t} e f = subst IsTree (sym (formula_read inputs s t f) ∙ e) tt

pub broken_begins_none : {inputs : ℕ} {u : List ℕ} {s : State} (b : ℕ) → Reached inputs 1 u s → next s (token_of inputs b) ≡ broken → ¬ Begins inputs (u ++ (b ∷ []))
broken_begins_none {u = u} b r e (rest, t, f) = no_formula_is (stays_broken b r e rest) (rw (append_snoc u b rest) at f)
