-- The formulas, as a grammar: which texts they are, and the tree that each of them is. `Claims.antt` says that a text has one tree.
use Rattle.std.specs.Prelude.{◌≡◌, List, [], ◌∷◌, ◌++◌, ℕ, suc, ◌+◌, ◌*◌, ◌<◌, length}
use Rattle.formulas.specs.Limits.{max_nesting}
use Rattle.formulas.specs.declared.Sign.{Sign}
use Rattle.formulas.specs.declared.Sign.TheVariants.{Plus, Minus, Times, Over}

-- What a formula says: an input's letter (inputs are counted from 0), a literal, or two formulas and the sign between them.
pub data Tree : Type 0 where
  letter : ℕ → Tree
  literal : ℕ → Tree
  binary : Sign → Tree → Tree → Tree

-- "The signs are + - * /": their bytes.
abbrev pub byte_of : Sign → ℕ
byte_of Plus = 43
byte_of Minus = 45
byte_of Times = 42
byte_of Over = 47

-- "products before sums": an operand has rank 0, a product 1, a sum 2; a sign joins what has its rank, on its left, with what has the rank below, on its right.
abbrev pub rank_of : Sign → ℕ
rank_of Times = 1
rank_of Over = 1
rank_of Plus = 2
rank_of Minus = 2

-- "A literal is a sheet's number without minus, of any length": a digit alone, or a literal other than 0 and a digit behind it. With its value.
pub data Numeral : List ℕ → ℕ → Type 0 where
  one_digit : {d : ℕ} → d < 10 → Numeral ((48 + d) ∷ []) d
  one_more : {s : List ℕ} {v d : ℕ} → Numeral s v → 0 < v → d < 10 → Numeral (s ++ ((48 + d) ∷ [])) (v * 10 + d)

-- The texts of a rank over so many inputs, in which brackets nest to so many at most, each with its tree.
pub data Text (inputs : ℕ) : (rank nesting : ℕ) → List ℕ → Tree → Type 0 where
  -- "Letters a to .. are inputs 1 to ..": one for each input; "Formula letters run to h".
  letter_text : {k i : ℕ} → i < inputs → Text inputs 0 k ((97 + i) ∷ []) (letter i)
  literal_text : {k v : ℕ} {s : List ℕ} → Numeral s v → Text inputs 0 k s (literal v)
  -- "and round brackets"
  brackets : {k : ℕ} {s : List ℕ} {t : Tree} → Text inputs 2 k s t → Text inputs 0 (suc k) (40 ∷ (s ++ (41 ∷ []))) t
  alone : {r k : ℕ} {s : List ℕ} {t : Tree} → Text inputs r k s t → Text inputs (suc r) k s t
  -- "equal rank from the left": what stands on the left of a sign may have a sign of its rank itself, what stands on its right has none
  joined : {r k : ℕ} {s s' : List ℕ} {t t' : Tree} (g : Sign) → rank_of g ≡ suc r → Text inputs (suc r) k s t → Text inputs r k s' t'
      → Text inputs (suc r) k (s ++ (byte_of g ∷ s')) (binary g t t')

-- A formula, of any length: a sum in which "brackets nest to 16 at most".
abbrev pub Formula : ℕ → List ℕ → Tree → Type 0
Formula inputs s t = Text inputs 2 max_nesting s t

-- A literal of a formula: the place of its first byte, counted from 1, and its value.
pub record Literal : Type 0 where
  pub place : ℕ
  pub value : ℕ

-- The literals of a text whose first byte has this place, from the left: each stands where the text has a numeral for an operand.
unfoldable pub literals_of : {inputs r k : ℕ} {s : List ℕ} {t : Tree} → ℕ → Text inputs r k s t → List Literal
literals_of place (letter_text h) = []
literals_of place (literal_text {v = v} x) = record { place = place; value = v } ∷ []
literals_of place (brackets x) = literals_of (suc place) x
literals_of place (alone x) = literals_of place x
literals_of place (joined {s = s} g e x y) = literals_of place x ++ literals_of (suc (place + length s)) y
