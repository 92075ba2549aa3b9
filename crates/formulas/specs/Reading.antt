-- Reading a formula byte by byte. `Claims.antt` says that exactly the formulas of `Grammar.antt` are read, each as its tree, and where any other text is refused.
use Rattle.std.specs.Prelude.{List, [], ◌∷◌, ℕ, suc, ◌+◌, ◌*◌, ◌-◌, eqb, ltb, length, take}
use Rattle.sheet.specs.Choice.{pick}
use Rattle.sheet.specs.Number.{digit_of}
use Rattle.formulas.specs.Limits.{max_text, max_nesting}
use Rattle.formulas.specs.Grammar.{Tree, letter, literal, binary}
use Rattle.formulas.specs.declared.Sign.{Sign}
use Rattle.formulas.specs.declared.Sign.TheVariants.{Plus, Minus, Times, Over}
use Rattle.formulas.specs.declared.Token.{Token}
use Rattle.formulas.specs.declared.Token.TheVariants.{Digit, Letter, Operator, Opening, Closing, Other}

-- "Letters a to .. are inputs 1 to ..": the letter of one of so many inputs, or nothing of a formula.
unfoldable pub letter_of : ℕ → ℕ → Token
letter_of inputs b = pick (ltb b 97) Other (pick (ltb (b - 97) inputs) (Letter (b - 97)) Other)

-- "The signs are + - * / and round brackets"
unfoldable pub mark_of : ℕ → ℕ → Token
mark_of inputs b =
    pick (eqb b 40) Opening
    (pick (eqb b 41) Closing
    (pick (eqb b 43) (Operator Plus)
    (pick (eqb b 45) (Operator Minus)
    (pick (eqb b 42) (Operator Times)
    (pick (eqb b 47) (Operator Over) (letter_of inputs b))))))

-- What a byte is: a digit, a bracket, a sign, the letter of one of so many inputs, or nothing of a formula.
unfoldable pub token_of : ℕ → ℕ → Token
token_of inputs b = pick (ltb (digit_of b) 10) (Digit (digit_of b)) (mark_of inputs b)

-- What stands open on the left of an operand within its brackets: what the sum so far makes of the product that comes, and the product so far of the operand.
pub record Open : Type 0 where
  pub sum : Tree → Tree
  pub product : Tree → Tree

abbrev pub fresh : Open
fresh = record { sum = λ t. t; product = λ t. t }

-- Where the reading stands: an operand must come; or a literal of this value may go on; or a product has been read. Beside each, what stands open within these
-- brackets and in those around them.
pub data State : Type 0 where
  wanting : Open → List Open → State
  counting : Open → List Open → ℕ → State
  holding : (Tree → Tree) → List Open → Tree → State

pub data Next : Type 0 where
  broken : Next
  going : State → Next

abbrev pub after_wanting : Open → List Open → Token → Next
after_wanting o around (Digit d) = going (counting o around d)
after_wanting o around (Letter i) = going (holding o.sum around (o.product (letter i)))
after_wanting o around (Operator g) = broken
after_wanting o around Opening = pick (ltb (length around) max_nesting) (going (wanting fresh (o ∷ around))) broken
after_wanting o around Closing = broken
after_wanting o around Other = broken

-- a sign behind a product: the product goes on, or it ends and the sum goes on
abbrev pub open_by : Sign → (Tree → Tree) → Tree → Open
open_by Plus sum p = record { sum = binary Plus (sum p); product = λ t. t }
open_by Minus sum p = record { sum = binary Minus (sum p); product = λ t. t }
open_by Times sum p = record { sum = sum; product = binary Times p }
open_by Over sum p = record { sum = sum; product = binary Over p }

-- what stands in brackets is an operand of what stands around them
abbrev pub closed : (Tree → Tree) → List Open → Tree → Next
closed sum [] p = broken
closed sum (o ∷ around) p = going (holding o.sum around (o.product (sum p)))

abbrev pub after_holding : (Tree → Tree) → List Open → Tree → Token → Next
after_holding sum around p (Digit d) = broken
after_holding sum around p (Letter i) = broken
after_holding sum around p (Operator g) = going (wanting (open_by g sum p) around)
after_holding sum around p Opening = broken
after_holding sum around p Closing = closed sum around p
after_holding sum around p Other = broken

-- "no leading zero except 0 itself"
abbrev pub after_counting : Open → List Open → ℕ → Token → Next
after_counting o around v (Digit d) = pick (eqb v 0) broken (going (counting o around (v * 10 + d)))
after_counting o around v (Letter i) = broken
after_counting o around v (Operator g) = after_holding o.sum around (o.product (literal v)) (Operator g)
after_counting o around v Opening = broken
after_counting o around v Closing = after_holding o.sum around (o.product (literal v)) Closing
after_counting o around v Other = broken

abbrev pub next : State → Token → Next
next (wanting o around) k = after_wanting o around k
next (counting o around v) k = after_counting o around v k
next (holding sum around p) k = after_holding sum around p k

-- A text that is no formula, with the place of the byte that shows it, or a formula's tree.
pub data Outcome : Type 0 where
  no_formula : ℕ → Outcome
  tree : Tree → Outcome

-- the text ends before the byte of this place
abbrev pub ended : ℕ → (Tree → Tree) → List Open → Tree → Outcome
ended place sum [] p = tree (sum p)
ended place sum (o ∷ around) p = no_formula place

abbrev pub ending : ℕ → State → Outcome
ending place (wanting o around) = no_formula place
ending place (counting o around v) = ended place o.sum around (o.product (literal v))
ending place (holding sum around p) = ended place sum around p

-- a byte that no formula has here ends the reading
abbrev pub follow : ℕ → Next → (State → Outcome) → Outcome
follow place broken go = no_formula place
follow place (going s) go = go s

-- Reading the bytes from a place on.
unfoldable pub reading : ℕ → ℕ → State → List ℕ → Outcome
reading inputs place s [] = ending place s
reading inputs place s (b ∷ bs) = follow place (next s (token_of inputs b)) (λ u. reading inputs (suc place) u bs)

abbrev pub start : State
start = wanting fresh []

-- "201 where a longer one has no such byte in its first 200"
abbrev pub too_long : Outcome → Outcome
too_long (no_formula place) = no_formula place
too_long (tree t) = no_formula (suc max_text)

-- Reading a text as a formula over so many inputs: "a formula has at most 200 bytes". "Place counts bytes from 1."
unfoldable pub formula_of : ℕ → List ℕ → Outcome
formula_of inputs s = pick (ltb max_text (length s)) (too_long (reading inputs 1 start (take max_text s))) (reading inputs 1 start s)
