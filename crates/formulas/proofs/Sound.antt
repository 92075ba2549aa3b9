-- What is read as a formula is one: each state of the reading says how the bytes so far stand in the grammar, and each byte keeps that.
use mathlib.Core.Path.{◌≡◌, refl, ap, ◌∙◌}
use mathlib.Core.List.{List, [], ◌∷◌, ◌++◌, append_assoc, append-nil}
use Prim.Native.Nat.{ℕ, zero, suc, ◌+◌, ◌*◌, ◌<◌}
use native.Mathlib.Omega.{arith}
use borrow.Author.Tests.{eqb-false, ltb-true}
use lib.Dec.{eqb, ltb}
use lib.ListN.{length, length-append}
use lib.Seq.{append_snoc}
use Rattle.sheet.proofs.Choice.{pick_elim}
use Rattle.formulas.specs.Limits.{max_nesting}
use Rattle.formulas.specs.Grammar.{Tree, binary, byte_of, rank_of, Numeral, one_digit, one_more, Text, letter_text, literal_text, brackets, alone, joined, Formula}
use Rattle.formulas.specs.Reading.{Open, fresh, State, wanting, counting, holding, Next, broken, going, open_by, closed, next, Outcome, no_formula, tree, ended, ending, follow, reading, start, token_of}
use Rattle.formulas.specs.declared.Sign.{Sign}
use Rattle.formulas.specs.declared.Sign.TheVariants.{Plus, Minus, Times, Over}
use Rattle.formulas.specs.declared.Token.{Token}
use Rattle.formulas.proofs.ByteTokens.{TokenByte, digit_byte, letter_byte, operator_byte, opening_byte, closing_byte, other_byte, token_byte}

-- ---- what the bytes so far are

-- a product behind the text v makes a sum
pub record SumFront (inputs k : ℕ) (f : Tree → Tree) (v : List ℕ) : Type 0 where
  pub before : {w : List ℕ} {p : Tree} → Text inputs 1 k w p → Text inputs 2 k (v ++ w) (f p)

-- an operand behind the text w makes a product
pub record ProductFront (inputs k : ℕ) (g : Tree → Tree) (w : List ℕ) : Type 0 where
  pub before : {x : List ℕ} {t : Tree} → Text inputs 0 k x t → Text inputs 1 k (w ++ x) (g t)

-- the text before a sum and product that stand open: of the brackets around them, where k more may nest
pub data Around (inputs : ℕ) : ℕ → List Open → List ℕ → Type 0 where
  outside : Around inputs max_nesting [] []
  bracket : {k : ℕ} {o : Open} {around : List Open} {u v w : List ℕ} → Around inputs (suc k) around u
      → SumFront inputs (suc k) o.sum v → ProductFront inputs (suc k) o.product w
      → Around inputs k (o ∷ around) (u ++ (v ++ (w ++ (40 ∷ []))))

-- the whole text before a state
pub data Holds (inputs : ℕ) : State → List ℕ → Type 0 where
  wants : {k : ℕ} {o : Open} {around : List Open} {u v w : List ℕ} → Around inputs k around u
      → SumFront inputs k o.sum v → ProductFront inputs k o.product w → Holds inputs (wanting o around) (u ++ (v ++ w))
  counts : {k n : ℕ} {o : Open} {around : List Open} {u v w s : List ℕ} → Around inputs k around u
      → SumFront inputs k o.sum v → ProductFront inputs k o.product w → Numeral s n
      → Holds inputs (counting o around n) (u ++ (v ++ (w ++ s)))
  holds : {k : ℕ} {sum : Tree → Tree} {around : List Open} {p : Tree} {u v w : List ℕ} → Around inputs k around u
      → SumFront inputs k sum v → Text inputs 1 k w p → Holds inputs (holding sum around p) (u ++ (v ++ w))

-- and before what comes of a state and a byte
abbrev HoldsNext : ℕ → Next → List ℕ → Type 0
HoldsNext inputs broken u = Unit {0}
HoldsNext inputs (going s) u = Holds inputs s u

-- a text that is read as a tree is a formula
abbrev IsFormula : ℕ → List ℕ → Outcome → Type 0
IsFormula inputs s (no_formula place) = Unit {0}
IsFormula inputs s (tree t) = Formula inputs s t

module _ {inputs : ℕ} where
  -- how many brackets may still nest
  nesting : {k : ℕ} {around : List Open} {u : List ℕ} → Around inputs k around u → length around + k ≡ max_nesting
  nesting outside = refl
  nesting (bracket {k = k} {around = around} a f g) = omega (arith, nesting a)

  -- nothing stands open
  no_sum : {k : ℕ} → SumFront inputs k (λ t. t) []
  no_sum = record { before = alone }

  no_product : {k : ℕ} → ProductFront inputs k (λ t. t) []
  no_product = record { before = alone }

  -- ---- a byte more

  -- a sign behind a product: the sum so far, or the product so far, becomes its left operand
  sum_goes_on : {k : ℕ} {f : Tree → Tree} {p : Tree} {v w : List ℕ} (g : Sign) → rank_of g ≡ 2 → SumFront inputs k f v → Text inputs 1 k w p
      → SumFront inputs k (binary g (f p)) (v ++ (w ++ (byte_of g ∷ [])))
  sum_goes_on g e f h = record { before = λ h'. simp append_assoc (simp append_assoc at (joined g e (f.before h) h')) }

  product_goes_on : {k : ℕ} {p : Tree} {w : List ℕ} (g : Sign) → rank_of g ≡ 1 → Text inputs 1 k w p
      → ProductFront inputs k (binary g p) (w ++ (byte_of g ∷ []))
  product_goes_on g e h = record { before = λ h'. simp append_assoc (joined g e h h') }

  operator_holds : {k : ℕ} {sum : Tree → Tree} {around : List Open} {p : Tree} {u v w : List ℕ} (g : Sign) → Around inputs k around u
      → SumFront inputs k sum v → Text inputs 1 k w p → Holds inputs (wanting (open_by g sum p) around) (u ++ (v ++ w) ++ (byte_of g ∷ []))
  operator_holds Plus a f h = simp append_assoc (simp append-nil at (wants a (sum_goes_on Plus refl f h) no_product))
  operator_holds Minus a f h = simp append_assoc (simp append-nil at (wants a (sum_goes_on Minus refl f h) no_product))
  operator_holds Times a f h = simp append_assoc (wants a f (product_goes_on Times refl h))
  operator_holds Over a f h = simp append_assoc (wants a f (product_goes_on Over refl h))

  closing_holds : {k : ℕ} {sum : Tree → Tree} {around : List Open} {p : Tree} {u v w : List ℕ} → Around inputs k around u
      → SumFront inputs k sum v → Text inputs 1 k w p → HoldsNext inputs (closed sum around p) (u ++ (v ++ w) ++ (41 ∷ []))
  closing_holds outside f h = tt
  closing_holds (bracket a f g) f' h = simp append_assoc (simp append_assoc at (holds a f (g.before (brackets (f'.before h)))))

  opening_holds : {k : ℕ} {o : Open} {around : List Open} {u v w : List ℕ} → length around < max_nesting → Around inputs k around u
      → SumFront inputs k o.sum v → ProductFront inputs k o.product w → Holds inputs (wanting fresh (o ∷ around)) (u ++ (v ++ w) ++ (40 ∷ []))
  opening_holds {k = zero} l a f g = absurd (omega (arith, nesting a))
  opening_holds {k = suc k} l a f g = simp append_assoc (simp append-nil at (wants (bracket a f g) no_sum no_product))

  digit_holds : {k n d : ℕ} {o : Open} {around : List Open} {u v w s : List ℕ} → 0 < n → d < 10 → Around inputs k around u
      → SumFront inputs k o.sum v → ProductFront inputs k o.product w → Numeral s n
      → Holds inputs (counting o around (n * 10 + d)) (u ++ (v ++ (w ++ s)) ++ ((48 + d) ∷ []))
  digit_holds l d a f g n = simp append_assoc (counts a f g (one_more n l d))

  next_holds : {s : State} {u : List ℕ} {b : ℕ} {k : Token} → Holds inputs s u → TokenByte inputs b k → HoldsNext inputs (next s k) (u ++ (b ∷ []))
  next_holds (wants a f g) (digit_byte d) = simp append_assoc (counts a f g (one_digit d))
  next_holds (wants a f g) (letter_byte i) = simp append_assoc (holds a f (g.before (letter_text i)))
  next_holds (wants a f g) (operator_byte o) = tt
  next_holds (wants {around = around} {u = u} {v = v} {w = w} a f g) opening_byte =
      pick_elim (λ (n : Next). HoldsNext inputs n (u ++ (v ++ w) ++ (40 ∷ []))) (ltb (length around) max_nesting) _ _ (λ l. opening_holds (ltb-true (length around) max_nesting l) a f g) (λ _. tt)
  next_holds (wants a f g) closing_byte = tt
  next_holds (wants a f g) other_byte = tt
  next_holds (counts {n = i} {u = u} {v = v} {w = w} {s = s} a f g n) (digit_byte {d = d} l) =
      pick_elim (λ (n : Next). HoldsNext inputs n (u ++ (v ++ (w ++ s)) ++ ((48 + d) ∷ []))) (eqb i 0) _ _ (λ _. tt) (λ e. digit_holds (omega (arith, eqb-false i 0 e)) l a f g n)
  next_holds (counts a f g n) (letter_byte i) = tt
  next_holds (counts a f g n) (operator_byte o) = operator_holds o a f (g.before (literal_text n))
  next_holds (counts a f g n) opening_byte = tt
  next_holds (counts a f g n) closing_byte = closing_holds a f (g.before (literal_text n))
  next_holds (counts a f g n) other_byte = tt
  next_holds (holds a f h) (digit_byte d) = tt
  next_holds (holds a f h) (letter_byte i) = tt
  next_holds (holds a f h) (operator_byte o) = operator_holds o a f h
  next_holds (holds a f h) opening_byte = tt
  next_holds (holds a f h) closing_byte = closing_holds a f h
  next_holds (holds a f h) other_byte = tt

  start_holds : Holds inputs start []
  start_holds = wants outside no_sum no_product

  -- ---- the whole text

  ended_holds : {k : ℕ} {sum : Tree → Tree} {around : List Open} {p : Tree} {u v w : List ℕ} (place : ℕ) → Around inputs k around u
      → SumFront inputs k sum v → Text inputs 1 k w p → IsFormula inputs (u ++ (v ++ w)) (ended place sum around p)
  ended_holds place outside f h = f.before h
  ended_holds place (bracket a f g) f' h = tt

  ending_holds : {s : State} {u : List ℕ} (place : ℕ) → Holds inputs s u → IsFormula inputs u (ending place s)
  ending_holds place (wants a f g) = tt
  ending_holds place (counts a f g n) = ended_holds place a f (g.before (literal_text n))
  ending_holds place (holds a f h) = ended_holds place a f h

-- the reading from a place on stands in the state s behind the bytes u, which are as s says
pub record Reached (inputs place : ℕ) (u : List ℕ) (s : State) : Type 0 where
  pub so_far : Holds inputs s u
  pub goes_on : (rest : List ℕ) → reading inputs place start (u ++ rest) ≡ reading inputs (place + length u) s rest

-- how a reading ends: all bytes are read, or one breaks it
pub data Ends (inputs place : ℕ) (s : List ℕ) : Outcome → Type 0 where
  at_end : {st : State} → Reached inputs place s st → Ends inputs place s (ending (place + length s) st)
  at_byte : (u : List ℕ) (b : ℕ) (rest : List ℕ) {st : State} → s ≡ u ++ (b ∷ rest) → Reached inputs place u st → next st (token_of inputs b) ≡ broken
      → Ends inputs place s (no_formula (place + length u))

module _ (inputs place : ℕ) where
  reached_start : Reached inputs place [] start
  reached_start = record { so_far = start_holds; goes_on = λ rest. ap (λ (n : ℕ). reading inputs n start rest) (omega arith) }

  -- the place behind one byte more
  place_more : (u : List ℕ) (b : ℕ) → place + length (u ++ (b ∷ [])) ≡ suc (place + length u)
  place_more u b = omega (arith, length-append u (b ∷ []))

  reached_more : {u : List ℕ} {st st' : State} (b : ℕ) → Reached inputs place u st → next st (token_of inputs b) ≡ going st' → Reached inputs place (u ++ (b ∷ [])) st'
  unfolding reading
  reached_more {u} {st} {st'} b r e = record {
    so_far = rw e at (next_holds r.so_far (token_byte inputs b));
    goes_on = λ rest. rw (append_snoc u b rest, place_more u b) (r.goes_on (b ∷ rest) ∙ rw e);
  }

  ends : (rest u : List ℕ) (st : State) → Reached inputs place u st → Ends inputs place (u ++ rest) (reading inputs (place + length u) st rest)
  unfolding reading
  ends [] u st r = rw (append-nil u) (at_end r)
  ends (b ∷ rest) u st r = follows (next st (token_of inputs b)) refl (ends rest)
    where
      follows : (n : Next) → next st (token_of inputs b) ≡ n
          → ((u : List ℕ) (st : State) → Reached inputs place u st → Ends inputs place (u ++ rest) (reading inputs (place + length u) st rest))
          → Ends inputs place (u ++ (b ∷ rest)) (follow (place + length u) n (λ st. reading inputs (suc (place + length u)) st rest))
      follows broken e go = at_byte u b rest refl r e
      follows (going st') e go = rw (append_snoc u b rest, place_more u b) at (go (u ++ (b ∷ [])) st' (reached_more b r e))

  pub reading_ends : (s : List ℕ) → Ends inputs place s (reading inputs place start s)
  reading_ends s = rw (reached_start.goes_on s) (ends s [] start reached_start)

  ends_formula : {s : List ℕ} {o : Outcome} → Ends inputs place s o → IsFormula inputs s o
  ends_formula {s} (at_end r) = ending_holds (place + length s) r.so_far
  ends_formula (at_byte u b rest e r q) = tt

pub read_sound : (inputs place : ℕ) (s : List ℕ) (t : Tree) → reading inputs place start s ≡ tree t → Formula inputs s t
read_sound inputs place s t e = rw e at (ends_formula inputs place (reading_ends inputs place s))
