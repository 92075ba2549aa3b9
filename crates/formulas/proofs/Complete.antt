-- A text of the grammar is read as its tree.
use mathlib.Core.Path.{◌≡◌, refl, sym, ap, ◌∙◌}
use mathlib.Core.Logic.{inr}
use mathlib.Core.List.{List, [], ◌∷◌, ◌++◌, append_assoc, append-nil}
use Prim.Native.Nat.{ℕ, zero, suc, ◌+◌, ◌≤◌, ◌<◌}
use native.Mathlib.Nat.{add-suc}
use native.Mathlib.Numerals.{add-one}
use native.Mathlib.Omega.{arith}
use borrow.Author.Tests.{lt-ltb, ne_eqb}
use lib.Dec.{lit≤}
use lib.ListN.{length, get_or}
use Rattle.sheet.specs.Number.{digit_of}
use Rattle.formulas.specs.Limits.{max_nesting}
use Rattle.formulas.specs.Grammar.{Tree, letter, literal, binary, byte_of, rank_of, Numeral, Text, letter_text, literal_text, brackets, alone, joined, Formula}
use Rattle.formulas.specs.Reading.{token_of, Open, fresh, State, wanting, counting, holding, open_by, next, tree, follow, reading, start}
use Rattle.formulas.specs.declared.Sign.{Sign}
use Rattle.formulas.specs.declared.Token.{Token}
use Rattle.formulas.proofs.Numerals.{through_digits}
use Rattle.formulas.proofs.Positions.{open_product, open_sum, literal_ends}
use Rattle.formulas.proofs.Places.{end_joined, end_brackets}
use Rattle.formulas.proofs.ByteTokens.{sign_no_digit, token_digit, token_letter, token_sign, token_opening, token_closing}

module _ (inputs : ℕ) where
  reads : (place : ℕ) (u : State) (b : ℕ) (bs : List ℕ) {k : Token} → token_of inputs b ≡ k
      → reading inputs place u (b ∷ bs) ≡ follow place (next u k) (λ w. reading inputs (suc place) w bs)
  unfolding reading
  reads place u b bs e = ap (λ x. follow place (next u x) (λ w. reading inputs (suc place) w bs)) e

  -- a literal is read to its end
  digits_read : {s : List ℕ} {v : ℕ} → Numeral s v → (o : Open) (around : List Open) (place : ℕ) (rest : List ℕ)
      → reading inputs place (wanting o around) (s ++ rest) ≡ reading inputs (place + length s) (counting o around v) rest
  digits_read x o around place =
      through_digits (reading inputs place (wanting o around)) (λ n v. reading inputs (place + n) (counting o around v))
      (λ d rest h. rw add-one (reads place (wanting o around) (48 + d) rest (token_digit inputs d h)))
      (λ n v d rest h l.
      rw add-suc (reads (place + n) (counting o around v) (48 + d) rest (token_digit inputs d l) ∙ rw (ne_eqb v 0 (omega arith))))
      x

  -- How a text of a rank is read where no digit follows: an operand behind anything open, a product behind an open sum, a sum where nothing is open.
  abbrev Runs : (rank nesting : ℕ) → List ℕ → Tree → Type 0
  Runs zero k s t =
      (o : Open) (around : List Open) (place : ℕ) (rest : List ℕ) → length around + k ≤ max_nesting → 10 ≤ digit_of (get_or rest 0 0)
      → reading inputs place (wanting o around) (s ++ rest) ≡ reading inputs (place + length s) (holding o.sum around (o.product t)) rest
  Runs (suc zero) k s t =
      (f : Tree → Tree) (around : List Open) (place : ℕ) (rest : List ℕ) → length around + k ≤ max_nesting → 10 ≤ digit_of (get_or rest 0 0)
      → reading inputs place (wanting (record { sum = f; product = λ p. p }) around) (s ++ rest)
      ≡ reading inputs (place + length s) (holding f around t) rest
  Runs (suc (suc zero)) k s t =
      (around : List Open) (place : ℕ) (rest : List ℕ) → length around + k ≤ max_nesting → 10 ≤ digit_of (get_or rest 0 0)
      → (f : Tree → Tree) × (p : Tree) × (f p ≡ t)
      × (reading inputs place (wanting fresh around) (s ++ rest) ≡ reading inputs (place + length s) (holding f around p) rest)
  Runs (suc (suc (suc r))) k s t = Unit {0}

  letter_runs : (k i : ℕ) → i < inputs → Runs 0 k ((97 + i) ∷ []) (letter i)
  letter_runs k i h o around place rest fits behind = rw add-one (reads place (wanting o around) (97 + i) rest (token_letter inputs i h))

  literal_runs : (k v : ℕ) (s : List ℕ) → Numeral s v → Runs 0 k s (literal v)
  literal_runs k v s n o around place rest fits behind =
      digits_read n o around place rest ∙ literal_ends inputs (place + length s) o around v rest (inr behind)

  brackets_run : (k : ℕ) (s : List ℕ) (t : Tree) → Runs 2 k s t → Runs 0 (suc k) (40 ∷ (s ++ (41 ∷ []))) t
  brackets_run k s t run o around place rest fits behind =
      let inner = run (o ∷ around) (suc place) (41 ∷ rest) (omega arith) (lit≤ tt) in
      rw (append_assoc s (41 ∷ []) rest, end_brackets place s, ← inner.2)
      (reads place (wanting o around) 40 (s ++ (41 ∷ rest)) (token_opening inputs)
      ∙ rw (lt-ltb (length around) max_nesting (omega arith))
      (inner.3 ∙ reads (suc place + length s) (holding inner.0 (o ∷ around) inner.1) 41 rest (token_closing inputs)))

  alone_runs : (r k : ℕ) (s : List ℕ) (t : Tree) → Runs r k s t → Runs (suc r) k s t
  alone_runs zero k s t run = λ f. run (record { sum = f; product = λ p. p })
  alone_runs (suc zero) k s t run = λ around place rest fits behind. (λ p. p, t, refl, run (λ p. p) around place rest fits behind)
  alone_runs (suc (suc r)) k s t run = tt

  -- the left of a sign, the sign and its right are read one after another
  sign_between : (s s' : List ℕ) (g : Sign) (u w : State) (f : Tree → Tree) (around : List Open) (p : Tree) (o : Open) (place : ℕ) (rest : List ℕ)
      → open_by g f p ≡ o
      → reading inputs place u (s ++ (byte_of g ∷ (s' ++ rest))) ≡ reading inputs (place + length s) (holding f around p) (byte_of g ∷ (s' ++ rest))
      → reading inputs (suc (place + length s)) (wanting o around) (s' ++ rest) ≡ reading inputs (suc (place + length s) + length s') w rest
      → reading inputs place u ((s ++ (byte_of g ∷ s')) ++ rest) ≡ reading inputs (place + length (s ++ (byte_of g ∷ s'))) w rest
  sign_between s s' g u w f around p o place rest e left right =
      rw (append_assoc s (byte_of g ∷ s') rest, end_joined place s (byte_of g) s')
      (left ∙ reads (place + length s) (holding f around p) (byte_of g) (s' ++ rest) (token_sign inputs g) ∙ rw e right)

  joined_runs : (r k : ℕ) (s s' : List ℕ) (t t' : Tree) (g : Sign) → rank_of g ≡ suc r → Runs (suc r) k s t → Runs r k s' t'
      → Runs (suc r) k (s ++ (byte_of g ∷ s')) (binary g t t')
  joined_runs zero k s s' t t' g e left right = λ f around place rest fits behind.
      let o : Open = record { sum = f; product = binary g t } in
      sign_between s s' g _ _ f around t o place rest (open_product g f t e)
      (left f around place (byte_of g ∷ (s' ++ rest)) fits (sign_no_digit g))
      (right o around (suc (place + length s)) rest fits behind)
  joined_runs (suc zero) k s s' t t' g e left right = λ around place rest fits behind.
      let l = left around place (byte_of g ∷ (s' ++ rest)) fits (sign_no_digit g) in
      let f : Tree → Tree = binary g (l.0 l.1) in (
        f,
        t',
        ap (λ x. binary g x t') l.2,
        sign_between s s' g _ _ l.0 around l.1 (record { sum = f; product = λ p. p }) place rest (open_sum g l.0 l.1 e) l.3
            (right f around (suc (place + length s)) rest fits behind),
      )
  joined_runs (suc (suc r)) k s s' t t' g e left right = tt

  runs : {r k : ℕ} {s : List ℕ} {t : Tree} → Text inputs r k s t → Runs r k s t
  runs (letter_text {k} {i} h) = letter_runs k i h
  runs (literal_text {k} {v} {s} n) = literal_runs k v s n
  runs (brackets {k} {s} {t} x) = brackets_run k s t (runs x)
  runs (alone {r} {k} {s} {t} x) = alone_runs r k s t (runs x)
  runs (joined {r} {k} {s} {s'} {t} {t'} g e x y) = joined_runs r k s s' t t' g e (runs x) (runs y)

  pub formula_read : (s : List ℕ) (t : Tree) → Formula inputs s t → reading inputs 1 start s ≡ tree t
  unfolding reading
  formula_read s t x =
      let whole = runs x [] 1 [] (lit≤ tt) (lit≤ tt) in
      ap (reading inputs 1 start) (sym (append-nil s)) ∙ whole.3 ∙ ap tree whole.2
