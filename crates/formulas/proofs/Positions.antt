-- The reading at a position of the bytes: what a sign opens, where a literal ends, one byte more, a byte that breaks it, the end.
use mathlib.Core.Path.{◌≡◌, refl, sym, ap, subst, ◌∙◌}
use mathlib.Core.Logic.{◌⊎◌, inl, inr}
use mathlib.Core.List.{List, [], ◌∷◌}
use Prim.Native.Nat.{ℕ, suc, ◌≤◌, ◌<◌}
use native.Mathlib.Nat.{add-zero}
use native.Mathlib.Decide.{dec_lt}
use native.Mathlib.Omega.{arith}
use borrow.Author.Tests.{eq-eqb}
use lib.ListN.{length, drop, get_or, length-drop, drop_of_length-le, get_or-eq_default}
use lib.Seq.{drop-cons, get_or-drop}
use Rattle.sheet.specs.Number.{digit_of}
use Rattle.formulas.specs.Grammar.{Tree, literal, binary, rank_of}
use Rattle.formulas.specs.Reading.{Open, State, wanting, counting, holding, Next, broken, going, open_by, after_counting, after_holding, next, no_formula, ending, follow, reading, token_of, mark_of, letter_of}
use Rattle.formulas.specs.declared.Sign.{Sign}
use Rattle.formulas.specs.declared.Sign.TheVariants.{Plus, Minus, Times, Over}
use Rattle.formulas.specs.declared.Token.{Token}
use Rattle.formulas.specs.declared.Token.TheVariants.{Digit, Letter, Operator, Opening, Closing, Other}
use Rattle.formulas.proofs.ByteTokens.{NoDigit, no_digit}

-- what stands open behind a sign, by its rank
pub open_product : (g : Sign) (f : Tree → Tree) (p : Tree) → rank_of g ≡ 1 → open_by g f p ≡ record { sum = f; product = binary g p }
open_product Plus f p e = absurd (omega arith)
open_product Minus f p e = absurd (omega arith)
open_product Times f p e = refl
open_product Over f p e = refl

pub open_sum : (g : Sign) (f : Tree → Tree) (p : Tree) → rank_of g ≡ 2 → open_by g f p ≡ record { sum = binary g (f p); product = λ t. t }
open_sum Plus f p e = refl
open_sum Minus f p e = refl
open_sum Times f p e = absurd (omega arith)
open_sum Over f p e = absurd (omega arith)

-- behind a literal, what is no digit does as behind any operand; behind 0 a digit too
literal_next : (o : Open) (around : List Open) (v : ℕ) (k : Token) → (v ≡ 0) ⊎ NoDigit k
    → after_counting o around v k ≡ after_holding o.sum around (o.product (literal v)) k
literal_next o around v (Digit d) (inl z) = rw (eq-eqb v 0 z)
literal_next o around v (Digit d) (inr h) = absurd h
literal_next o around v (Letter i) h = refl
literal_next o around v (Operator g) h = refl
literal_next o around v Opening h = refl
literal_next o around v Closing h = refl
literal_next o around v Other h = refl

pub literal_ends : (inputs place : ℕ) (o : Open) (around : List Open) (v : ℕ) (rest : List ℕ) → (v ≡ 0) ⊎ (10 ≤ digit_of (get_or rest 0 0))
    → reading inputs place (counting o around v) rest ≡ reading inputs place (holding o.sum around (o.product (literal v))) rest
unfolding reading
literal_ends inputs place o around v [] h = refl
literal_ends inputs place o around v (b ∷ bs) h =
    ap (λ x. follow place x (λ w. reading inputs (suc place) w bs)) (literal_next o around v (token_of inputs b) (alike h))
  where
    alike : (v ≡ 0) ⊎ (10 ≤ digit_of b) → (v ≡ 0) ⊎ NoDigit (token_of inputs b)
    alike (inl z) = inl z
    alike (inr l) = inr (no_digit inputs b l)

-- the byte at a position is the first from there on
pub first_byte : (bytes xs : List ℕ) (p : ℕ) → drop p bytes ≡ xs → get_or bytes p 0 ≡ get_or xs 0 0
first_byte bytes xs p e = (rw (add-zero p) at (sym (get_or-drop p bytes 0 0))) ∙ ap (λ (l : List ℕ). get_or l 0 0) e

pub byte_inside : (bytes : List ℕ) (p b : ℕ) (bs : List ℕ) → drop p bytes ≡ b ∷ bs → p < length bytes
byte_inside bytes p b bs e = omega (arith, ap length e, length-drop p bytes)

-- a token of a formula
abbrev pub IsReal : Token → Type 0
IsReal (Digit d) = Unit {0}
IsReal (Letter i) = Unit {0}
IsReal (Operator g) = Unit {0}
IsReal Opening = Unit {0}
IsReal Closing = Unit {0}
IsReal Other = ⊥

module _ (bytes : List ℕ) (inputs : ℕ) where
  abbrev pub token_at : ℕ → Token
  token_at p = token_of inputs (get_or bytes p 0)

  reads : (p : ℕ) (s : State) → p < length bytes
      → reading inputs (suc p) s (drop p bytes) ≡ follow (suc p) (next s (token_at p)) (λ u. reading inputs (suc (suc p)) u (drop (suc p) bytes))
  unfolding reading
  reads p s h = rw (drop-cons bytes p 0 h)

  pub goes_on : (p : ℕ) (s u : State) → p < length bytes → next s (token_at p) ≡ going u
      → reading inputs (suc p) s (drop p bytes) ≡ reading inputs (suc (suc p)) u (drop (suc p) bytes)
  goes_on p s u h e = reads p s h ∙ ap (λ (n : Next). follow (suc p) n (λ w. reading inputs (suc (suc p)) w (drop (suc p) bytes))) e

  pub breaks_here : (p : ℕ) (s : State) → p < length bytes → next s (token_at p) ≡ broken → reading inputs (suc p) s (drop p bytes) ≡ no_formula (suc p)
  breaks_here p s h e = reads p s h ∙ ap (λ (n : Next). follow (suc p) n (λ w. reading inputs (suc (suc p)) w (drop (suc p) bytes))) e

  pub ends_here : (p place : ℕ) (s : State) → length bytes ≤ p → reading inputs place s (drop p bytes) ≡ ending place s
  unfolding reading
  ends_here p place s h = rw (drop_of_length-le bytes h)

  -- a state in which no formula ends breaks at a byte that it cannot take, and at the end
  breaks_or_ends : (p : ℕ) (s : State) → ending (suc p) s ≡ no_formula (suc p) → next s (token_at p) ≡ broken
      → reading inputs (suc p) s (drop p bytes) ≡ no_formula (suc p)
  breaks_or_ends p s e b = elim (dec_lt p (length bytes)) [ yes h ↦ breaks_here p s h b | no h ↦ ends_here p (suc p) s (omega arith) ∙ e ]

  pub wanting_breaks : (p : ℕ) (o : Open) (around : List Open) → next (wanting o around) (token_at p) ≡ broken
      → reading inputs (suc p) (wanting o around) (drop p bytes) ≡ no_formula (suc p)
  wanting_breaks p o around = breaks_or_ends p (wanting o around) refl

  pub holding_breaks : (p : ℕ) (f : Tree → Tree) (o : Open) (around : List Open) (t : Tree) → next (holding f (o ∷ around) t) (token_at p) ≡ broken
      → reading inputs (suc p) (holding f (o ∷ around) t) (drop p bytes) ≡ no_formula (suc p)
  holding_breaks p f o around t = breaks_or_ends p (holding f (o ∷ around) t) refl

  -- past the end there is no byte of a formula
  pub inside : (p : ℕ) {k : Token} → token_at p ≡ k → IsReal k → p < length bytes
  unfolding token_of mark_of letter_of
  inside p e n = elim (dec_lt p (length bytes)) [
    | yes h ↦ h
    | no h ↦ absurd (subst IsReal (sym e ∙ ap (token_of inputs) (get_or-eq_default bytes 0 {n = p} (omega arith))) n)
  ]
