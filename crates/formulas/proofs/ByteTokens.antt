-- What the bytes of a formula are read as, and which byte each token is read from.
use mathlib.Core.Path.{◌≡◌, refl, sym, subst}
use mathlib.Core.Bool.{false}
use Prim.Native.Nat.{ℕ, ◌+◌, ◌-◌, ◌≤◌, ◌<◌}
use native.Mathlib.Omega.{arith}
use borrow.Author.Tests.{lt-ltb, le-ltb, le-leb, lt-leb, ne_eqb, eqb-true, ltb-true, ltb-false}
use lib.Dec.{eqb, ltb, lit<, lit≤, leb}
use Rattle.sheet.specs.Number.{digit_of}
use Rattle.sheet.proofs.Choice.{pick_elim}
use Rattle.formulas.specs.Grammar.{byte_of}
use Rattle.formulas.specs.Reading.{token_of, mark_of, letter_of}
use Rattle.formulas.specs.declared.Sign.{Sign}
use Rattle.formulas.specs.declared.Sign.TheVariants.{Plus, Minus, Times, Over}
use Rattle.formulas.specs.declared.Token.{Token}
use Rattle.formulas.specs.declared.Token.TheVariants.{Digit, Letter, Operator, Opening, Closing, Other}

pub digit_of_lem : (d : ℕ) → d < 10 → digit_of (48 + d) ≡ d
digit_of_lem d h = simp (le-ltb (48 + d) 48 (omega arith), le-leb (48 + d) 57 (omega arith)) (omega arith)

pub letter_no_digit : (i : ℕ) → 10 ≤ digit_of (97 + i)
letter_no_digit i = simp (le-ltb (97 + i) 48 (omega arith), lt-leb (97 + i) 57 (omega arith)) (lit≤ tt)

pub sign_no_digit : (g : Sign) → 10 ≤ digit_of (byte_of g)
sign_no_digit Plus = lit≤ tt
sign_no_digit Minus = lit≤ tt
sign_no_digit Times = lit≤ tt
sign_no_digit Over = lit≤ tt

abbrev pub NoDigit : Token → Type 0
NoDigit (Digit d) = ⊥
NoDigit (Letter i) = Unit {0}
NoDigit (Operator g) = Unit {0}
NoDigit Opening = Unit {0}
NoDigit Closing = Unit {0}
NoDigit Other = Unit {0}

module _ (inputs : ℕ) where
  pub token_digit : (d : ℕ) → d < 10 → token_of inputs (48 + d) ≡ Digit d
  unfolding token_of
  token_digit d h = simp (digit_of_lem d h, lt-ltb d 10 h)

  -- a byte that is no digit is not read as one
  pub no_digit : (b : ℕ) → 10 ≤ digit_of b → NoDigit (token_of inputs b)
  unfolding token_of mark_of letter_of
  no_digit b h =
      rw (le-ltb (digit_of b) 10 h)
      (pick_elim NoDigit (eqb b 40) _ _ (λ e. tt)
      (λ e. pick_elim NoDigit (eqb b 41) _ _ (λ e. tt)
      (λ e. pick_elim NoDigit (eqb b 43) _ _ (λ e. tt)
      (λ e. pick_elim NoDigit (eqb b 45) _ _ (λ e. tt)
      (λ e. pick_elim NoDigit (eqb b 42) _ _ (λ e. tt)
      (λ e. pick_elim NoDigit (eqb b 47) _ _ (λ e. tt)
      (λ e. pick_elim NoDigit (ltb b 97) _ _ (λ e. tt)
      (λ e. pick_elim NoDigit (ltb (b - 97) inputs) _ _ (λ e. tt) (λ e. tt)))))))))

  pub token_letter : (i : ℕ) → i < inputs → token_of inputs (97 + i) ≡ Letter i
  unfolding token_of mark_of letter_of
  token_letter i h =
      let e : 97 + i - 97 ≡ i = omega arith in
      rw (le-ltb (digit_of (97 + i)) 10 (letter_no_digit i))
      (simp (no_mark 40 (lit< tt), no_mark 41 (lit< tt), no_mark 43 (lit< tt), no_mark 45 (lit< tt), no_mark 42 (lit< tt), no_mark 47 (lit< tt))
      (simp (le-ltb (97 + i) 97 (omega arith), e, lt-ltb i inputs h)))
    where
      no_mark : (b : ℕ) → b < 97 → eqb (97 + i) b ≡ false
      no_mark b l = ne_eqb (97 + i) b (omega arith)

  pub token_sign : (g : Sign) → token_of inputs (byte_of g) ≡ Operator g
  unfolding token_of mark_of
  token_sign Plus = refl
  token_sign Minus = refl
  token_sign Times = refl
  token_sign Over = refl

  pub token_opening : token_of inputs 40 ≡ Opening
  unfolding token_of mark_of
  token_opening = refl

  pub token_closing : token_of inputs 41 ≡ Closing
  unfolding token_of mark_of
  token_closing = refl

-- ---- which byte each token is read from

pub data TokenByte (inputs : ℕ) : ℕ → Token → Type 0 where
  digit_byte : {d : ℕ} → d < 10 → TokenByte inputs (48 + d) (Digit d)
  letter_byte : {i : ℕ} → i < inputs → TokenByte inputs (97 + i) (Letter i)
  operator_byte : (g : Sign) → TokenByte inputs (byte_of g) (Operator g)
  opening_byte : TokenByte inputs 40 Opening
  closing_byte : TokenByte inputs 41 Closing
  other_byte : {b : ℕ} → TokenByte inputs b Other

is_byte : {inputs b c : ℕ} {k : Token} → b ≡ c → TokenByte inputs c k → TokenByte inputs b k
is_byte {inputs} {b} {c} {k} e = subst (λ (x : ℕ). TokenByte inputs x k) (sym e)

-- the byte of a digit below 10
digit_is : (b : ℕ) → digit_of b < 10 → b ≡ 48 + digit_of b
digit_is b =
    pick_elim (λ (d : ℕ). d < 10 → b ≡ 48 + d) (ltb b 48) _ _
    (λ l h. absurd (omega arith))
    (λ l. pick_elim (λ (d : ℕ). d < 10 → b ≡ 48 + d) (leb b 57) _ _ (λ m h. omega (arith, ltb-false b 48 l)) (λ m h. absurd (omega arith)))

letter_token : (inputs b : ℕ) → TokenByte inputs b (letter_of inputs b)
unfolding letter_of
letter_token inputs b =
    pick_elim (TokenByte inputs b) (ltb b 97) _ _
    (λ l. other_byte)
    (λ l. pick_elim (TokenByte inputs b) (ltb (b - 97) inputs) _ _
    (λ h. is_byte (omega (arith, ltb-false b 97 l)) (letter_byte (ltb-true (b - 97) inputs h)))
    (λ h. other_byte))

mark_token : (inputs b : ℕ) → TokenByte inputs b (mark_of inputs b)
unfolding mark_of
mark_token inputs b =
    pick_elim (TokenByte inputs b) (eqb b 40) _ _ (λ e. is_byte (eqb-true b 40 e) opening_byte)
    (λ _. pick_elim (TokenByte inputs b) (eqb b 41) _ _ (λ e. is_byte (eqb-true b 41 e) closing_byte)
    (λ _. pick_elim (TokenByte inputs b) (eqb b 43) _ _ (λ e. is_byte (eqb-true b 43 e) (operator_byte Plus))
    (λ _. pick_elim (TokenByte inputs b) (eqb b 45) _ _ (λ e. is_byte (eqb-true b 45 e) (operator_byte Minus))
    (λ _. pick_elim (TokenByte inputs b) (eqb b 42) _ _ (λ e. is_byte (eqb-true b 42 e) (operator_byte Times))
    (λ _. pick_elim (TokenByte inputs b) (eqb b 47) _ _ (λ e. is_byte (eqb-true b 47 e) (operator_byte Over))
    (λ _. letter_token inputs b))))))

pub token_byte : (inputs b : ℕ) → TokenByte inputs b (token_of inputs b)
unfolding token_of
token_byte inputs b =
    pick_elim (TokenByte inputs b) (ltb (digit_of b) 10) _ _
    (λ l. is_byte (digit_is b (ltb-true (digit_of b) 10 l)) (digit_byte (ltb-true (digit_of b) 10 l)))
    (λ _. mark_token inputs b)
