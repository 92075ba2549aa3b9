-- What is told of a literal digit by digit: its value, and its value as far as it counts.
use mathlib.Core.Path.{◌≡◌, refl, ◌∙◌}
use mathlib.Core.Bool.{true}
use mathlib.Core.List.{List, [], ◌∷◌, ◌++◌, append_assoc}
use Prim.Native.Nat.{ℕ, suc, ◌+◌, ◌*◌, ◌≤◌, ◌<◌}
use native.Mathlib.Nat.{zero-add}
use native.Mathlib.Numerals.{add-one}
use native.Mathlib.Omega.{arith}
use borrow.Author.Tests.{lt-ltb, le-ltb, ltb-true}
use lib.Dec.{ltb}
use lib.ListN.{length, get_or, length-append}
use Rattle.sheet.specs.Number.{digit_of}
use Rattle.formulas.specs.Grammar.{Numeral, one_digit, one_more}
use Rattle.formulas.specs.Answer.{front_value}
use Rattle.formulas.specs.Built.{capped}
use Rattle.formulas.proofs.ByteTokens.{digit_of_lem}

-- Where each digit leads from what is told of the digits before it to what is told with it, the whole literal does.
pub through_digits : {A : Type 0} (before : List ℕ → A) (behind : (count value : ℕ) → List ℕ → A)
    → ((d : ℕ) (rest : List ℕ) → d < 10 → before ((48 + d) ∷ rest) ≡ behind 1 d rest)
    → ((n v d : ℕ) (rest : List ℕ) → 0 < v → d < 10 → behind n v ((48 + d) ∷ rest) ≡ behind (suc n) (v * 10 + d) rest)
    → {s : List ℕ} {v : ℕ} → Numeral s v → (rest : List ℕ) → before (s ++ rest) ≡ behind (length s) v rest
through_digits before behind first more (one_digit {d} h) rest = first d rest h
through_digits before behind first more (one_more {s} {v} {d} x h l) rest =
    rw (append_assoc s ((48 + d) ∷ []) rest, length-append s ((48 + d) ∷ []), add-one)
    (through_digits before behind first more x ((48 + d) ∷ rest) ∙ more (length s) v d rest h l)

pub numeral_front : {s : List ℕ} {v : ℕ} → Numeral s v → (rest : List ℕ) → digit_of (get_or (s ++ rest) 0 0) < 10
numeral_front {s} x rest =
    ltb-true (digit_of (get_or (s ++ rest) 0 0)) 10
    (through_digits (λ l. ltb (digit_of (get_or l 0 0)) 10) (λ n v l. true) (λ d l h. rw (digit_of_lem d h) (lt-ltb d 10 h))
    (λ n v d l h g. refl) x rest)

-- ---- the value

front_digit : (v d : ℕ) (rest : List ℕ) → d < 10 → front_value v ((48 + d) ∷ rest) ≡ front_value (v * 10 + d) rest
unfolding front_value
front_digit v d rest h = rw (digit_of_lem d h, lt-ltb d 10 h)

front_stops : (v : ℕ) (rest : List ℕ) → 10 ≤ digit_of (get_or rest 0 0) → front_value v rest ≡ v
unfolding front_value
front_stops v [] h = refl
front_stops v (b ∷ bs) h = rw (le-ltb (digit_of b) 10 h)

pub front_value_lem : {s : List ℕ} {v : ℕ} → Numeral s v → (rest : List ℕ) → 10 ≤ digit_of (get_or rest 0 0) → front_value 0 (s ++ rest) ≡ v
front_value_lem {v} x rest h =
    through_digits (front_value 0) (λ n w. front_value w) (λ d l g. rw zero-add at (front_digit 0 d l g)) (λ n w d l p. front_digit w d l) x rest
    ∙ front_stops v rest h

-- ---- the capped value

pub capped_digit : (v d : ℕ) → capped (capped v * 10 + d) ≡ capped (v * 10 + d)
capped_digit v d = omega arith
