-- The words of a call, and what they say (manual, section 3.6).
use Rattle.std.specs.Prelude.{◌≡◌, ◌⊎◌, ℕ, suc, ◌+◌, ◌*◌, ◌/◌, ◌%◌, ◌<◌, eqb, ℤ, pos, nat_abs, List, [], ◌∷◌, ◌++◌, Option, None, Some, Result, Ok, Err, length, get_or, slice_get}
use Rattle.capacity.specs.Limits.{max_inputs}
use Rattle.sheet.specs.Choice.{pick}
use Rattle.sheet.specs.Lines.{zero_end}
use Rattle.sheet.specs.Same.{up_to}
use Rattle.sheet.specs.Text.{numeral}
use Rattle.sheet.specs.declared.End.{End}
use Rattle.formulas.specs.declared.InputBlock.{InputBlock}
use Rattle.formula.specs.declared.call.WrongCall.{WrongCall}
use Rattle.formula.specs.declared.call.WrongCall.TheVariants.{NoSquares, NoNumber, NoHighEnd}
use Rattle.formula.specs.declared.call.Numbers.{Numbers}

-- A word is this number, as a field of a sheet has it.
pub record IsNumber (word : List ℕ) (z : ℤ) : Type 0 where
  pub text : word ≡ numeral z
  pub ten_digits : nat_abs z < 10000000000

-- What is answered for the number at a position.
abbrev pub NumberAt : List (List ℕ) → ℕ → Result (Option ℤ) WrongCall → Type 0
NumberAt words i (Ok None) = slice_get words i ≡ None
NumberAt words i (Ok (Some z)) = (word : List ℕ) × (slice_get words i ≡ Some word) × IsNumber word z
NumberAt words i (Err wrong) = (word : List ℕ) × (slice_get words i ≡ Some word) × ((z : ℤ) → ¬ IsNumber word z) × (wrong ≡ NoNumber i)

-- The words from the squares on, which stand behind the program's own name and the formula, up to a position, are these numbers.
pub data NumbersRead (words : List (List ℕ)) : ℕ → List ℤ → Type 0 where
  none : NumbersRead words 2 []
  one_more : {i : ℕ} {zs : List ℤ} {word : List ℕ} {z : ℤ} → NumbersRead words i zs → slice_get words i ≡ Some word → IsNumber word z
      → NumbersRead words (suc i) (zs ++ (z ∷ []))

-- These first numbers, so many in all, are those of a list, with zeros behind them.
pub record Holds (first : List ℤ) (count : ℕ) (all : List ℤ) : Type 0 where
  pub counted : count ≡ length all
  pub is : (k : ℕ) → k < length first → get_or first k (pos 0) ≡ get_or all k (pos 0)

-- The first word from the squares on that is no number.
pub record NoNumberAt (words : List (List ℕ)) (wrong : WrongCall) : Type 0 where
  pub place : ℕ
  pub earlier : List ℤ
  pub before : NumbersRead words place earlier
  pub word : List ℕ
  pub there : slice_get words place ≡ Some word
  pub no_number : (z : ℤ) → ¬ IsNumber word z
  pub told : wrong ≡ NoNumber place

-- All words from the squares on are these numbers: no word stands behind them.
pub record AllNumbers (words : List (List ℕ)) (zs : List ℤ) : Type 0 where
  pub behind : ℕ
  pub read : NumbersRead words behind zs
  pub last : slice_get words behind ≡ None

-- What is answered for the numbers of a call: all that stand behind the formula, or the first word there that is none.
abbrev pub NumbersGiven : List (List ℕ) → Result Numbers WrongCall → Type 0
NumbersGiven words (Ok numbers) = (zs : List ℤ) × AllNumbers words zs × Holds numbers.first numbers.count zs
NumbersGiven words (Err wrong) = NoNumberAt words wrong

-- The ends of an input, counted from 0, among the numbers of a call: low, then high, behind the squares and the ends of the inputs before it.
abbrev pub ends_given : List ℤ → ℕ → End
ends_given zs i = record { low = get_or zs (2 * i + 1) (pos 0); high = get_or zs (2 * i + 2) (pos 0) }

-- The inputs of a call: the squares stand first, and each input has two ends.
unfoldable pub block_of : List ℤ → InputBlock
block_of zs = record { inputs = pos (length zs / 2); squares = get_or zs 0 (pos 0); ends = up_to max_inputs max_inputs (ends_given zs) zero_end }

-- The inputs that the numbers of a call are: none without squares, or with a low end that has no high end.
unfoldable pub inputs_of : List ℤ → Result InputBlock WrongCall
inputs_of zs = pick (eqb (length zs) 0) (Err NoSquares) (pick (eqb (length zs % 2) 0) (Err (NoHighEnd (length zs + 1))) (Ok (block_of zs)))

-- What the numbers of a call are as inputs.
pub record InputsRead (words : List (List ℕ)) (answer : Result InputBlock WrongCall) : Type 0 where
  pub numbers : List ℤ
  pub all : AllNumbers words numbers
  pub is : inputs_of numbers ≡ answer

-- What is answered for the inputs of a call.
abbrev pub InputsGiven : List (List ℕ) → Result InputBlock WrongCall → Type 0
InputsGiven words (Ok block) = InputsRead words (Ok block)
InputsGiven words (Err wrong) = NoNumberAt words wrong ⊎ InputsRead words (Err wrong)
