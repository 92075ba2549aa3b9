-- How a call ends: what is printed for one that is right, and what is wrong with another (manual, section 3.6).
use Rattle.std.specs.Prelude.{◌≡◌, ◌≢◌, ℕ, List, Option, None, Some, Result, Ok, Err, slice_get, ⊤}
use Rattle.std.specs.Io.KnownBytes.{Appends}
use Rattle.std.specs.declared.io.Error.{Error}
use Rattle.streams.specs.Count.{AppendsBeginning}
use Rattle.formulas.specs.declared.InputBlock.{InputBlock}
use Rattle.formula.specs.Words.{NoNumberAt, InputsRead}
use Rattle.formulas.specs.Answer.{answer_of}
use Rattle.formula.specs.Printed.{printed, ReadsBack}
use Rattle.formula.specs.declared.call.WrongCall.{WrongCall}
use Rattle.formula.specs.declared.call.WrongCall.TheVariants.{NoFormula}
use Rattle.formula.specs.declared.Failure.{Failure}
use Rattle.formula.specs.declared.Failure.TheVariants.{Call, Write}

-- The words are a call for this formula beside these inputs: it is the first of them, and the numbers behind it are those of the inputs.
pub record IsCall (words : List (List ℕ)) (formula : List ℕ) (block : InputBlock) : Type 0 where
  pub first : slice_get words 1 ≡ Some formula
  pub inputs : InputsRead words (Ok block)

-- What is wrong with a call: no formula, or, behind one, a word that is no number, or numbers that are no inputs.
pub data WrongWords (words : List (List ℕ)) : WrongCall → Type 0 where
  no_formula : slice_get words 1 ≡ None → WrongWords words NoFormula
  no_number : {formula : List ℕ} {wrong : WrongCall} → slice_get words 1 ≡ Some formula → NoNumberAt words wrong → WrongWords words wrong
  no_inputs : {formula : List ℕ} {wrong : WrongCall} → slice_get words 1 ≡ Some formula → InputsRead words (Err wrong) → WrongWords words wrong

-- The words are a right call, for which this is printed: a sheet, or a refusal that can be read back.
pub record Prints (words : List (List ℕ)) (text : List ℕ) : Type 0 where
  pub formula : List ℕ
  pub block : InputBlock
  pub call : IsCall words formula block
  pub is : text ≡ printed block formula
  pub legible : (answer_of block formula).refusal.number ≢ 0 → ReadsBack (answer_of block formula).refusal text

-- How a call of these words ends, by what the writer held before and afterwards: all that is printed for it was written; or nothing, since the call is wrong;
-- or a beginning, since a write failed.
abbrev pub Ended : List (List ℕ) → Option (List ℕ) → Option (List ℕ) → Result (Unit {0}) Failure → Type 0
Ended words old new (Ok u) = (text : List ℕ) × Prints words text × Appends old new text
Ended words old new (Err (Call wrong)) = WrongWords words wrong × (new ≡ old)
Ended words old new (Err (Write e)) = (text : List ℕ) × Prints words text × AppendsBeginning old new text

-- A fact where the call is wrong, and one of the error where a write failed.
abbrev pub OnCall : Type 0 → Failure → Type 0
OnCall fact (Call wrong) = fact
OnCall fact (Write e) = ⊤

abbrev pub OnWrite : (Error → Type 0) → Failure → Type 0
OnWrite fact (Call wrong) = ⊤
OnWrite fact (Write e) = fact e

-- The status that a program ends with.
abbrev pub status_of : Result (Unit {0}) Failure → ℕ
status_of (Ok u) = 0
status_of (Err (Call wrong)) = 2
status_of (Err (Write e)) = 1
