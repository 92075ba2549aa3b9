-- What the call `read` promises of a formula besides its answer: what it accepts, and where it refuses. `proofs/CallClaims.antt` proves each.
use Rattle.std.specs.Prelude.{◌≡◌, ◌⊎◌, Bool, List, ◌++◌, ℕ, suc, ◌≤◌, ◌<◌, nat_lt, length, take, find, Some}
use Rattle.capacity.specs.Limits.{max_steps}
use Rattle.sheet.specs.Limits.{end_limit}
use Rattle.sheet.specs.Causes.{accepted}
use Rattle.sheet.specs.Lines.{natural}
use Rattle.sheet.specs.Results.{refusal_of}
use Rattle.sheet.specs.declared.causes.Cause.{Cause}
use Rattle.sheet.specs.declared.causes.Cause.TheVariants.{StepWrong, NoFormula, StepCount}
use Rattle.sheet.specs.declared.causes.Refused.{Refused}
use Rattle.formulas.specs.Limits.{max_text}
use Rattle.formulas.specs.Grammar.{Tree, Formula, Literal, literals_of}
use Rattle.formulas.specs.Steps.{step_count, LiteralsWithin}
use Rattle.formulas.specs.Answer.{inputs_test}
use Rattle.formulas.specs.declared.InputBlock.{InputBlock}

-- What the call accepts: inputs that pass 3 and 4, and a formula over them of at least one step, whose steps, bytes and literals are within the limits.
pub record Accepted (block : InputBlock) (s : List ℕ) (t : Tree) : Type 0 where
  pub inputs_pass : inputs_test block ≡ accepted
  pub formula : Formula (natural block.inputs) s t
  pub short : length s ≤ max_text
  pub literals : LiteralsWithin t
  pub some_step : 0 < step_count t
  pub few_steps : step_count t ≤ max_steps

-- A refusal for a cause at a place.
abbrev pub refused_at : Cause → ℕ → Refused
refused_at cause place = record { cause = cause; place = place }

-- The text s begins some formula over these inputs, of any length: something may follow with which it is one.
abbrev pub Begins : ℕ → List ℕ → Type 0
Begins inputs s = (rest : List ℕ) × (t : Tree) × Formula inputs (s ++ rest) t

-- The place of 10: "the first byte that no formula over these inputs, length aside, has after the bytes before it; one past the end where the formula stops
-- short; 201 where a longer one has no such byte in its first 200".
pub data FirstWrong (inputs : ℕ) (s : List ℕ) : ℕ → Type 0 where
  wrong_byte : {i : ℕ} → i < length s → i < max_text → Begins inputs (take i s) → ¬ Begins inputs (take (suc i) s) → FirstWrong inputs s (suc i)
  stops_short : length s ≤ max_text → Begins inputs s → ((t : Tree) → ¬ Formula inputs s t) → FirstWrong inputs s (suc (length s))
  goes_on : max_text < length s → Begins inputs (take max_text s) → FirstWrong inputs s (suc max_text)

-- Refused by 10 at this place: the inputs pass, and the text is no formula from there on.
pub record WrongByte (block : InputBlock) (s : List ℕ) (place : ℕ) : Type 0 where
  pub inputs_pass : inputs_test block ≡ accepted
  pub first : FirstWrong (natural block.inputs) s place

-- The literal is beyond a constant's limits; it has no minus, so only the upper one can be passed.
abbrev pub is_beyond : Literal → Bool
is_beyond l = nat_lt end_limit l.value

-- Refused by 5 at this place: the inputs pass, the text is a formula that is not too long, and the first of its literals that is beyond the limits starts there.
pub record LiteralBeyond (block : InputBlock) (s : List ℕ) (place : ℕ) : Type 0 where
  pub inputs_pass : inputs_test block ≡ accepted
  pub t : Tree
  pub formula : Formula (natural block.inputs) s t
  pub short : length s ≤ max_text
  pub value : ℕ
  pub first : find is_beyond (literals_of 1 formula) ≡ Some (record { place = place; value = value })

-- Refused by 11: the inputs pass, the text is a formula that is not too long, its literals are within the limits, and it makes no step or more than a schedule has room for.
pub record StepsBeyond (block : InputBlock) (s : List ℕ) : Type 0 where
  pub inputs_pass : inputs_test block ≡ accepted
  pub t : Tree
  pub formula : Formula (natural block.inputs) s t
  pub short : length s ≤ max_text
  pub literals : LiteralsWithin t
  pub count : (step_count t ≡ 0) ⊎ (max_steps < step_count t)

-- Why a call is refused: there is no other reason.
pub data Reason (block : InputBlock) (s : List ℕ) (r : Refused) : Type 0 where
  of_inputs : refusal_of r ≡ inputs_test block → Reason block s r
  of_byte : r.cause ≡ NoFormula → WrongByte block s r.place → Reason block s r
  of_literal : r.cause ≡ StepWrong → LiteralBeyond block s r.place → Reason block s r
  of_steps : r ≡ refused_at StepCount 0 → StepsBeyond block s → Reason block s r
