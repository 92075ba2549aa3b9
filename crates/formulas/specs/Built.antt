-- What the code that reads a formula keeps and leaves: literals, signs, steps, and how far the reading got behind each part. No promise to a caller cites these.
use Rattle.std.specs.Prelude.{◌≡◌, ◌⊎◌, false, List, [], ◌∷◌, ℕ, zero, suc, ◌+◌, ◌*◌, ◌≤◌, ◌<◌, eqb, leb, ltb, length, drop, get_or, replicate, min, Option, Some, None, Result, Ok, Err}
use Rattle.std.specs.Option.{option_or}
use Rattle.std.specs.Bool.{then_some}
use Rattle.std.proofs.lemmas.List.Edits.{sets}
use Rattle.sheet.specs.Choice.{pick}
use Rattle.capacity.specs.Limits.{max_inputs, max_steps}
use Rattle.sheet.specs.Limits.{end_limit}
use Rattle.sheet.specs.Number.{digit_of}
use Rattle.sheet.specs.Answers.{Refusal}
use Rattle.sheet.specs.Causes.{accepted}
use Rattle.sheet.specs.Lines.{zero_step}
use Rattle.sheet.specs.declared.Step.{Step}
use Rattle.formulas.specs.Limits.{max_text, max_nesting}
use Rattle.formulas.specs.Grammar.{Tree, rank_of}
use Rattle.formulas.specs.Reading.{Open, fresh, wanting, holding, no_formula, tree, reading, formula_of}
use Rattle.formulas.specs.Steps.{step_of, step_count, row_of, steps_of, LiteralsWithin}
use Rattle.formulas.specs.Answer.{literal_beyond, steps_beyond, first_beyond}
use Rattle.formulas.specs.declared.Sign.{Sign}
use Rattle.formulas.specs.declared.Sign.TheVariants.{Plus, Minus, Times, Over}
use Rattle.sheet.specs.declared.Found.{Found}
use Rattle.formulas.specs.declared.steps.Steps.{Steps}
use Rattle.formulas.specs.declared.builder.Part.{Part}
use Rattle.formulas.specs.declared.builder.Wrong.{Wrong}

-- ---- literals

-- a value, or one above the limit for all that are beyond it
abbrev pub capped : ℕ → ℕ
capped v = min v (end_limit + 1)

abbrev pub literal_of : ℕ → ℕ → Found ℕ
literal_of value next = record { value = value; next = next }

-- the digits from position p on, behind digits of the capped value v
unfoldable pub digits_from : ℕ → ℕ → List ℕ → Found ℕ
digits_from v p [] = literal_of v p
digits_from v p (b ∷ bs) = pick (ltb (digit_of b) 10) (digits_from (capped (v * 10 + digit_of b)) (suc p) bs) (literal_of v p)

-- the literal at a position: 0 alone, or all digits from there on
abbrev pub literal_at : List ℕ → ℕ → Found ℕ
literal_at bytes at = pick (eqb (digit_of (get_or bytes at 0)) 0) (literal_of 0 (at + 1)) (digits_from 0 at (drop at bytes))

-- the place of the first literal beyond the limits, if there is one: b if it was found before, or that of a literal of this capped value at a position
abbrev pub beyond_with : Option ℕ → ℕ → ℕ → Option ℕ
beyond_with b value at = option_or b (then_some (ltb end_limit value) (at + 1))

-- a place, or none where it is 0
abbrev pub place_of : ℕ → Option ℕ
place_of place = pick (eqb place 0) None (Some place)

-- the place of the first literal beyond the limits: b if it was found before position p, or else from there on
abbrev pub found : List ℕ → Option ℕ → ℕ → Option ℕ
found bytes b p = option_or b (place_of (first_beyond (suc p) false (drop p bytes)))

-- ---- signs

-- the sign that a byte is
abbrev pub sign_of : ℕ → Option Sign
sign_of b = pick (eqb b 43) (Some Plus) (pick (eqb b 45) (Some Minus) (pick (eqb b 42) (Some Times) (pick (eqb b 47) (Some Over) None)))

-- a sign, if its rank is at most this
abbrev pub ranked : ℕ → Option Sign → Option Sign
ranked rank None = None
ranked rank (Some g) = then_some (leb (rank_of g) rank) g

abbrev pub sign_within : ℕ → ℕ → Option Sign
sign_within rank b = ranked rank (sign_of b)

-- ---- steps

-- no steps yet, over so many inputs
abbrev pub no_steps : (inputs : ℕ) → inputs ≤ max_inputs → Steps
no_steps inputs few = record { inputs = inputs; step = replicate max_steps zero_step; count = 0; beyond = None; few_inputs = few }

-- these steps put behind those that there are, as far as a schedule has room for them
abbrev pub with_steps : Steps → List Step → Steps
with_steps s ts = record { inputs = s.inputs; step = sets s.step s.count ts; count = s.count + length ts; beyond = s.beyond; few_inputs = s.few_inputs }

-- the steps of a formula, and zeros
abbrev pub steps_held : ℕ → Tree → List Step
steps_held inputs t = sets (replicate max_steps zero_step) 0 (steps_of inputs t)

-- the refusal of steps: 5 at the first literal beyond the limits, or 11 by their count
abbrev pub steps_refusal : Option ℕ → ℕ → Refusal
steps_refusal (Some place) count = literal_beyond place
steps_refusal None count = pick (eqb count 0) steps_beyond (pick (ltb max_steps count) steps_beyond accepted)

-- ---- parts of a formula

-- what stands open where a part begins: an operand goes on with any product, a product with any sum, a sum with nothing
abbrev pub opened : ℕ → Open → Open
opened zero o = o
opened (suc zero) o = record { sum = o.sum; product = λ t. t }
opened (suc (suc r)) o = fresh

-- what the reading holds, f and p, behind a part of this rank whose tree is t, with the byte b behind it: a sum is not held as a product where one may go on
abbrev pub Ends : ℕ → Open → Tree → ℕ → (Tree → Tree) → Tree → Type 0
Ends zero o t b f p = (f ≡ o.sum) × (p ≡ o.product t)
Ends (suc zero) o t b f p = (f ≡ o.sum) × (p ≡ t)
Ends (suc (suc r)) o t b f p = (f p ≡ t) × ((f ≡ (λ t. t)) ⊎ (sign_within 1 b ≡ None))

-- the reading gets from the start of a part at a position behind it
pub record Reaches (bytes : List ℕ) (inputs rank at : ℕ) (t : Tree) (next : ℕ) (o : Open) (around : List Open) : Type 0 where
  pub sum : Tree → Tree
  pub product : Tree
  pub ends : Ends rank o t (get_or bytes next 0) sum product
  pub reads : reading inputs (suc at) (wanting (opened rank o) around) (drop at bytes) ≡ reading inputs (suc next) (holding sum around product) (drop next bytes)

-- a part of this rank was read at a position, in which brackets may nest to so many: its tree, its row, its steps, literals beyond the limits
pub record Right (bytes : List ℕ) (inputs rank nesting at : ℕ) (before after : Steps) (p : Part) : Type 0 where
  pub t : Tree
  pub reaches : (o : Open) (around : List Open) → length around + nesting ≡ max_nesting → Reaches bytes inputs rank at t p.next o around
  pub row : p.row ≡ row_of (inputs + before.count) t
  pub same_inputs : after.inputs ≡ inputs
  pub counted : after.count ≡ before.count + step_count t
  pub left : LiteralsWithin t → after.step ≡ sets before.step before.count (steps_of (inputs + before.count) t)
  pub seen : 10 ≤ digit_of (get_or bytes p.next 0) → found bytes before.beyond at ≡ found bytes after.beyond p.next
  pub longer : at < p.next
  pub within : p.next ≤ length bytes
  pub few_steps : after.count + 2 * at ≤ before.count + 2 * p.next
  pub few_rows : p.row ≤ inputs + after.count

-- the reading breaks, and tells this place
abbrev pub Breaks : List ℕ → ℕ → ℕ → ℕ → ℕ → ℕ → Type 0
Breaks bytes inputs rank nesting at place =
    (o : Open) (around : List Open) → length around + nesting ≡ max_nesting → reading inputs (suc at) (wanting (opened rank o) around) (drop at bytes) ≡ no_formula place

-- a part was read, and no sign of its rank or below follows; or the reading breaks
pub record PartRight (bytes : List ℕ) (inputs rank nesting at : ℕ) (before after : Steps) (p : Part) : Type 0 where
  pub right : Right bytes inputs rank nesting at before after p
  pub stops : sign_within rank (get_or bytes p.next 0) ≡ None

abbrev pub PartRead : List ℕ → ℕ → ℕ → ℕ → ℕ → Steps → Steps → Result Part Wrong → Type 0
PartRead bytes inputs rank nesting at before after (Ok p) = PartRight bytes inputs rank nesting at before after p
PartRead bytes inputs rank nesting at before after (Err w) = Breaks bytes inputs rank nesting at w.place

-- the numbers are small: so few steps before this position
pub record Small (bytes : List ℕ) (at : ℕ) (s : Steps) : Type 0 where
  pub short : length bytes ≤ max_text
  pub few_steps : s.count ≤ 2 * at
  pub inside : at ≤ length bytes

-- what a constant step of the literal at a position leaves
pub record Constant (bytes : List ℕ) (at : ℕ) (before after : Steps) (p : Part) : Type 0 where
  pub ends : p.next ≡ (literal_at bytes at).next
  pub row : p.row ≡ before.inputs + (before.count + 1)
  pub same_inputs : after.inputs ≡ before.inputs
  pub counted : after.count ≡ before.count + 1
  pub told : after.beyond ≡ beyond_with before.beyond (literal_at bytes at).value at
  pub left : after.step ≡ sets before.step before.count (step_of 1 0 0 (literal_at bytes at).value ∷ [])

-- a text that was read whole is a formula: its tree, its steps, and the first literal beyond the limits
pub record RightWhole (text : List ℕ) (inputs : ℕ) (s : Steps) : Type 0 where
  pub t : Tree
  pub is : formula_of inputs text ≡ tree t
  pub same_inputs : s.inputs ≡ inputs
  pub counted : s.count ≡ step_count t
  pub left : first_beyond 1 false text ≡ 0 → s.step ≡ steps_held inputs t
  pub told : s.beyond ≡ place_of (first_beyond 1 false text)

abbrev pub Whole : List ℕ → ℕ → Steps → Result (Unit {0}) Wrong → Type 0
Whole text inputs s (Ok u) = RightWhole text inputs s
Whole text inputs s (Err w) = formula_of inputs text ≡ no_formula w.place
