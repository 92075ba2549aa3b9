-- The guarantee (manual, section 4.6), as one statement about the whole sheet: what every accepted `evaluate` ensures.
use Rattle.std.specs.Prelude.{◌≡◌, ◌≢◌, ◌↔◌, true, List, ℕ, suc, ◌-◌, ◌<◌, ℤ, pos}
use Rattle.integer.specs.Fraction.{Fraction, ◌≈◌, ◌<ℚ◌, whole}
use Rattle.affine.specs.declared.Row.{Row}
use Rattle.affine.specs.Form.{form_value}
use Rattle.sheet.specs.declared.Schedule.{Schedule}
use Rattle.sheet.specs.Causes.{accepted}
use Rattle.sheet.specs.Lines.{natural, ends_at, step_at}
use Rattle.evaluation.specs.Table.{row_part, range_part}
use Rattle.evaluation.specs.Work.{row_count}
use Rattle.evaluation.specs.Ranges.{row_of}
use Rattle.evaluation.specs.Asking.{range_of, same_of}
use Rattle.evaluation.specs.Values.{in_units, Within, FromMinusOneToOne, exact_value, own_of, found_value}

-- "Give the inputs of any accepted sheet whatever fractions within their ends"
abbrev pub InputsWithin : Schedule → (ℕ → Fraction) → Type 0
InputsWithin c x = (i : ℕ) → i < natural c.inputs → Within (ends_at c i).low (x i) (ends_at c i).high

-- "while what is lent still holds for them the numbers that its accepted evaluation left there": of the row with index i, in the first table ..
abbrev pub StillHolds : List ℤ → List ℤ → ℕ → Type 0
StillHolds left lent i = row_part lent i ≡ row_part left i

-- .. and in the second
abbrev pub RangeStillHolds : List ℤ → List ℤ → ℕ → Type 0
RangeStillHolds left lent i = range_part lent i ≡ range_part left i

-- Of a schedule, the rows that its accepted evaluation worked, both tables that it left, and inputs:
pub record Demand3 (c : Schedule) (rows : List Row) (left left_ranges : List ℤ) (x : ℕ → Fraction) : Type 0 where
  -- "and its noise symbols whatever fractions at all. .. The two are equal at every row exactly when each noise symbol whose own coefficient is not
  -- zero has its found value"
  pub equal_exactly_at_found : (ε : ℕ → Fraction)
      → ((i : ℕ) → i < row_count c → exact_value c x i ≈ form_value (row_of rows i) ε)
      ↔ ((i : ℕ) → i < row_count c → own_of rows i ≢ pos 0 → ε i ≈ found_value c x rows i)
  -- "every found value lies from -1 to 1"
  pub found_in_unit : (i : ℕ) → i < row_count c → own_of rows i ≢ pos 0 → FromMinusOneToOne (found_value c x rows i)
  -- "and no exact divisor is zero": "the exact value of the row that a reciprocal names"
  pub divisor_nonzero : (j : ℕ) → j < natural c.steps → natural (step_at c j).code ≡ 5 → ¬ (exact_value c x (natural (step_at c j).first - 1) ≈ whole (pos 0))
  -- and every exact value of which a root is taken is at least a unit ("12: low below 1"), so that the exact root is one
  pub root_of_some : (j : ℕ) → j < natural c.steps → natural (step_at c j).code ≡ 6 → ¬ (exact_value c x (natural (step_at c j).first - 1) <ℚ in_units (pos 1))
  -- the tables left answer for every row ..
  pub range_answered : (i : ℕ) → i < row_count c → (range_of left left_ranges (row_count c) (suc i)).refusal ≡ accepted
  -- .. and "each exact value lies in its row's range, the one that document 01 fixes and our calls answer"
  pub in_range : (i : ℕ) → i < row_count c → (lent lent_ranges : List ℤ) → StillHolds left lent i → RangeStillHolds left_ranges lent_ranges i
      → (count : ℕ) → (range_of lent lent_ranges count (suc i)).refusal ≡ accepted
      → Within (range_of lent lent_ranges count (suc i)).low (exact_value c x i) (range_of lent lent_ranges count (suc i)).high
  -- "and rows of one sheet with identical numbers, those we call the same, have equal exact values"
  pub same_values : (i j : ℕ) → i < row_count c → j < row_count c → (lent : List ℤ) → StillHolds left lent i → StillHolds left lent j
      → (count : ℕ) → (same_of lent count (suc i) (suc j)).refusal ≡ accepted → (same_of lent count (suc i) (suc j)).same ≡ true
      → exact_value c x i ≈ exact_value c x j
  -- comparing any two rows of the table left is accepted ..
  pub same_answered : (i j : ℕ) → i < row_count c → j < row_count c → (same_of left (row_count c) (suc i) (suc j)).refusal ≡ accepted
  -- .. and says yes exactly where all numbers of both agree
  pub same_exactly : (i j : ℕ) → i < row_count c → j < row_count c
      → ((same_of left (row_count c) (suc i) (suc j)).same ≡ true) ↔ (row_part left i ≡ row_part left j)

-- Whatever the inputs are within their ends, of the rows worked and the tables left.
abbrev pub Guaranteed : Schedule → List Row → List ℤ → List ℤ → Type 0
Guaranteed c rows left left_ranges = (x : ℕ → Fraction) → InputsWithin c x → Demand3 c rows left left_ranges x
