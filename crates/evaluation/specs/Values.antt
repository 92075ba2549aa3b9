-- "What each row becomes" and "The words of demand 3" (manual, sections 4.1 and 4.6): exact values, found values, and lying within ends, all in fractions.
use Rattle.std.specs.Prelude.{List, [], ◌∷◌, ◌++◌, ℕ, zero, suc, ◌-◌, eqb, ltb, ℤ, pos, negsuc, length, get_or}
use Rattle.integer.specs.Fraction.{Fraction, ◌<ℚ◌, ◌+ℚ◌, ◌-ℚ◌, ◌*ℚ◌, ◌/ℚ◌, reciprocal, over, whole}
use Rattle.integer.specs.Root.{floor_root}
use Rattle.affine.specs.declared.Row.{Row}
use Rattle.affine.specs.Limits.{unit}
use Rattle.affine.specs.Lists.{pick, at, equal}
use Rattle.affine.specs.Form.{form_value}
use Rattle.sheet.specs.declared.Step.{Step}
use Rattle.sheet.specs.declared.Schedule.{Schedule}
use Rattle.sheet.specs.Lines.{natural, step_at}
use Rattle.evaluation.specs.Ranges.{row_of}

-- "in fractions, a whole number meaning itself over 4096"
abbrev pub in_units : ℤ → Fraction
in_units z = over z unit tt

-- "A fraction lies within ends, or in a range, if it is neither below the low one nor above the high one"
pub record Between (low v high : Fraction) : Type 0 where
  pub not_below : ¬ (v <ℚ low)
  pub not_above : ¬ (high <ℚ v)

-- "each over 4096"
abbrev pub Within : ℤ → Fraction → ℤ → Type 0
Within low v high = Between (in_units low) v (in_units high)

-- "Here, and in "from -1 to 1", whole numbers mean themselves."
abbrev pub FromMinusOneToOne : Fraction → Type 0
FromMinusOneToOne v = Between (whole (negsuc 0)) v (whole (pos 1))

-- the exact value that a step names, among those of the rows before it
abbrev pub named_value : List Fraction → ℤ → Fraction
named_value values n = get_or values (natural n - 1) (whole (pos 0))

-- "Exact meaning: for an exact value of X units, the whole-number root of 4096 × X, rounded down": a fraction again
unfoldable pub exact_root : Fraction → Fraction
exact_root v = in_units (pos (floor_root (whole (pos unit) *ℚ (whole (pos unit) *ℚ v))))

-- "The exact value of a step is its code's sum, difference, product or reciprocal of the exact values named", and of code 6 the exact root
unfoldable pub exact_step : List Fraction → Step → Fraction
exact_step values t =
    pick (eqb (natural t.code) 1) (in_units t.value)
    (pick (eqb (natural t.code) 2) (named_value values t.first +ℚ named_value values t.second)
    (pick (eqb (natural t.code) 3) (named_value values t.first -ℚ named_value values t.second)
    (pick (eqb (natural t.code) 4) (named_value values t.first *ℚ named_value values t.second)
    (pick (eqb (natural t.code) 5) (reciprocal (named_value values t.first))
    (exact_root (named_value values t.first))))))

-- "that of an input is the fraction given": x gives input i, counted from 0, the fraction x i
unfoldable pub exact_row : Schedule → (ℕ → Fraction) → List Fraction → Fraction
exact_row c x values =
    pick (ltb (length values) (natural c.inputs)) (x (length values)) (exact_step values (step_at c (length values - natural c.inputs)))

-- the exact values of the first n rows, and of the row with index i
unfoldable pub exact_values : Schedule → (ℕ → Fraction) → ℕ → List Fraction
exact_values c x zero = []
exact_values c x (suc n) = exact_values c x n ++ (exact_row c x (exact_values c x n) ∷ [])

abbrev pub exact_value : Schedule → (ℕ → Fraction) → ℕ → Fraction
exact_value c x i = exact_row c x (exact_values c x i)

-- the own coefficient of the row with index i: that of its own symbol
abbrev pub own_of : List Row → ℕ → ℤ
own_of rows i = at (row_of rows i).linear i

-- "Give each earlier symbol its found value where it has one, and every other symbol 0."
abbrev pub symbols_of : List Fraction → ℕ → Fraction
symbols_of found i = get_or found i (whole (pos 0))

-- "The row's exact value less its form's value there, times 4096, divided by the own coefficient, is the found value: a fraction, not rounded."
-- A symbol whose own coefficient is zero has none, and 0 stands in its place.
unfoldable pub next_found : Schedule → (ℕ → Fraction) → List Row → List Fraction → Fraction
next_found c x rows found =
    pick (equal (own_of rows (length found)) (pos 0)) (whole (pos 0))
    ((exact_value c x (length found) -ℚ form_value (row_of rows (length found)) (symbols_of found)) *ℚ whole (pos unit) /ℚ whole (own_of rows (length found)))

-- "worked from the first row on": of the first n rows, and of the row with index i
unfoldable pub found_values : Schedule → (ℕ → Fraction) → List Row → ℕ → List Fraction
found_values c x rows zero = []
found_values c x rows (suc n) = found_values c x rows n ++ (next_found c x rows (found_values c x rows n) ∷ [])

abbrev pub found_value : Schedule → (ℕ → Fraction) → List Row → ℕ → Fraction
found_value c x rows i = next_found c x rows (found_values c x rows i)
