-- The ranges of rows (manual, sections 5.3 and 5.15): a row's own, its plain one, and the one that is answered.
use Rattle.std.specs.Prelude.{List, [], ◌∷◌, ◌++◌, ℕ, ◌-◌, ◌*◌, ◌≤◌, ◌≡◌, ◌≢◌, eqb, ltb, ℤ, pos, length, get_or, ◌≤ℤ◌}
use Rattle.affine.specs.declared.Row.{Row}
use Rattle.affine.specs.declared.Range.{Range}
use Rattle.affine.specs.Limits.{span_limit}
use Rattle.affine.specs.Lists.{pick, tabulate}
use Rattle.affine.specs.Row.{form_range}
use Rattle.affine.specs.Steps.{constant_row, ends_range}
use Rattle.interval.specs.Interval.{overlap, RangeWithin}
use Rattle.interval.specs.Interval as interval
use Rattle.sheet.specs.declared.Step.{Step}
use Rattle.sheet.specs.declared.Schedule.{Schedule}
use Rattle.sheet.specs.Limits.{last_binary, last_code}
use Rattle.sheet.specs.Lines.{natural, ends_at, step_at}
use Rattle.evaluation.specs.Table.{range_width, range_at}

-- the row with index i
abbrev pub row_of : List Row → ℕ → Row
row_of rows i = get_or rows i (constant_row (pos 0))

-- The own range of the row with index i: "an input row's range is its own low and high", and that of any other row the range of its form. It is the one
-- that the row's answer tells (`proofs/OwnRanges.antt`).
abbrev pub own_range : Schedule → ℕ → Row → Range
own_range c i r = pick (ltb i (natural c.inputs)) (ends_range (ends_at c i).low (ends_at c i).high) (form_range r)

unfoldable pub own_ranges : Schedule → List Row → List Range
own_ranges c rows = tabulate (length rows) (λ i. own_range c i (row_of rows i))

-- the range that a step names, among those of the rows before the step
abbrev pub named_range : List Range → ℤ → Range
named_range ranges n = get_or ranges (natural n - 1) (ends_range (pos 0) (pos 0))

-- "Each row also gets a plain range by section 2.1 of source document 000, .. from the answered ranges of its operands": of a step's row, from the answered
-- ranges of the rows that its code names, or from the value of a constant.
unfoldable pub plain_step : Step → Range → Range → Range
plain_step t x y =
    pick (eqb (natural t.code) 1) (interval.exactly t.value)
    (pick (eqb (natural t.code) 2) (interval.sum x y)
    (pick (eqb (natural t.code) 3) (interval.difference x y)
    (pick (eqb (natural t.code) 4) (interval.product x y)
    (pick (eqb (natural t.code) 5) (interval.reciprocal x)
    (interval.root x)))))

-- of the row after those that have these answered ranges: an input's ends, or a step's
unfoldable pub plain_range : Schedule → List Range → Range
plain_range c told =
    let t = step_at c (length told - natural c.inputs) in
    pick (ltb (length told) (natural c.inputs))
    (ends_range (ends_at c (length told)).low (ends_at c (length told)).high)
    (plain_step t (named_range told t.first) (named_range told t.second))

-- "The answered and printed range is the overlap with the row's own": row after row, the own ranges given
unfoldable pub answered : Schedule → List Range → List Range → List Range
answered c told [] = told
answered c told (own ∷ later) = answered c (told ++ (overlap own (plain_range c told) ∷ [])) later

-- the answered ranges of rows, which are told, printed and kept in the second table
abbrev pub answered_ranges : Schedule → List Row → List Range
answered_ranges c rows = answered c [] (own_ranges c rows)

-- "The tests for 7 and 12, and the distances in reciprocal and root, still use the row's own range, for inputs their ends."
abbrev pub operand_ranges : Schedule → List Row → List Range
operand_ranges c rows = own_ranges c rows

-- ---- what the code asks of the ranges that a step names (not of the specification): the second table holds them, each within the span limit; that of a
-- divisor has 0 at neither end, that of a radicand begins and ends from 1 on
pub record Held (ranges : List ℤ) (z : ℤ) : Type 0 where
  pub is : z ≡ pos (natural z)
  pub some : 1 ≤ natural z
  pub room : range_width * natural z ≤ length ranges
  pub within : RangeWithin span_limit (range_at ranges (natural z - 1))

pub record PlainOperands (ranges : List ℤ) (t : Step) : Type 0 where
  pub code_from : 1 ≤ natural t.code
  pub code_to : natural t.code ≤ last_code
  pub first : 2 ≤ natural t.code → Held ranges t.first
  pub second : 2 ≤ natural t.code → natural t.code ≤ last_binary → Held ranges t.second
  pub apart : natural t.code ≡ 5 → let x = range_at ranges (natural t.first - 1) in (x.low ≢ pos 0) × (x.high ≢ pos 0)
  pub above : natural t.code ≡ 6 → let x = range_at ranges (natural t.first - 1) in (pos 1 ≤ℤ x.low) × (pos 1 ≤ℤ x.high)
