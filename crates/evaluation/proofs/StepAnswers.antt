-- The answer of a row whose earlier rows stand in a table, and their ranges in a second: an input's, or a step's by its code, from the rows and the
-- range read where its fields say.
use mathlib.Core.Path.{◌≡◌, sym, ap, ap₂, ◌∙◌, subst}
use mathlib.Core.List.{List}
use Prim.Native.Nat.{ℕ, ◌-◌, ◌≤◌, ◌<◌}
use native.Mathlib.Omega.{arith}
use borrow.Author.Tests.{ne_eqb, le-leb, lt-leb}
use lib.IntN.{ℤ, pos}
use lib.ListN.{length}
use Rattle.affine.specs.declared.Row.{Row}
use Rattle.affine.specs.declared.Range.{Range}
use Rattle.affine.specs.Answer.{Answer}
use Rattle.affine.specs.Limits.{span_limit}
use Rattle.affine.specs.Lists.{at}
use Rattle.affine.specs.Row.{span, NoneFrom}
use Rattle.affine.specs.Steps.{constant_row, checked, input_answer}
use Rattle.affine.proofs.Lists.{length_tabulate, get_or_tabulate}
use Rattle.affine.specs.Root.{Centred}
use Rattle.sheet.specs.declared.Step.{Step}
use Rattle.sheet.specs.declared.Schedule.{Schedule}
use Rattle.sheet.specs.Lines.{natural, ends_at, step_at}
use Rattle.sheet.specs.Limits.{last_binary}
use Rattle.sheet.proofs.Passing.{Natural, StepPassed}
use Rattle.evaluation.specs.Operation.{index_of, Binary, Unary, Nullary}
use Rattle.evaluation.specs.Table.{row_at, range_at, rows_in, ranges_in, RowsWithin, Operands, RangesOf}
use Rattle.evaluation.specs.Ranges.{named_range, operand_ranges}
use Rattle.evaluation.specs.Work.{named_row, binary_answer, unary_answer, step_answer, row_answer}
use Rattle.evaluation.proofs.RowLines.{row_answer_input, row_answer_step}
use Rattle.evaluation.proofs.OwnRanges.{no_range}

pub length_rows_in : (table : List ℤ) (n : ℕ) → length (rows_in table n) ≡ n
unfolding rows_in
length_rows_in table n = length_tabulate n (row_at table)

named_row_rows_in : (table : List ℤ) (n : ℕ) (z : ℤ) → Natural 1 n z → named_row (rows_in table n) z ≡ row_at table (natural z - 1)
unfolding rows_in
named_row_rows_in table n z h = get_or_tabulate n (row_at table) (constant_row (pos 0)) (natural z - 1) (omega (arith, h.from, h.to))

named_range_ranges_in : (ranges : List ℤ) (n : ℕ) (z : ℤ) → Natural 1 n z → named_range (ranges_in ranges n) z ≡ range_at ranges (natural z - 1)
unfolding ranges_in
named_range_ranges_in ranges n z h = get_or_tabulate n (range_at ranges) no_range (natural z - 1) (omega (arith, h.from, h.to))

-- a row read from the first n of a table
module _ {table : List ℤ} {n k : ℕ} (within : RowsWithin table n) (earlier : k < n) where
  pub read_span : {x : Row} → x ≡ row_at table k → span x ≤ span_limit
  read_span read = subst (λ r. span r ≤ span_limit) (sym read) (within.spans k earlier)

-- such a row as an operand of the row with index n
module _ {table : List ℤ} {radii : List ℕ} {n k : ℕ} (operands : Operands table radii n) (earlier : k < n) where
  pub read_none : {x : Row} → x ≡ row_at table k → NoneFrom n x.linear
  read_none read m l = subst (λ r. at r.linear m ≡ pos 0) (sym read) (operands.none_later k earlier m (omega (arith, earlier, l)))

-- a range read from the first n of the second, with its row
pub read_centred : {table ranges : List ℤ} {n k : ℕ} → RangesOf table ranges n → k < n → {x : Row} {range : Range} → x ≡ row_at table k → range ≡ range_at ranges k → Centred range x
read_centred {table} {ranges} {n} {k} of earlier {x} {range} row_read range_read =
    subst (λ r. Centred range r) (sym row_read) (subst (λ r. Centred r (row_at table k)) (sym range_read) (of.centred k earlier))

-- the row at the index that a field names, and its range
module _ {n k : ℕ} {z : ℤ} (named : Natural 1 n z) (index : k ≡ index_of z) where
  named_earlier : k < n
  named_earlier = omega (arith, named.from, named.to)

  named_is : (table : List ℤ) {x : Row} → x ≡ row_at table k → x ≡ named_row (rows_in table n) z
  named_is table read = read ∙ ap (row_at table) index ∙ sym (named_row_rows_in table n z named)

  named_range_is : (ranges : List ℤ) {r : Range} → r ≡ range_at ranges k → r ≡ named_range (ranges_in ranges n) z
  named_range_is ranges read = read ∙ ap (range_at ranges) index ∙ sym (named_range_ranges_in ranges n z named)

-- the answer, by the code
module _ (squares : ℕ) (table ranges : List ℤ) (n : ℕ) (t : Step) where
  pub unary_step : {a : Answer} {x : Row} {range : Range} → last_binary < natural t.code → x ≡ named_row (rows_in table n) t.first
      → range ≡ named_range (ranges_in ranges n) t.first → a ≡ unary_answer squares n t.code x range
      → a ≡ step_answer squares (rows_in table n) (ranges_in ranges n) t
  unfolding step_answer
  unary_step {a} {x} {range} unary named told q =
      q
      ∙ ap (λ m. unary_answer squares m t.code x range) (sym (length_rows_in table n))
      ∙ ap₂ (unary_answer squares (length (rows_in table n)) t.code) named told
      ∙ rw (ne_eqb (natural t.code) 1 (λ e. omega arith), lt-leb (natural t.code) last_binary unary)

  pub binary_step : {a : Answer} {x y : Row} → (natural t.code ≡ 1 → ⊥) → natural t.code ≤ last_binary
      → x ≡ named_row (rows_in table n) t.first → y ≡ named_row (rows_in table n) t.second → a ≡ binary_answer squares n t.code x y
      → a ≡ step_answer squares (rows_in table n) (ranges_in ranges n) t
  unfolding step_answer
  binary_step {a} {x} {y} not_constant binary first second q =
      q
      ∙ ap (λ m. binary_answer squares m t.code x y) (sym (length_rows_in table n))
      ∙ ap₂ (binary_answer squares (length (rows_in table n)) t.code) first second
      ∙ rw (ne_eqb _ 1 not_constant, le-leb (natural t.code) last_binary binary)

-- the answer of a step that passed where n rows are earlier, by its operation
module _ {n : ℕ} {t : Step} (passed : StepPassed n t.code t.first t.second t.value) where
  module _ {code i j : ℕ} (does : Binary code i j t) (from : 2 ≤ code) (to : code ≤ last_binary) where
    first_named : Natural 1 n t.first
    first_named = passed.first_row (omega (arith, does.by_code, from))

    second_named : Natural 1 n t.second
    second_named = passed.second_row (omega (arith, does.by_code, from)) (omega (arith, does.by_code, to))

    first_earlier : i < n
    first_earlier = named_earlier first_named does.first_is

    second_earlier : j < n
    second_earlier = named_earlier second_named does.second_is

    -- as operands of the new row
    pub both_none : {table : List ℤ} {radii : List ℕ} → Operands table radii n → {x y : Row} → x ≡ row_at table i → y ≡ row_at table j
        → NoneFrom n x.linear × NoneFrom n y.linear
    both_none operands first second = (read_none operands first_earlier first, read_none operands second_earlier second)

    pub two_rows : (squares : ℕ) (table ranges : List ℤ) {a : Answer} {x y : Row} → x ≡ row_at table i → y ≡ row_at table j
        → a ≡ binary_answer squares n t.code x y → a ≡ step_answer squares (rows_in table n) (ranges_in ranges n) t
    two_rows squares table ranges first second q =
        binary_step squares table ranges n t (λ e. omega (arith, does.by_code, from)) (omega (arith, does.by_code, to))
        (named_is first_named does.first_is table first) (named_is second_named does.second_is table second) q

  module _ {code i : ℕ} (does : Unary code i t) (from : last_binary < code) where
    only_named : Natural 1 n t.first
    only_named = passed.first_row (omega (arith, does.by_code, from))

    pub only_earlier : i < n
    only_earlier = named_earlier only_named does.first_is

    pub one_row : (squares : ℕ) (table ranges : List ℤ) {a : Answer} {x : Row} {range : Range} → x ≡ row_at table i → range ≡ range_at ranges i
        → a ≡ unary_answer squares n t.code x range → a ≡ step_answer squares (rows_in table n) (ranges_in ranges n) t
    one_row squares table ranges read told q =
        unary_step squares table ranges n t (omega (arith, does.by_code, from))
        (named_is only_named does.first_is table read) (named_range_is only_named does.first_is ranges told) q

pub no_row : {v : ℤ} {t : Step} → Nullary v t → (squares n : ℕ) (table ranges : List ℤ) {a : Answer} → a ≡ checked (constant_row v)
    → a ≡ step_answer squares (rows_in table n) (ranges_in ranges n) t
unfolding step_answer
no_row does squares n table ranges q = q ∙ ap (λ v. checked (constant_row v)) does.value_is ∙ rw does.by_code

-- the answer, by the row's line
module _ (c : Schedule) (table ranges : List ℤ) (n : ℕ) where
  pub input_answer_lem : {a : Answer} → n < natural c.inputs → a ≡ input_answer n (ends_at c n).low (ends_at c n).high → a ≡ row_answer c (rows_in table n)
  input_answer_lem h q = q ∙ sym (row_answer_input c (rows_in table n) n (length_rows_in table n) h)

  -- squares and inputs: the counts, as read; the second table holds the own ranges
  pub step_answer_lem : {a : Answer} {squares inputs : ℕ} → squares ≡ natural c.squares → inputs ≡ natural c.inputs → natural c.inputs ≤ n
      → ranges_in ranges n ≡ operand_ranges c (rows_in table n)
      → a ≡ step_answer squares (rows_in table n) (ranges_in ranges n) (step_at c (n - inputs)) → a ≡ row_answer c (rows_in table n)
  step_answer_lem {a} {squares} {inputs} e f h own q =
      q
      ∙ ap₂ (λ s k. step_answer s (rows_in table n) (ranges_in ranges n) (step_at c (n - k))) e f
      ∙ ap (λ l. step_answer (natural c.squares) (rows_in table n) l (step_at c (n - natural c.inputs))) own
      ∙ sym (row_answer_step c (rows_in table n) n (length_rows_in table n) h)
