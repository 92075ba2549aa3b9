-- How each row of accepted work, and beside it its exact value and its plain range, is made from earlier ones: by cases on its line.
use mathlib.Core.Path.{◌≡◌, refl, sym, ap, ap₂, ◌∙◌, subst}
use mathlib.Core.Logic.{◌⊎◌, inl, inr}
use mathlib.Core.Bool.{false}
use mathlib.Core.List.{List}
use Prim.Native.Nat.{ℕ, zero, suc, ◌+◌, ◌-◌, ◌≤◌, ◌<◌}
use native.Mathlib.Omega.{arith}
use lib.IntN.{ℤ, pos}
use lib.ListN.{length}
use Rattle.integer.specs.Fraction.{Fraction, ◌+ℚ◌, ◌-ℚ◌, ◌*ℚ◌, reciprocal as reciprocal_of}
use Rattle.affine.specs.declared.Row.{Row}
use Rattle.affine.specs.declared.Range.{Range}
use Rattle.affine.specs.Answer.{Accepted}
use Rattle.affine.specs.Row.{form_range}
use Rattle.affine.specs.Steps.{constant_row, input_row, ends_range, add_rows, subtract_rows, checked}
use Rattle.affine.specs.Product.{product, product_row}
use Rattle.affine.specs.Reciprocal.{reciprocal, reciprocal_row, zero_in_range, distance}
use Rattle.affine.specs.Root.{root_candidate, root_row, below_one, starts_below_zero, square_root}
use Rattle.affine.proofs.Answers.{checked_accepted}
use Rattle.interval.specs.Interval as interval
use Rattle.sheet.specs.declared.Step.{Step}
use Rattle.sheet.specs.declared.Schedule.{Schedule}
use Rattle.sheet.specs.Lines.{natural, ends_at, step_at}
use Rattle.sheet.specs.Limits.{last_binary, last_code}
use Rattle.sheet.proofs.Passing.{Natural, StepPassed}
use Rattle.sheet.proofs.Passed.{Passed}
use Rattle.evaluation.specs.Work.{row_count, named_row, binary_answer, unary_answer, step_answer, row_answer}
use Rattle.evaluation.specs.Ranges.{own_range, named_range, plain_step, operand_ranges}
use Rattle.evaluation.specs.Values.{in_units, named_value, exact_root, exact_step, exact_values, exact_value}
use Rattle.evaluation.proofs.Sequence.{length_grown, get_or_grown}
use Rattle.evaluation.proofs.ExactRows.{named_value_lem, input_value, step_value}
use Rattle.evaluation.proofs.Induction.{lt_or_ge}
use Rattle.evaluation.proofs.RowLines.{row_answer_input, row_answer_step, step_of_row}
use Rattle.evaluation.proofs.OwnRanges.{no_range, own_range_at}
use Rattle.evaluation.proofs.AnsweredRanges.{told_up_to, plain_at, told_at, named_told, plain_input, plain_step_lem}
use Rattle.evaluation.proofs.WorkLaws.{next_row, rows_up_to, Begun, Inverted, reciprocal_accepted, Rooted, root_accepted}

-- ---- the code of a step
data Code : ℕ → Type 0 where
  is_1 : Code 1
  is_2 : Code 2
  is_3 : Code 3
  is_4 : Code 4
  is_5 : Code 5
  is_6 : Code 6

code_of : (k : ℕ) → 1 ≤ k → k ≤ last_code → Code k
code_of zero l h = absurd (omega arith)
code_of (suc zero) l h = is_1
code_of (suc (suc zero)) l h = is_2
code_of (suc (suc (suc zero))) l h = is_3
code_of (suc (suc (suc (suc zero)))) l h = is_4
code_of (suc (suc (suc (suc (suc zero))))) l h = is_5
code_of (suc (suc (suc (suc (suc (suc zero)))))) l h = is_6
code_of (suc (suc (suc (suc (suc (suc (suc k))))))) l h = absurd (omega arith)

module _ (c : Schedule) (passed : Passed c) (x : ℕ → Fraction) where
  -- the row with index n, its own range, its plain and its answered one, and its exact value
  abbrev pub row : ℕ → Row
  row n = next_row c (rows_up_to c n)

  abbrev pub range : ℕ → Range
  range n = own_range c n (row n)

  abbrev P : ℕ → Range
  P n = plain_at c n

  abbrev A : ℕ → Range
  A n = told_at c n

  abbrev pub value : ℕ → Fraction
  value n = exact_value c x n

  abbrev squares : ℕ
  squares = natural c.squares

  pub data Made (n : ℕ) : Type 0 where
    is_input : n < natural c.inputs → row n ≡ input_row n (ends_at c n).low (ends_at c n).high → value n ≡ x n
        → P n ≡ ends_range (ends_at c n).low (ends_at c n).high → Made n
    is_constant : natural c.inputs ≤ n → (v : ℤ) → row n ≡ constant_row v → value n ≡ in_units v → P n ≡ interval.exactly v → Made n
    is_sum : natural c.inputs ≤ n → (i j : ℕ) → i < n → j < n → row n ≡ add_rows (row i) (row j) → value n ≡ value i +ℚ value j
        → P n ≡ interval.sum (A i) (A j) → Made n
    is_difference : natural c.inputs ≤ n → (i j : ℕ) → i < n → j < n → row n ≡ subtract_rows (row i) (row j) → value n ≡ value i -ℚ value j
        → P n ≡ interval.difference (A i) (A j) → Made n
    is_product : natural c.inputs ≤ n → (i j : ℕ) → i < n → j < n → row n ≡ product_row squares n (row i) (row j) → value n ≡ value i *ℚ value j
        → P n ≡ interval.product (A i) (A j) → Made n
    is_reciprocal : natural c.inputs ≤ n → (i : ℕ) → i < n → zero_in_range (range i) ≡ false → row n ≡ reciprocal_row squares n (row i) (distance (range i))
        → value n ≡ reciprocal_of (value i) → P n ≡ interval.reciprocal (A i) → Made n
    is_root : natural c.inputs ≤ n → (i : ℕ) → i < n → below_one (range i) ≡ false → starts_below_zero (root_candidate (row i)) ≡ false
        → row n ≡ root_row squares n (row i) (range i).low → value n ≡ exact_root (value i) → P n ≡ interval.root (A i) → Made n

  -- a row that is named is the row of that number
  named_row_lem : (n : ℕ) (z : ℤ) → Natural 1 n z → named_row (rows_up_to c n) z ≡ row (natural z - 1)
  named_row_lem n z h = get_or_grown (next_row c) n (constant_row (pos 0)) (natural z - 1) (omega (arith, h.from, h.to))

  named_range_lem : (n : ℕ) (z : ℤ) → Natural 1 n z → named_range (operand_ranges c (rows_up_to c n)) z ≡ range (natural z - 1)
  named_range_lem n z h =
      own_range_at c (rows_up_to c n) no_range (natural z - 1) (omega (arith, h.from, h.to, length_grown (next_row c) n))
      ∙ ap (own_range c (natural z - 1)) (named_row_lem n z h)

  named_before : (n : ℕ) (z : ℤ) → Natural 1 n z → natural z - 1 < n
  named_before n z h = omega (arith, h.from, h.to)

  -- a step's row, by its code
  module _ (n : ℕ) (late : natural c.inputs ≤ n) (t : Step) (step : StepPassed n t.code t.first t.second t.value)
      (status : (step_answer squares (rows_up_to c n) (operand_ranges c (rows_up_to c n)) t).status ≡ Accepted)
      (row_is : row n ≡ (step_answer squares (rows_up_to c n) (operand_ranges c (rows_up_to c n)) t).row) (value_is : value n ≡ exact_step (exact_values c x n) t)
      (plain_is : P n ≡ plain_step t (named_range (told_up_to c n) t.first) (named_range (told_up_to c n) t.second)) where
    first_named : 2 ≤ natural t.code → Natural 1 n t.first
    first_named h = step.first_row h

    second_named : 2 ≤ natural t.code → natural t.code ≤ last_binary → Natural 1 n t.second
    second_named h l = step.second_row h l

    rows : List Row
    rows = rows_up_to c n

    values : List Fraction
    values = exact_values c x n

    ranges : List Range
    ranges = told_up_to c n

    -- a reciprocal that was accepted
    reciprocal_made : natural t.code ≡ 5 → step_answer squares rows (operand_ranges c rows) t ≡ reciprocal squares (length rows) (named_row rows t.first) (named_range (operand_ranges c rows) t.first)
    unfolding step_answer unary_answer
    reciprocal_made e = rw e

    inverted : natural t.code ≡ 5 → Inverted squares (length rows) (named_row rows t.first) (named_range (operand_ranges c rows) t.first)
    unfolding rows
    inverted e =
        reciprocal_accepted squares (length (rows_up_to c n)) (named_row (rows_up_to c n) t.first) (named_range (operand_ranges c (rows_up_to c n)) t.first)
        (rw (reciprocal_made e) at status)

    divisor_apart : natural t.code ≡ 5 → zero_in_range (range (natural t.first - 1)) ≡ false
    unfolding rows
    divisor_apart e = ap zero_in_range (sym (named_range_lem n t.first (first_named (omega (arith, e))))) ∙ (inverted e).apart

    -- a root that was accepted
    root_made : natural t.code ≡ 6 → step_answer squares rows (operand_ranges c rows) t ≡ square_root squares (length rows) (named_row rows t.first) (named_range (operand_ranges c rows) t.first)
    unfolding step_answer unary_answer
    root_made e = rw e

    rooted : natural t.code ≡ 6 → Rooted squares (length rows) (named_row rows t.first) (named_range (operand_ranges c rows) t.first)
    unfolding rows
    rooted e =
        root_accepted squares (length (rows_up_to c n)) (named_row (rows_up_to c n) t.first) (named_range (operand_ranges c (rows_up_to c n)) t.first)
        (rw (root_made e) at status)

    radicand_some : natural t.code ≡ 6 → below_one (range (natural t.first - 1)) ≡ false
    unfolding rows
    radicand_some e = ap below_one (sym (named_range_lem n t.first (first_named (omega (arith, e))))) ∙ (rooted e).some

    by_code : (k : ℕ) → natural t.code ≡ k → Code k → Made n
    unfolding step_answer binary_answer exact_step plain_step rows values ranges
    by_code k e is_1 =
        is_constant late t.value
        (row_is ∙ rw e (ap (λ a. a.row) (checked_accepted (constant_row t.value) (form_range (constant_row t.value)) (rw e at status))))
        (value_is ∙ rw e)
        (plain_is ∙ rw e)
    by_code k e is_2 =
        let p = first_named (omega (arith, e)) in
        let q = second_named (omega (arith, e)) (omega (arith, e)) in
        let made : step_answer squares rows (operand_ranges c rows) t ≡ checked (add_rows (named_row rows t.first) (named_row rows t.second)) = rw e in
        let exact : exact_step values t ≡ named_value values t.first +ℚ named_value values t.second = rw e in
        let plain_by : plain_step t (named_range ranges t.first) (named_range ranges t.second) ≡ interval.sum (named_range ranges t.first) (named_range ranges t.second) = rw e in
        is_sum late (natural t.first - 1) (natural t.second - 1) (named_before n t.first p) (named_before n t.second q)
        (row_is ∙ ap (λ a. a.row) (made ∙ checked_accepted _ _ (rw made at status)) ∙ ap₂ add_rows (named_row_lem n t.first p) (named_row_lem n t.second q))
        (value_is ∙ exact ∙ ap₂ (λ a b. a +ℚ b) (named_value_lem c x n t.first p) (named_value_lem c x n t.second q))
        (plain_is ∙ plain_by ∙ ap₂ interval.sum (named_told c n t.first p) (named_told c n t.second q))
    by_code k e is_3 =
        let p = first_named (omega (arith, e)) in
        let q = second_named (omega (arith, e)) (omega (arith, e)) in
        let made : step_answer squares rows (operand_ranges c rows) t ≡ checked (subtract_rows (named_row rows t.first) (named_row rows t.second)) = rw e in
        let exact : exact_step values t ≡ named_value values t.first -ℚ named_value values t.second = rw e in
        let plain_by : plain_step t (named_range ranges t.first) (named_range ranges t.second) ≡ interval.difference (named_range ranges t.first) (named_range ranges t.second) = rw e in
        is_difference late (natural t.first - 1) (natural t.second - 1) (named_before n t.first p) (named_before n t.second q)
        (row_is ∙ ap (λ a. a.row) (made ∙ checked_accepted _ _ (rw made at status)) ∙ ap₂ subtract_rows (named_row_lem n t.first p) (named_row_lem n t.second q))
        (value_is ∙ exact ∙ ap₂ (λ a b. a -ℚ b) (named_value_lem c x n t.first p) (named_value_lem c x n t.second q))
        (plain_is ∙ plain_by ∙ ap₂ interval.difference (named_told c n t.first p) (named_told c n t.second q))
    by_code k e is_4 =
        let p = first_named (omega (arith, e)) in
        let q = second_named (omega (arith, e)) (omega (arith, e)) in
        let made : step_answer squares rows (operand_ranges c rows) t ≡ product squares (length rows) (named_row rows t.first) (named_row rows t.second) = rw e in
        let exact : exact_step values t ≡ named_value values t.first *ℚ named_value values t.second = rw e in
        let plain_by : plain_step t (named_range ranges t.first) (named_range ranges t.second) ≡ interval.product (named_range ranges t.first) (named_range ranges t.second) = rw e in
        is_product late (natural t.first - 1) (natural t.second - 1) (named_before n t.first p) (named_before n t.second q)
        (row_is ∙ ap (λ a. a.row) (made ∙ checked_accepted _ _ (rw made at status))
        ∙ ap (λ m. product_row squares m (named_row rows t.first) (named_row rows t.second)) (length_grown (next_row c) n)
        ∙ ap₂ (product_row squares n) (named_row_lem n t.first p) (named_row_lem n t.second q))
        (value_is ∙ exact ∙ ap₂ (λ a b. a *ℚ b) (named_value_lem c x n t.first p) (named_value_lem c x n t.second q))
        (plain_is ∙ plain_by ∙ ap₂ interval.product (named_told c n t.first p) (named_told c n t.second q))
    by_code k e is_5 =
        let p = first_named (omega (arith, e)) in
        let exact : exact_step values t ≡ reciprocal_of (named_value values t.first) = rw e in
        let plain_by : plain_step t (named_range ranges t.first) (named_range ranges t.second) ≡ interval.reciprocal (named_range ranges t.first) = rw e in
        let w = inverted e in
        is_reciprocal late (natural t.first - 1) (named_before n t.first p) (divisor_apart e)
        (row_is ∙ ap (λ a. a.row) (reciprocal_made e) ∙ w.row
        ∙ ap (λ m. reciprocal_row squares m (named_row rows t.first) (distance (named_range (operand_ranges c rows) t.first))) (length_grown (next_row c) n)
        ∙ ap₂ (λ r a. reciprocal_row squares n r (distance a)) (named_row_lem n t.first p) (named_range_lem n t.first p))
        (value_is ∙ exact ∙ ap reciprocal_of (named_value_lem c x n t.first p))
        (plain_is ∙ plain_by ∙ ap interval.reciprocal (named_told c n t.first p))
    by_code k e is_6 =
        let p = first_named (omega (arith, e)) in
        let exact : exact_step values t ≡ exact_root (named_value values t.first) = rw e in
        let plain_by : plain_step t (named_range ranges t.first) (named_range ranges t.second) ≡ interval.root (named_range ranges t.first) = rw e in
        let w = rooted e in
        is_root late (natural t.first - 1) (named_before n t.first p) (radicand_some e)
        (ap (λ r. starts_below_zero (root_candidate r)) (sym (named_row_lem n t.first p)) ∙ w.starts)
        (row_is ∙ ap (λ a. a.row) (root_made e) ∙ w.row
        ∙ ap (λ m. root_row squares m (named_row rows t.first) (named_range (operand_ranges c rows) t.first).low) (length_grown (next_row c) n)
        ∙ ap₂ (λ r (a : Range). root_row squares n r a.low) (named_row_lem n t.first p) (named_range_lem n t.first p))
        (value_is ∙ exact ∙ ap exact_root (named_value_lem c x n t.first p))
        (plain_is ∙ plain_by ∙ ap interval.root (named_told c n t.first p))

  -- the line of a row, and what is known of a step's
  module _ {count : ℕ} (begun : Begun c count) (n : ℕ) (h : n < count) where
    long : length (rows_up_to c n) ≡ n
    long = length_grown (next_row c) n

    module _ (l : natural c.inputs ≤ n) where
      abbrev t : Step
      t = step_at c (n - natural c.inputs)

      answer : row_answer c (rows_up_to c n) ≡ step_answer squares (rows_up_to c n) (operand_ranges c (rows_up_to c n)) t
      answer = row_answer_step c (rows_up_to c n) n long l

      step_passed : StepPassed n t.code t.first t.second t.value
      step_passed = step_of_row c passed n (omega (arith, begun.few)) l

      status : (step_answer squares (rows_up_to c n) (operand_ranges c (rows_up_to c n)) t).status ≡ Accepted
      status = rw answer at (begun.goes.each n h)

      made_by_step : Made n
      made_by_step =
          by_code n l t step_passed status (ap (λ a. a.row) answer) (step_value c x n l) (plain_step_lem c n l)
          (natural t.code) refl (code_of (natural t.code) step_passed.code_in.from step_passed.code_in.to)

      pub divided : natural t.code ≡ 5 → (natural t.first - 1 < n) × (zero_in_range (range (natural t.first - 1)) ≡ false)
      divided e = (
        named_before n t.first (step_passed.first_row (omega (arith, e))),
        divisor_apart n l t step_passed status (ap (λ a. a.row) answer) (step_value c x n l) (plain_step_lem c n l) e,
      )

      pub taken : natural t.code ≡ 6 → (natural t.first - 1 < n) × (below_one (range (natural t.first - 1)) ≡ false)
      taken e = (
        named_before n t.first (step_passed.first_row (omega (arith, e))),
        radicand_some n l t step_passed status (ap (λ a. a.row) answer) (step_value c x n l) (plain_step_lem c n l) e,
      )

    pub made : Made n
    made = by_line (lt_or_ge n (natural c.inputs))
      where
        by_line : (n < natural c.inputs) ⊎ (natural c.inputs ≤ n) → Made n
        by_line (inl l) =
            let e = row_answer_input c (rows_up_to c n) n long l in
            is_input l (ap (λ a. a.row) (e ∙ checked_accepted _ _ (rw e at (begun.goes.each n h)))) (input_value c x n l) (plain_input c n l)
        by_line (inr l) = made_by_step l

  -- the row that step j names, an earlier one of whose range a test said no
  module _ (P : Range → Type 0) (j k : ℕ) (h : j < natural c.steps) (e : natural (step_at c j).code ≡ k)
      (of_row : (n : ℕ) (h : n < row_count c) (l : natural c.inputs ≤ n) → let t = step_at c (n - natural c.inputs) in
      natural t.code ≡ k → (natural t.first - 1 < n) × P (range (natural t.first - 1))) where
    named_by : (natural (step_at c j).first - 1 < row_count c) × P (range (natural (step_at c j).first - 1))
    named_by =
        let n = natural c.inputs + j in
        let m : n - natural c.inputs ≡ j = omega arith in
        let d = of_row n (omega arith) (omega arith) (ap (λ i. natural (step_at c i).code) m ∙ e) in
        (subst (λ i. natural (step_at c i).first - 1 < row_count c) m (omega (arith, d.0)), subst (λ i. P (range (natural (step_at c i).first - 1))) m d.1)

  -- "An exact divisor is the exact value of the row that a reciprocal names": an earlier row, whose own range does not hold 0
  pub divisor_of : Begun c (row_count c) → (j : ℕ) → j < natural c.steps → natural (step_at c j).code ≡ 5
      → (natural (step_at c j).first - 1 < row_count c) × (zero_in_range (range (natural (step_at c j).first - 1)) ≡ false)
  divisor_of begun j h e = named_by (λ a. zero_in_range a ≡ false) j 5 h e (divided begun)

  -- the row that a root names: an earlier row, whose own range is not below 1
  pub radicand_of : Begun c (row_count c) → (j : ℕ) → j < natural c.steps → natural (step_at c j).code ≡ 6
      → (natural (step_at c j).first - 1 < row_count c) × (below_one (range (natural (step_at c j).first - 1)) ≡ false)
  radicand_of begun j h e = named_by (λ a. below_one a ≡ false) j 6 h e (taken begun)
