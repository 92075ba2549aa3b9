-- The guarantee: the induction over rows, put to work on the rows, tables and answers of the contracts. `specs/Demand3.antt` has the statement.
use mathlib.Core.Path.{◌≡◌, refl, sym, ap, ap₂, ◌∙◌, subst}
use mathlib.Core.Logic.{◌≢◌, ◌↔◌}
use mathlib.Core.Bool.{Bool, true, false}
use mathlib.Core.List.{List}
use Prim.Native.Nat.{ℕ, suc, ◌-◌, ◌<◌}
use native.Mathlib.Omega.{arith}
use borrow.Author.Tests.{eqb-false}
use lib.Dec.{eqb}
use lib.IntN.{ℤ, pos, negsuc}
use Rattle.integer.specs.Fraction.{Fraction, ◌≈◌, ◌<ℚ◌, whole}
use Rattle.integer.proofs.Ring.{con, ◌⊗◌, neg, ◌≐◌, ring}
use Rattle.integer.proofs.Fraction.{ring_of_fractions, ordered_fractions, ≈_refl, ≈_sym, ≈_trans, not_below_of-≤ℚ}
use Rattle.integer.proofs.Bound.{le_cong, le_trans, whole_le}
use Rattle.integer.proofs.Machine.{≥ℤ_of_test}
use Rattle.affine.specs.declared.Row.{Row}
use Rattle.affine.specs.Lists.{pick}
use Rattle.affine.specs.Row.{same}
use Rattle.affine.specs.Form.{form_value}
use Rattle.affine.proofs.Form.{units}
use Rattle.affine.proofs.Sameness.{same_is_equal}
use Rattle.std.specs.Prelude.{Result, Ok, Err, OnOk}
use Rattle.sheet.specs.declared.Schedule.{Schedule}
use Rattle.sheet.specs.declared.causes.Refused.{Refused}
use Rattle.sheet.specs.Results.{tested}
use Rattle.sheet.specs.Causes.{accepted}
use Rattle.sheet.specs.Lines.{natural, step_at}
use Rattle.evaluation.specs.Table.{table_after, ranges_after, row_part, row_of_numbers, range_of_numbers, row_at, range_at}
use Rattle.evaluation.specs.Work.{row_count, evaluated}
use Rattle.evaluation.specs.Ranges.{row_of, answered_ranges}
use Rattle.evaluation.specs.Asking.{range_refusal, rows_refusal, range_told, range_refused, range_of, compared, not_compared, same_of}
use Rattle.evaluation.specs.Answers.{RangeAnswer}
use Rattle.evaluation.specs.Answers.{SameAnswer}
use Rattle.evaluation.specs.Values.{in_units, Within, FromMinusOneToOne, exact_value, own_of, symbols_of, found_values, found_value}
use Rattle.evaluation.specs.Demand3.{InputsWithin, StillHolds, RangeStillHolds, Demand3, Guaranteed}
use Rattle.evaluation.proofs.Induction.{AtFound}
use Rattle.evaluation.proofs.WorkLaws.{rows_up_to, Begun}
use Rattle.sheet.proofs.Passed.{Passed}
use Rattle.evaluation.proofs.Made.{row, divisor_of, radicand_of}
use Rattle.evaluation.proofs.RowFacts.{own}
use Rattle.evaluation.proofs.RowEnclosure.{X, own_apart}
use Rattle.evaluation.proofs.AnsweredRanges.{told_at}
use Rattle.evaluation.proofs.FoundRows.{path, row_of_lem, own_of_lem, shaped, result, lies_own, lies_told}
use Rattle.evaluation.proofs.WorkedTable.{RowsInto, row_held}
use Rattle.evaluation.proofs.RowParts.{same_by_numbers}
use Rattle.evaluation.proofs.AskingLaws.{range_told_of, same_told_of}
use Rattle.evaluation.proofs.AcceptedEvaluation.{accepted_evaluation, begun_left, rows_left, rows_left_few, rows_left_within, range_left, ranges_left_ordered}
use Rattle.evaluation.proofs.FractionUnits.{scaled, scaled_form, scaled_cong, ≈_of_scaled, within_of_scaled}

-- ---- an accepted call's answer
range_told_lem : (lent lent_ranges : List ℤ) (n r : ℕ) → (range_of lent lent_ranges n r).refusal ≡ accepted → range_of lent lent_ranges n r ≡ range_told (range_at lent_ranges (r - 1))
unfolding range_of
range_told_lem lent lent_ranges n r e = by_test (eqb (range_refusal lent lent_ranges n r).number 0) refl e
  where
    told : RangeAnswer
    told = range_told (range_at lent_ranges (r - 1))

    by_test : (t : Bool) → eqb (range_refusal lent lent_ranges n r).number 0 ≡ t → (pick t told (range_refused (range_refusal lent lent_ranges n r))).refusal ≡ accepted
        → pick t told (range_refused (range_refusal lent lent_ranges n r)) ≡ told
    by_test true q e = refl
    by_test false q e = absurd (eqb-false _ _ q (ap (λ s. s.number) e))

same_told : (lent : List ℤ) (n r s : ℕ) → (same_of lent n r s).refusal ≡ accepted → same_of lent n r s ≡ compared (row_at lent (r - 1)) (row_at lent (s - 1))
unfolding same_of
same_told lent n r s e = by_test (eqb (rows_refusal lent n r s).number 0) refl e
  where
    by_test : (t : Bool) → eqb (rows_refusal lent n r s).number 0 ≡ t
        → (pick t (compared (row_at lent (r - 1)) (row_at lent (s - 1))) (not_compared (rows_refusal lent n r s))).refusal ≡ accepted
        → pick t (compared (row_at lent (r - 1)) (row_at lent (s - 1))) (not_compared (rows_refusal lent n r s)) ≡ compared (row_at lent (r - 1)) (row_at lent (s - 1))
    by_test true q e = refl
    by_test false q e = absurd (eqb-false _ _ q (ap (λ u. u.number) e))

-- ---- what an accepted evaluation leaves in both tables, over its rows
record Tables (c : Schedule) (table ranges : List ℤ) (rows : List Row) : Type 0 where
  into : RowsInto c (row_count c) table (table_after rows table)
  told : (i : ℕ) → i < row_count c → range_at (ranges_after (answered_ranges c rows) ranges) i ≡ told_at c i
  answers : (i : ℕ) → i < row_count c → (range_of (table_after rows table) (ranges_after (answered_ranges c rows) ranges) (row_count c) (suc i)).refusal ≡ accepted
  compares : (i j : ℕ) → i < row_count c → j < row_count c
      → same_of (table_after rows table) (row_count c) (suc i) (suc j) ≡ compared (row_at (table_after rows table) i) (row_at (table_after rows table) j)
  agrees : (i j : ℕ) → i < row_count c → j < row_count c
      → (same (row_at (table_after rows table) i) (row_at (table_after rows table) j) ≡ true) ↔ (row_part (table_after rows table) i ≡ row_part (table_after rows table) j)

tables_left : (c : Schedule) (table ranges : List ℤ) → (evaluated c table ranges).refusal.number ≡ 0 → Tables c table ranges (evaluated c table ranges).rows
tables_left c table ranges e =
    record {
      into = rows_left c table ranges e;
      told = range_left c table ranges e;
      answers = λ i h.
          ap (λ (r : RangeAnswer). r.refusal)
          (range_told_of _ (row_count c) (rows_left_few c table ranges e) (rows_left_within c table ranges e) _ (ranges_left_ordered c table ranges e) (suc i) (omega arith) h);
      compares = λ i j h k.
          let t = table_after (evaluated c table ranges).rows table in
          let m : suc i - 1 ≡ i = omega arith in
          let n : suc j - 1 ≡ j = omega arith in
          same_told_of t (row_count c) (rows_left_few c table ranges e) (rows_left_within c table ranges e) (suc i) (suc j) (omega arith) h (omega arith) k
          ∙ ap₂ (λ (p q : ℕ). compared (row_at t p) (row_at t q)) m n;
      agrees = λ i j h k.
          let room = (rows_left_within c table ranges e).room in
          same_by_numbers _ i j (omega arith) (omega arith);
    }

module _ (c : Schedule) (pass : Passed c) (x : ℕ → Fraction) (within : InputsWithin c x) (begun : Begun c (row_count c)) where
  abbrev count : ℕ
  count = row_count c

  abbrev rows : List Row
  rows = rows_up_to c count

  abbrev f : ℕ → Row
  f n = row c pass x n

  abbrev φ : ℕ → Fraction
  φ n = found_value c x rows n

  abbrev S : ℕ → Fraction
  S = symbols_of (found_values c x rows count)

  abbrev o : ℕ → ℕ
  o n = own c pass x begun n

  own_natural : (i : ℕ) → i < count → own_of rows i ≡ pos (o i)
  own_natural = own_of_lem c pass x within begun

  found : AtFound ordered_fractions count f o (X c pass x within begun) φ S
  found = result c pass x within begun

  -- ---- the statement's clauses
  own_nonzero : (i : ℕ) → i < count → own_of rows i ≢ pos 0 → o i ≢ 0
  own_nonzero i h d e = d (own_natural i h ∙ ap pos e)

  own_nonzero_of : (i : ℕ) → i < count → o i ≢ 0 → own_of rows i ≢ pos 0
  own_nonzero_of i h d e = d (let y : pos (o i) ≡ pos 0 = sym (own_natural i h) ∙ e in let w : o i ≡ 0 = cc in w)

  -- a form's value and a form's units
  form_is : (ε : ℕ → Fraction) (i : ℕ) → i < count → scaled (form_value (row_of rows i) ε) ≈ units ring_of_fractions (f i) ε
  form_is ε i h = ≈_trans (scaled_form (row_of rows i) ε) (path (ap (λ r. units ring_of_fractions r ε) (row_of_lem c pass x within begun i h)))

  iff : (ε : ℕ → Fraction)
      → ((i : ℕ) → i < count → exact_value c x i ≈ form_value (row_of rows i) ε) ↔ ((i : ℕ) → i < count → own_of rows i ≢ pos 0 → ε i ≈ φ i)
  iff ε = (
    (λ e i h d. found.only ε (λ i h. ≈_trans (scaled_cong (e i h)) (form_is ε i h)) i h (own_nonzero i h d)),
    (λ e i h. ≈_of_scaled (≈_trans (found.always ε (λ k l d. e k l (own_nonzero_of k l d)) i h) (≈_sym (form_is ε i h)))),
  )

  in_unit : (i : ℕ) → i < count → FromMinusOneToOne (φ i)
  in_unit i h =
      record {
        not_below = not_below_of-≤ℚ (le_cong ordered_fractions (ring ring_of_fractions 0 (neg (con (pos 1)) ≐ con (negsuc 0)) tt) (≈_refl _) (found.bounded i h).low);
        not_above = not_below_of-≤ℚ (found.bounded i h).high;
      }

  -- the exact value lies in the answered range of its row
  row_range : (i : ℕ) → i < count → Within (told_at c i).low (exact_value c x i) (told_at c i).high
  row_range i h = let l = lies_told c pass x within begun i h in within_of_scaled l.from l.to

  -- equal rows have equal exact values
  row_values : (i j : ℕ) → i < count → j < count → f i ≡ f j → exact_value c x i ≈ exact_value c x j
  row_values i j h k e =
      ≈_of_scaled (≈_trans (found.equal_there i h) (≈_trans (path (ap (λ r. units ring_of_fractions r S) e)) (≈_sym (found.equal_there j k))))

  -- ---- what the lent tables hold
  module _ (table ranges : List ℤ) (tables : Tables c table ranges rows) where
    abbrev left : List ℤ
    left = table_after rows table

    abbrev left_ranges : List ℤ
    left_ranges = ranges_after (answered_ranges c rows) ranges

    -- tables that still hold row i's numbers hold row i, and its range
    held_row : (lent : List ℤ) (i : ℕ) → i < count → StillHolds left lent i → row_at lent (suc i - 1) ≡ f i
    held_row lent i h e = let k : suc i - 1 ≡ i = omega arith in ap (row_at lent) k ∙ ap row_of_numbers e ∙ row_held tables.into i h

    held_range : (lent : List ℤ) (i : ℕ) → i < count → RangeStillHolds left_ranges lent i → range_at lent (suc i - 1) ≡ told_at c i
    held_range lent i h e = let k : suc i - 1 ≡ i = omega arith in ap (range_at lent) k ∙ ap range_of_numbers e ∙ tables.told i h

    -- ---- the answers of the calls
    in_range : (i : ℕ) → i < count → (lent lent_ranges : List ℤ) → StillHolds left lent i → RangeStillHolds left_ranges lent_ranges i
        → (n : ℕ) → (range_of lent lent_ranges n (suc i)).refusal ≡ accepted
        → Within (range_of lent lent_ranges n (suc i)).low (exact_value c x i) (range_of lent lent_ranges n (suc i)).high
    in_range i h lent lent_ranges e q n a =
        let answer : range_of lent lent_ranges n (suc i) ≡ range_told (told_at c i) = range_told_lem lent lent_ranges n (suc i) a ∙ ap range_told (held_range lent_ranges i h q) in
        subst (λ (r : RangeAnswer). Within r.low (exact_value c x i) r.high) (sym answer) (row_range i h)

    same_values : (i j : ℕ) → i < count → j < count → (lent : List ℤ) → StillHolds left lent i → StillHolds left lent j
        → (n : ℕ) → (same_of lent n (suc i) (suc j)).refusal ≡ accepted → (same_of lent n (suc i) (suc j)).same ≡ true → exact_value c x i ≈ exact_value c x j
    same_values i j h k lent p q n a y =
        let answer : same_of lent n (suc i) (suc j) ≡ compared (f i) (f j) = same_told lent n (suc i) (suc j) a ∙ ap₂ compared (held_row lent i h p) (held_row lent j k q) in
        row_values i j h k (same_is_equal (f i) (f j) (shaped c pass x within begun i h) (shaped c pass x within begun j k) (sym (ap (λ (r : SameAnswer). r.same) answer) ∙ y))

  divisor_nonzero : (j : ℕ) → j < natural c.steps → natural (step_at c j).code ≡ 5 → ¬ (exact_value c x (natural (step_at c j).first - 1) ≈ whole (pos 0))
  divisor_nonzero j h e z =
      let d = divisor_of c pass x begun j h e in
      let i = natural (step_at c j).first - 1 in
      own_apart c pass x within begun i d.1 (lies_own c pass x within begun i d.0)
      (≈_trans (scaled_cong z) (ring ring_of_fractions 1 (λ u. u ⊗ con (pos 0) ≐ con (pos 0)) tt _))

  root_of_some : (j : ℕ) → j < natural c.steps → natural (step_at c j).code ≡ 6 → ¬ (exact_value c x (natural (step_at c j).first - 1) <ℚ in_units (pos 1))
  root_of_some j h e =
      let d = radicand_of c pass x begun j h e in
      let i = natural (step_at c j).first - 1 in
      let lies = lies_own c pass x within begun i d.0 in
      (within_of_scaled (le_trans ordered_fractions (whole_le ordered_fractions (≥ℤ_of_test d.1)) lies.from) lies.to).not_below

  holds : (table ranges : List ℤ) → Tables c table ranges rows → Demand3 c rows (table_after rows table) (ranges_after (answered_ranges c rows) ranges) x
  holds table ranges tables =
      record {
        equal_exactly_at_found = iff;
        found_in_unit = λ i h d. in_unit i h;
        divisor_nonzero = divisor_nonzero;
        root_of_some = root_of_some;
        range_answered = tables.answers;
        in_range = in_range table ranges tables;
        same_values = same_values table ranges tables;
        same_answered = λ i j h k. ap (λ (r : SameAnswer). r.refusal) (tables.compares i j h k);
        same_exactly = λ i j h k.
            let t = table_after rows table in
            subst (λ (r : SameAnswer). (r.same ≡ true) ↔ (row_part t i ≡ row_part t j)) (sym (tables.compares i j h k)) (tables.agrees i j h k);
      }

-- of every schedule and lent tables whose evaluation is accepted, and all inputs within their ends
accepted_holds : (c : Schedule) (table ranges : List ℤ) → (evaluated c table ranges).refusal ≡ accepted
    → let rows = (evaluated c table ranges).rows in Guaranteed c rows (table_after rows table) (ranges_after (answered_ranges c rows) ranges)
accepted_holds c table ranges e x within =
    let n = ap (λ r. r.number) e in
    let a = accepted_evaluation c table ranges n in
    subst (λ rows. Demand3 c rows (table_after rows table) (ranges_after (answered_ranges c rows) ranges) x) (sym a.rows)
    (holds c a.pass x within (begun_left c table ranges n) table ranges (subst (Tables c table ranges) a.rows (tables_left c table ranges n)))

-- and so of what an accepted call left
pub guaranteed : (c : Schedule) (table ranges : List ℤ) {left left_ranges : List ℤ} (result : Result (Unit {0}) Refused)
    → tested result ≡ (evaluated c table ranges).refusal
    → left ≡ table_after (evaluated c table ranges).rows table
    → left_ranges ≡ ranges_after (answered_ranges c (evaluated c table ranges).rows) ranges
    → OnOk result (Guaranteed c (evaluated c table ranges).rows left left_ranges)
guaranteed c table ranges (Ok u) answer l r = rw (l, r) (accepted_holds c table ranges (sym answer))
guaranteed c table ranges (Err e) answer l r = tt
