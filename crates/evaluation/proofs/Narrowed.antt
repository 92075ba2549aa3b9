-- The second table while its own ranges are narrowed: the first i rows have their answered ranges, and behind them each row still has its own. So the next row
-- reads its own range and the answered ones that its step names, and these are such as the plain range of its code asks for.
use mathlib.Core.Path.{◌≡◌, refl, sym, ap, ap₂, ◌∙◌, subst}
use mathlib.Core.Logic.{◌⊎◌, inl, inr}
use mathlib.Core.List.{List}
use Prim.Native.Nat.{ℕ, ◌+◌, ◌-◌, ◌*◌, ◌≤◌, ◌<◌}
use native.Mathlib.Numerals.{add-one}
use native.Mathlib.Omega.{arith}
use borrow.Author.Tests.{lt-ltb}
use lib.IntN.{ℤ, pos}
use lib.ListN.{length, get_or}
use lib.Seq.{paste}
use lib.Signed.{◌≤ℤ◌}
use Rattle.integer.specs.Fraction.{Fraction, whole}
use Rattle.integer.proofs.Machine.{≥ℤ_of_test}
use Rattle.integer.proofs.Order.{≤ℤ_trans}
use Rattle.affine.specs.declared.Range.{Range}
use Rattle.affine.specs.Limits.{span_limit}
use Rattle.affine.specs.Steps.{constant_row, ends_range}
use Rattle.affine.proofs.Lists.{get_or_tabulate}
use Rattle.interval.specs.Interval.{overlap, RangeWithin}
use Rattle.interval.proofs.Holds.{OneSide, not_zero}
use Rattle.sheet.specs.declared.Step.{Step}
use Rattle.sheet.specs.declared.Schedule.{Schedule}
use Rattle.sheet.specs.Lines.{natural, ends_at, step_at}
use Rattle.sheet.specs.Limits.{last_binary}
use Rattle.sheet.proofs.Passed.{Passed}
use Rattle.sheet.proofs.Passing.{Natural, StepPassed}
use Rattle.evaluation.specs.Table.{range_width, range_numbers, range_at, ranges_in, ranges_after}
use Rattle.evaluation.specs.Work.{row_count, worked}
use Rattle.evaluation.specs.Ranges.{own_range, own_ranges, plain_step, answered_ranges, Held, PlainOperands}
use Rattle.evaluation.proofs.Sequence.{grown, grown_suc, length_grown, get_or_grown}
use Rattle.evaluation.proofs.Induction.{lt_or_ge}
use Rattle.evaluation.proofs.RowLines.{step_of_row}
use Rattle.evaluation.proofs.WorkLaws.{next_row, rows_up_to, Begun, Done, begun_of, went}
use Rattle.evaluation.proofs.OwnRanges.{no_range, length_own, own_range_at}
use Rattle.evaluation.proofs.AnsweredRanges.{next_told, told_up_to, own_at, plain_at, told_at, told_is, answered_grown, length_told, plain_input, plain_step_lem, told_from, told_within, told_one_side}
use Rattle.evaluation.proofs.Made.{divided, taken}
use Rattle.evaluation.proofs.NeverEmpty.{told_ordered}
use Rattle.evaluation.proofs.TableLaws.{nothing_after, after_again}
use Rattle.evaluation.proofs.WorkedTable.{length_ranges_after, range_at_ranges_after, range_at_beyond, ranges_in_ranges_after, ranges_after_more}

-- at first no row is narrowed
pub none_narrowed : (c : Schedule) (lent : List ℤ) → lent ≡ ranges_after (told_up_to c 0) lent
unfolding grown
none_narrowed c lent = sym (nothing_after range_width range_numbers lent)

-- the second table as it is lent: it holds the own ranges of so many rows, none of them refused
pub record OwnHeld (c : Schedule) (rows : ℕ) (lent : List ℤ) : Type 0 where
  pub pass : Passed c
  pub begun : Begun c rows
  pub room : range_width * rows ≤ length lent
  pub own : ranges_in lent rows ≡ own_ranges c (worked c rows).rows

module _ {c : Schedule} {rows : ℕ} {lent : List ℤ} (first : OwnHeld c rows lent) where
  abbrev pass : Passed c
  pass = first.pass

  abbrev begun : Begun c rows
  begun = first.begun

  -- each row's own range, as the table holds it at first
  own_lent : (i : ℕ) → i < rows → range_at lent i ≡ own_at c i
  unfolding ranges_in
  own_lent i h =
      let made : (worked c rows).rows ≡ rows_up_to c rows = begun.goes.rows in
      sym (get_or_tabulate rows (range_at lent) no_range i h)
      ∙ ap (λ l. get_or l i no_range) (first.own ∙ ap (own_ranges c) made)
      ∙ own_range_at c (rows_up_to c rows) no_range i (omega (arith, length_grown (next_row c) rows))
      ∙ ap (own_range c i) (get_or_grown (next_row c) rows (constant_row (pos 0)) i h)

  pub all_narrowed : ranges_after (told_up_to c rows) lent ≡ ranges_after (answered_ranges c (worked c rows).rows) lent
  all_narrowed = ap (λ l. ranges_after l lent) (sym (ap (answered_ranges c) begun.goes.rows ∙ answered_grown c rows))

  module _ {i : ℕ} (h : i ≤ rows) {ranges : List ℤ} (so_far : ranges ≡ ranges_after (told_up_to c i) lent) where
    pub length_so_far : length ranges ≡ length lent
    length_so_far = ap length so_far ∙ length_ranges_after (told_up_to c i) lent (omega (arith, length_told c i, first.room))

    told_there : (k : ℕ) → k < i → range_at ranges k ≡ get_or (told_up_to c i) k no_range
    told_there k l = ap (λ t. range_at t k) so_far ∙ range_at_ranges_after (told_up_to c i) lent k (omega (arith, length_told c i))

    told_held : (k : ℕ) → k < i → range_at ranges k ≡ told_at c k
    told_held k l = told_there k l ∙ get_or_grown (next_told c) i no_range k l

    ordered : (k : ℕ) → k < i → (told_at c k).low ≤ℤ (told_at c k).high
    ordered k l = told_ordered c pass begun k (omega arith)

    -- ---- the next row
    module _ (next : i < rows) where
      pub own_held : range_at ranges i ≡ own_at c i
      own_held = ap (λ t. range_at t i) so_far ∙ range_at_beyond (told_up_to c i) lent i (omega (arith, length_told c i)) ∙ own_lent i next

      -- an input's
      pub plain_of_input : i < natural c.inputs → range_at ranges i ≡ plain_at c i
      plain_of_input l =
          let ends : own_at c i ≡ ends_range (ends_at c i).low (ends_at c i).high = rw (lt-ltb i (natural c.inputs) l) in
          own_held ∙ ends ∙ sym (plain_input c i l)

      -- a step's
      module _ (late : natural c.inputs ≤ i) where
        abbrev t : Step
        t = step_at c (i - natural c.inputs)

        step : StepPassed i t.code t.first t.second t.value
        step = step_of_row c pass i (omega (arith, begun.few)) late

        some : 1 ≤ i
        some = omega (arith, pass.counts.inputs_in.from)

        -- a field names an earlier row, or is 0
        index_of_zero : {z : ℤ} → z ≡ pos 0 → natural z - 1 < i
        index_of_zero e = rw e (omega (arith, some))

        first_index : natural t.first - 1 < i
        first_index = by_code (lt_or_ge (natural t.code) 2)
          where
            by_code : (natural t.code < 2) ⊎ (2 ≤ natural t.code) → natural t.first - 1 < i
            by_code (inl l) = index_of_zero (step.first_zero (omega arith))
            by_code (inr l) = let n = step.first_row l in omega (arith, n.from, n.to)

        second_index : natural t.second - 1 < i
        second_index = by_code (lt_or_ge (natural t.code) 2) (lt_or_ge last_binary (natural t.code))
          where
            by_code : (natural t.code < 2) ⊎ (2 ≤ natural t.code) → (last_binary < natural t.code) ⊎ (natural t.code ≤ last_binary) → natural t.second - 1 < i
            by_code (inl l) m = index_of_zero (step.second_zero (omega arith))
            by_code (inr l) (inl m) = index_of_zero (step.second_zero_last m)
            by_code (inr l) (inr m) = let n = step.second_row l m in omega (arith, n.from, n.to)

        pub plain_of_step : plain_step t (range_at ranges (natural t.first - 1)) (range_at ranges (natural t.second - 1)) ≡ plain_at c i
        plain_of_step = ap₂ (plain_step t) (told_there _ first_index) (told_there _ second_index) ∙ sym (plain_step_lem c i late)

        held : {z : ℤ} → Natural 1 i z → Held ranges z
        held {z} n =
            let k = natural z - 1 in
            let l : k < i = omega (arith, n.from, n.to) in
            record {
              is = n.is;
              some = n.from;
              room = omega (arith, n.to, length_so_far, first.room);
              within = subst (RangeWithin span_limit) (sym (told_held k l)) (told_within c pass k (ordered k l));
            }

        -- no input is asked for
        none : ℕ → Fraction
        none k = whole (pos 0)

        pub operands : PlainOperands ranges t
        operands =
            record {
              code_from = step.code_in.from;
              code_to = step.code_in.to;
              first = λ l. held (step.first_row l);
              second = λ l m. held (step.second_row l m);
              apart = λ e.
                  let d = divided c pass none begun i next late e in
                  let k = natural t.first - 1 in
                  subst (λ (r : Range). (r.low ≡ pos 0 → ⊥) × (r.high ≡ pos 0 → ⊥)) (sym (told_held k d.0)) (both_some (told_one_side c pass k (ordered k d.0) d.1));
              above = λ e.
                  let d = taken c pass none begun i next late e in
                  let k = natural t.first - 1 in
                  let low = ≤ℤ_trans (≥ℤ_of_test d.1) (told_from c k) in
                  subst (λ (r : Range). (pos 1 ≤ℤ r.low) × (pos 1 ≤ℤ r.high)) (sym (told_held k d.0)) (low, ≤ℤ_trans low (ordered k d.0));
            }
          where
            both_some : {r : Range} → OneSide r → (r.low ≡ pos 0 → ⊥) × (r.high ≡ pos 0 → ⊥)
            both_some (inl (l, h)) = (not_zero (inl l), not_zero (inl h))
            both_some (inr (l, h)) = (not_zero (inr l), not_zero (inr h))

      -- one row more
      pub narrowed_on : {later : List ℤ} {range : Range} → range ≡ overlap (own_at c i) (plain_at c i) → later ≡ paste ranges (range_width * i) (range_numbers range) range_width
          → later ≡ ranges_after (told_up_to c (i + 1)) lent
      narrowed_on {later} {range} e put =
          let told = told_up_to c i in
          put
          ∙ ap₂ (λ r l. paste l (range_width * i) (range_numbers r) range_width) (e ∙ sym (told_is c i)) so_far
          ∙ ap (λ k. paste (ranges_after told lent) (range_width * k) (range_numbers (told_at c i)) range_width) (sym (length_told c i))
          ∙ sym (ranges_after_more told lent (told_at c i))
          ∙ ap (λ l. ranges_after l lent) (sym (grown_suc (next_told c) i) ∙ ap (told_up_to c) (sym (add-one i)))

-- ---- after the work of n rows, of which k were done, and put into a table with their own ranges
module _ {c : Schedule} (pass : Passed c) {n k : ℕ} (few : n ≤ row_count c) (done : Done c n k) (lent : List ℤ) {left : List ℤ} (room : range_width * n ≤ length lent)
    (put : left ≡ ranges_after (own_ranges c (worked c n).rows) lent) where
  abbrev owns : List Range
  owns = own_ranges c (worked c n).rows

  long : length owns ≡ k
  long = length_own c (worked c n).rows ∙ ap length (done.rows ∙ (went c k done.none_refused).rows) ∙ length_grown (next_row c) k

  pub own_put : OwnHeld c k left
  own_put =
      record {
        pass = pass;
        begun = begun_of c k (omega (arith, done.few)) done.none_refused;
        room = omega (arith, ap length put, length_ranges_after owns lent (omega (arith, long, done.few, room)), done.few, room);
        own = ap₂ ranges_in put (sym long) ∙ ranges_in_ranges_after owns lent ∙ ap (own_ranges c) done.rows;
      }

  -- the answered ranges put over them leave what they would have left
  pub narrowed_left : ranges_after (answered_ranges c (worked c k).rows) left ≡ ranges_after (answered_ranges c (worked c n).rows) lent
  narrowed_left =
      let told = answered_ranges c (worked c k).rows in
      let same : length owns ≡ length told =
      long ∙ sym (ap length (ap (answered_ranges c) (went c k done.none_refused).rows ∙ answered_grown c k) ∙ length_told c k) in
      ap (ranges_after told) put
      ∙ after_again range_width range_numbers no_range owns told lent (λ i h. refl) same
      ∙ ap (λ rows. ranges_after (answered_ranges c rows) lent) (sym done.rows)
