-- What two tables hold while rows are worked into one and their ranges into the other: the rows and ranges so far, each where it was put, and
-- behind them what stood there before. And what the list of the rows' radii holds.
use mathlib.Core.Path.{◌≡◌, refl, sym, ap, ap₂, ◌∙◌, subst}
use mathlib.Core.Logic.{◌⊎◌, inl, inr}
use mathlib.Core.List.{List, [], ◌∷◌, ◌++◌}
use Prim.Native.Nat.{ℕ, suc, ◌+◌, ◌-◌, ◌*◌, ◌≤◌, ◌<◌}
use native.Mathlib.Nat.{not-suc-le-zero, eq-or-lt_of_le, le_of_suc-le-suc}
use native.Mathlib.Numerals.{add-one}
use native.Mathlib.Omega.{arith}
use lib.IntN.{ℤ, pos}
use lib.ListN.{length, get_or, set, length-set}
use lib.Seq.{paste, ext_get_or, get_or-set_same, get_or-set_other}
use Rattle.affine.specs.declared.Row.{Row}
use Rattle.affine.specs.declared.Range.{Range}
use Rattle.affine.specs.Answer.{Answer}
use Rattle.affine.specs.Answer.{Accepted}
use Rattle.affine.specs.Limits.{symbols, span_limit}
use Rattle.affine.specs.Lists.{at, tabulate}
use Rattle.affine.specs.Row.{numbers, span, radius}
use Rattle.affine.specs.Steps.{constant_row, number}
use Rattle.affine.proofs.Form.{Shaped}
use Rattle.affine.proofs.Lists.{length_tabulate, get_or_tabulate}
use Rattle.affine.specs.Root.{Centred}
use Rattle.sheet.specs.declared.Schedule.{Schedule}
use Rattle.sheet.specs.Causes.{refusal, accepted}
use Rattle.sheet.proofs.Passed.{Passed}
use Rattle.evaluation.specs.Table.{row_width, range_width, row_part, row_of_numbers, range_of_numbers, range_numbers, row_at, range_at, table_after, ranges_after, rows_in, ranges_in, RowsWithin, Operands, RangesOf}
use Rattle.evaluation.specs.Ranges.{own_range, own_ranges}
use Rattle.evaluation.specs.Work.{onward, stopped, with_answer, worked, row_answer}
use Rattle.evaluation.proofs.Sequence.{length_grown, get_or_grown}
use Rattle.evaluation.proofs.TableLaws.{length_numbers, row_of_numbers_numbers, Wide, length_after, part_after, part_beyond, after_more}
use Rattle.evaluation.proofs.WorkLaws.{next_row, rows_up_to, went, number_zero, worked_more, refusal_stays, with_answer_accepted, with_answer_refused}
use Rattle.evaluation.proofs.SoundRows.{Sound, row_sound, row_radius}
use Rattle.evaluation.proofs.EveryRow.{none_later}
use Rattle.evaluation.proofs.OwnRanges.{no_range, length_own, own_range_at, own_more, answer_range, own_centred}
use Rattle.evaluation.proofs.EvaluationEnds.{nothing_put, nothing_own}

-- the row that stands for none
abbrev none : Row
none = constant_row (pos 0)

-- what gives each element of a list tabulates the list
tabulated : {A : Type 0} (d : A) (xs : List A) (f : ℕ → A) → ((i : ℕ) → i < length xs → f i ≡ get_or xs i d) → tabulate (length xs) f ≡ xs
tabulated d xs f each =
    let long = length_tabulate (length xs) f in
    ext_get_or d (tabulate (length xs) f) xs long (λ i h. let l = subst (λ k. i < k) long h in get_or_tabulate (length xs) f d i l ∙ each i l)

-- ---- rows of which each is sound, put into a table
module _ (rows : List Row) (table : List ℤ) (sound : (i : ℕ) → i < length rows → Sound (get_or rows i none)) where
  wide : Wide row_width numbers none rows
  wide i h = length_numbers (get_or rows i none) (sound i h).shaped

  pub length_table_after : row_width * length rows ≤ length table → length (table_after rows table) ≡ length table
  length_table_after = length_after row_width numbers none rows table wide

  -- each row is read back
  pub row_at_table_after : (i : ℕ) → i < length rows → row_at (table_after rows table) i ≡ get_or rows i none
  row_at_table_after i h = ap row_of_numbers (part_after row_width numbers none rows table wide i h) ∙ row_of_numbers_numbers (get_or rows i none) (sound i h).shaped

  pub rows_in_table_after : rows_in (table_after rows table) (length rows) ≡ rows
  unfolding rows_in
  rows_in_table_after = tabulated none rows (row_at (table_after rows table)) row_at_table_after

  pub rows_within_table_after : row_width * length rows ≤ length table → RowsWithin (table_after rows table) (length rows)
  rows_within_table_after h =
      record {
        room = omega (arith, length_table_after h);
        spans = λ i l. subst (λ r. span r ≤ span_limit) (sym (row_at_table_after i l)) (sound i l).within;
      }

  -- one row more
  pub table_after_more : (r : Row) → Shaped r → table_after (rows ++ (r ∷ [])) table ≡ paste (table_after rows table) (row_width * length rows) (numbers r) row_width
  table_after_more r s = after_more row_width numbers none rows table wide r (length_numbers r s)

-- ---- ranges put into the second
module _ (told : List Range) (ranges : List ℤ) where
  pub length_ranges_after : range_width * length told ≤ length ranges → length (ranges_after told ranges) ≡ length ranges
  length_ranges_after = length_after range_width range_numbers no_range told ranges (λ i h. refl)

  pub range_at_ranges_after : (i : ℕ) → i < length told → range_at (ranges_after told ranges) i ≡ get_or told i no_range
  range_at_ranges_after i h = ap range_of_numbers (part_after range_width range_numbers no_range told ranges (λ i h. refl) i h)

  pub range_at_beyond : (i : ℕ) → length told ≤ i → range_at (ranges_after told ranges) i ≡ range_at ranges i
  range_at_beyond i h = ap range_of_numbers (part_beyond range_width range_numbers no_range told ranges (λ i h. refl) i h)

  pub ranges_in_ranges_after : ranges_in (ranges_after told ranges) (length told) ≡ told
  unfolding ranges_in
  ranges_in_ranges_after = tabulated no_range told (range_at (ranges_after told ranges)) range_at_ranges_after

  pub ranges_after_more : (r : Range) → ranges_after (told ++ (r ∷ [])) ranges ≡ paste (ranges_after told ranges) (range_width * length told) (range_numbers r) range_width
  ranges_after_more r = after_more range_width range_numbers no_range told ranges (λ i h. refl) r refl

-- the radii of the first n rows, in a list that has one for each symbol
pub record RadiiOf (c : Schedule) (n : ℕ) (radii : List ℕ) : Type 0 where
  pub long : length radii ≡ symbols
  pub each : (i : ℕ) → i < n → get_or radii i 0 ≡ radius (next_row c (rows_up_to c i))

pub radii_none : (c : Schedule) (radii : List ℕ) → length radii ≡ symbols → RadiiOf c 0 radii
radii_none c radii e = record { long = e; each = λ i l. absurd (not-suc-le-zero l) }

radii_more : (c : Schedule) (n : ℕ) (radii : List ℕ) (v : ℕ) → n < symbols → RadiiOf c n radii → v ≡ radius (next_row c (rows_up_to c n)) → RadiiOf c (n + 1) (set radii n v)
radii_more c n radii v h so_far e = record { long = length-set radii n v ∙ so_far.long; each = λ i l. by_place i (eq-or-lt_of_le (le_of_suc-le-suc (subst (λ k. i < k) (add-one n) l))) }
  where
    by_place : (i : ℕ) → (i ≡ n) ⊎ (i < n) → get_or (set radii n v) i 0 ≡ radius (next_row c (rows_up_to c i))
    by_place i (inl p) = subst (λ k. get_or (set radii n v) k 0 ≡ radius (next_row c (rows_up_to c k))) (sym p) (get_or-set_same radii n v 0 (rw so_far.long h) ∙ e)
    by_place i (inr l) = get_or-set_other radii n i v 0 (λ p. let k : n < n = subst (λ k. k < n) p l in omega arith) ∙ so_far.each i l

-- the first n rows of a schedule, none refused, worked into a table ..
pub record RowsInto (c : Schedule) (n : ℕ) (before after : List ℤ) : Type 0 where
  pub none_refused : (worked c n).refusal.number ≡ 0
  pub left : after ≡ table_after (worked c n).rows before

-- .. and their own ranges into a second
pub record WorkedInto (c : Schedule) (n : ℕ) (before after before_ranges after_ranges : List ℤ) : Type 0 where
  pub into : RowsInto c n before after
  pub own : after_ranges ≡ ranges_after (own_ranges c (worked c n).rows) before_ranges

pub worked_none : (c : Schedule) (table ranges : List ℤ) → WorkedInto c 0 table table ranges ranges
unfolding worked
worked_none c table ranges = record { into = record { none_refused = refl; left = sym (nothing_put table) }; own = sym (nothing_own c ranges) }

-- ---- the rows
module _ {c : Schedule} {n : ℕ} {before after : List ℤ} (w : RowsInto c n before after) where
  abbrev rows : List Row
  rows = (worked c n).rows

  long : length rows ≡ n
  long = ap length (went c n w.none_refused).rows ∙ length_grown (next_row c) n

  -- each is what the work makes of the rows before it
  row_made : (i : ℕ) → i < n → get_or rows i none ≡ next_row c (rows_up_to c i)
  row_made i h = ap (λ l. get_or l i none) (went c n w.none_refused).rows ∙ get_or_grown (next_row c) n none i h

  sound : (i : ℕ) → i < length rows → Sound (get_or rows i none)
  sound i h = subst Sound (sym (row_made i (subst (λ k. i < k) long h))) (row_sound c (rows_up_to c i))

  pub accepted_so_far : (worked c n).refusal ≡ accepted
  accepted_so_far = (went c n w.none_refused).refusal

  rows_read : rows_in after n ≡ rows
  rows_read = ap₂ rows_in w.left (sym long) ∙ rows_in_table_after rows before sound

  pub rows_within : row_width * n ≤ length before → RowsWithin after n
  rows_within h =
      let within = rows_within_table_after rows before sound (subst (λ k. row_width * k ≤ length before) (sym long) h) in
      subst (λ k. RowsWithin after k) long (subst (λ t. RowsWithin t (length rows)) (sym w.left) within)

  -- the row with index i, as the table holds it
  pub part_held : (i : ℕ) → i < n → row_part after i ≡ numbers (next_row c (rows_up_to c i))
  part_held i h =
      ap (λ t. row_part t i) w.left ∙ part_after row_width numbers none rows before (wide rows before sound) i (subst (λ k. i < k) (sym long) h)
      ∙ ap numbers (row_made i h)

  pub row_held : (i : ℕ) → i < n → row_at after i ≡ next_row c (rows_up_to c i)
  row_held i h = ap (λ t. row_at t i) w.left ∙ row_at_table_after rows before sound i (subst (λ k. i < k) (sym long) h) ∙ row_made i h

  -- with their radii they may be operands
  pub operands : {radii : List ℕ} → RadiiOf c n radii → n ≤ symbols → Operands after radii n
  operands radii few =
      record {
        room = omega (arith, radii.long);
        none_later = λ i l m k. subst (λ r. at r.linear m ≡ pos 0) (sym (row_held i l)) (none_later c i m k).linear;
        radius_at = λ i l. radii.each i l ∙ ap radius (sym (row_held i l));
      }

-- ---- the rows and their own ranges
module _ {c : Schedule} {n : ℕ} {before after before_ranges after_ranges : List ℤ} (w : WorkedInto c n before after before_ranges after_ranges) where
  abbrev worked_rows : List Row
  worked_rows = rows w.into

  abbrev own : List Range
  own = own_ranges c worked_rows

  long_own : length own ≡ n
  long_own = length_own c worked_rows ∙ long w.into

  own_read : ranges_in after_ranges n ≡ own
  own_read = ap₂ ranges_in w.own (sym long_own) ∙ ranges_in_ranges_after own before_ranges

  pub ranges_read : ranges_in after_ranges n ≡ own_ranges c (rows_in after n)
  ranges_read = own_read ∙ ap (own_ranges c) (sym (rows_read w.into))

  pub length_ranges_kept : range_width * n ≤ length before_ranges → length after_ranges ≡ length before_ranges
  length_ranges_kept h = ap length w.own ∙ length_ranges_after own before_ranges (subst (λ k. range_width * k ≤ length before_ranges) (sym long_own) h)

  -- the range with index i, as the second table holds it
  range_held : (i : ℕ) → i < n → range_at after_ranges i ≡ own_range c i (next_row c (rows_up_to c i))
  range_held i h =
      ap (λ t. range_at t i) w.own ∙ range_at_ranges_after own before_ranges i (subst (λ k. i < k) (sym long_own) h)
      ∙ own_range_at c worked_rows no_range i (subst (λ k. i < k) (sym (long w.into)) h) ∙ ap (own_range c i) (row_made w.into i h)

  pub ranges_of_lem : Passed c → range_width * n ≤ length before_ranges → RangesOf after after_ranges n
  ranges_of_lem passed h =
      record {
        room = omega (arith, length_ranges_kept h);
        centred = λ i l. subst (λ r. Centred (range_at after_ranges i) r) (sym (row_held w.into i l))
            (subst (λ r. Centred r (next_row c (rows_up_to c i))) (sym (range_held i l)) (around i l));
      }
    where
      around : (i : ℕ) → i < n → Centred (own_range c i (next_row c (rows_up_to c i))) (next_row c (rows_up_to c i))
      around i l =
          subst (λ k. Centred (own_range c k (next_row c (rows_up_to c i))) (next_row c (rows_up_to c i))) (length_grown (next_row c) i)
          (own_centred c (rows_up_to c i) passed ((went c n w.into.none_refused).each i l))

  -- the answer of the next row, from the rows that the table holds
  module _ {a : Answer} (answer : a ≡ row_answer c (rows_in after n)) where
    next : worked c (suc n) ≡ with_answer worked_rows a
    next = worked_more c n w.into.none_refused ∙ ap (with_answer worked_rows) (sym (answer ∙ ap (row_answer c) (rows_read w.into)))

    -- its range is the row's own
    answer_own : number a.status ≡ 0 → a.range ≡ own_range c (length worked_rows) a.row
    answer_own e =
        let is : a ≡ row_answer c worked_rows = answer ∙ ap (row_answer c) (rows_read w.into) in
        let status : (row_answer c worked_rows).status ≡ Accepted = ap (λ b. b.status) (sym is) ∙ number_zero a.status e in
        ap (λ b. b.range) is ∙ answer_range c worked_rows status ∙ ap (λ b. own_range c (length worked_rows) b.row) (sym is)

    pub worked_on : {table ranges : List ℤ} → number a.status ≡ 0 → table ≡ paste after (row_width * n) (numbers a.row) row_width
        → ranges ≡ paste after_ranges (range_width * n) (range_numbers a.range) range_width → WorkedInto c (n + 1) before table before_ranges ranges
    worked_on {table} {ranges} e put put_range =
        let q : worked c (suc n) ≡ onward (worked_rows ++ (a.row ∷ [])) = next ∙ with_answer_accepted worked_rows a e in
        let s : Shaped a.row = subst (λ b. Shaped b.row) (sym answer) (row_sound c (rows_in after n)).shaped in
        subst (λ k. WorkedInto c k before table before_ranges ranges) (sym (add-one n))
        (record {
          into =
              record {
                none_refused = ap (λ v. v.refusal.number) q;
                left =
                    put
                    ∙ ap₂ (λ t k. paste t (row_width * k) (numbers a.row) row_width) w.into.left (sym (long w.into))
                    ∙ sym (table_after_more worked_rows before (sound w.into) a.row s)
                    ∙ ap (λ v. table_after v.rows before) (sym q);
              };
          own =
              put_range
              ∙ ap₂ (λ t k. paste t (range_width * k) (range_numbers a.range) range_width) w.own (sym long_own)
              ∙ sym (ranges_after_more own before_ranges a.range)
              ∙ ap (λ r. ranges_after (own ++ (r ∷ [])) before_ranges) (answer_own e)
              ∙ ap (λ l. ranges_after l before_ranges) (sym (own_more c worked_rows a.row))
              ∙ ap (λ v. ranges_after (own_ranges c v.rows) before_ranges) (sym q);
        })

    -- and its radius that of the next row
    pub radii_on : {radii : List ℕ} → n < symbols → RadiiOf c n radii → RadiiOf c (n + 1) (set radii n a.radius)
    radii_on {radii} h so_far =
        let is : a ≡ row_answer c (rows_up_to c n) = answer ∙ ap (row_answer c) (rows_read w.into ∙ (went c n w.into.none_refused).rows) in
        radii_more c n radii a.radius h so_far (ap (λ b. b.radius) is ∙ row_radius c (rows_up_to c n))

    -- a refusal ends the work, however many rows were to come
    pub worked_refused : (m : ℕ) → n < m → (number a.status ≡ 0 → ⊥) → worked c m ≡ stopped worked_rows (refusal (number a.status) (n + 1))
    worked_refused m h e =
        let q : worked c (suc n) ≡ stopped worked_rows (refusal (number a.status) (n + 1)) =
        next ∙ with_answer_refused worked_rows a e ∙ ap (λ k. stopped worked_rows (refusal (number a.status) k)) (ap suc (long w.into) ∙ sym (add-one n)) in
        let split : m ≡ suc n + (m - suc n) = omega arith in
        ap (worked c) split ∙ refusal_stays c (suc n) (m - suc n) (λ z. e (sym (ap (λ v. v.refusal.number) q) ∙ z)) ∙ q
