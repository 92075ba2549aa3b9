-- What the answers about rows are made of: the tests 9, 8 and 6 one after another, and what holds of a row that passed them.
use mathlib.Core.Path.{◌≡◌, refl, sym, ap, ap₂, ◌∙◌, subst}
use mathlib.Core.Logic.{◌≢◌, ◌↔◌}
use mathlib.Core.Bool.{Bool, true, false}
use mathlib.Core.List.{List, []}
use Prim.Native.Nat.{ℕ, ◌-◌, ◌*◌, ◌≤◌, min, max}
use native.Mathlib.Nat.{min-eq_left, min-eq_right, max-eq_left, max-eq_right}
use native.Mathlib.Omega.{arith}
use native.Mathlib.Decide.{ℕ_discrete}
use borrow.Author.Tests.{eq-eqb, ne_eqb, eqb-true, le-leb, leb-true}
use lib.Dec.{T, eqb, leb}
use lib.IntN.{ℤ}
use lib.ListN.{length}
use lib.Signed.{le_z, ◌≤ℤ◌}
use Rattle.capacity.specs.Limits.{max_rows}
use Rattle.affine.specs.Limits.{span_limit}
use Rattle.affine.specs.Lists.{pick}
use Rattle.affine.specs.Row.{span, within_span}
use Rattle.integer.proofs.Machine.{≤ℤ_of_test}
use Rattle.affine.proofs.Lists.{pick_elim}
use Rattle.std.specs.Prelude.{Result, Ok, Err, IfOk, IsErrAnd}
use Rattle.sheet.specs.declared.causes.Refused.{Refused}
use Rattle.sheet.specs.declared.causes.Cause.{Cause}
use Rattle.sheet.specs.Answers.{Refusal}
use Rattle.sheet.specs.Results.{number, refusal_of, tested, ensured}
use Rattle.sheet.proofs.Results.{number_some}
use Rattle.sheet.specs.Causes.{refusal, accepted}
use Rattle.evaluation.specs.Table.{row_width, range_width, row_part, row_at, range_at, RowsWithin, RangesOrdered}
use Rattle.evaluation.specs.Work.{table_too_short}
use Rattle.evaluation.specs.Asking.{no_such_row, is_row, lent_row, lent_range, table_refusal, ranges_refusal, or_else, row_refusal, range_refusal, rows_refusal, range_told, range_refused, range_of, compared, same_of, part_of, ToldByRange}
use Rattle.evaluation.proofs.PartLaws.{length_part}

-- ---- tests one after another
pub both_true : (s t : Bool) → pick s t false ≡ true → (s ≡ true) × (t ≡ true)
both_true s t =
    pick_elim (λ (b : Bool). b ≡ true → (s ≡ true) × (t ≡ true)) s t false
    (λ e h. (e, h))
    (λ e h. absurd (let z : ◌≡◌ {A = ℕ} 0 1 = cc in omega arith))

number_of : {q r : Refusal} → r ≡ q → r.number ≡ 0 → q.number ≡ 0
number_of e h = ap (λ (r : Refusal). r.number) (sym e) ∙ h

-- An answer that goes by whether q is a refusal, where code has q as r: what stands beside the refusal, and what is told where there is none.
pub refused_answer : {A : Type 0} (q : Refusal) (told : A) (beside : Refusal → A) {r : Refusal} → r ≡ q → (r.number ≡ 0 → ⊥)
    → beside r ≡ pick (eqb q.number 0) told (beside q)
refused_answer q told beside {r} e h = subst (λ (q : Refusal). beside r ≡ pick (eqb q.number 0) told (beside q)) e (simp (ne_eqb r.number 0 h))

pub told_answer : {A : Type 0} (q : Refusal) (told refused : A) {r : Refusal} → r ≡ q → r.number ≡ 0 → told ≡ pick (eqb q.number 0) told refused
told_answer q told refused e h = simp (eq-eqb q.number 0 (number_of e h))

-- one test and then another: the first stops, or is passed
pub stops : (r : Refused) {q : Refusal} (s : Refusal) → refusal_of r ≡ q → refusal_of r ≡ or_else q s
stops r {q} s e = refused_answer q s (λ t. t) e (number_some r.cause)

pub goes_on : {q : Refusal} (s : Refusal) → accepted ≡ q → s ≡ or_else q s
goes_on {q} s e = told_answer q s q e refl

-- the same of a result, where a test before it stopped
pub stop_told : (r : Result (Unit {0}) Refused) (f : Refused) {q : Refusal} (s : Refusal) → IsErrAnd r (λ e. e ≡ f) → refusal_of f ≡ q → tested r ≡ or_else q s
stop_told (Ok u) f s h e = absurd h
stop_told (Err r) f s h e = ap refusal_of h ∙ stops f s e

-- what a test answers by `ensure`
pub tested_ensured : (passes : Bool) (c : Cause) (place : ℕ) → tested (ensured passes c place) ≡ pick passes accepted (refusal (number c) place)
tested_ensured true c place = refl
tested_ensured false c place = refl

ok_ensured : (passes : Bool) (c : Cause) (place : ℕ) {P : Type 0} → (passes ≡ true → P) → IfOk (ensured passes c place) (λ u. P)
ok_ensured true c place f = f refl
ok_ensured false c place f = tt

-- a chain of tests, read from either end
or_else_chain : (q r s : Refusal) → or_else (or_else q r) s ≡ or_else q (or_else r s)
or_else_chain q r s =
    pick_elim (λ (t : Refusal). or_else t s ≡ or_else q (or_else r s)) (eqb q.number 0) r q
    (λ e. simp e refl)
    (λ e. simp e refl)

-- accepted after both
record Both (r s t : Refusal) : Type 0 where
  pub first : r.number ≡ 0
  pub second : s.number ≡ 0
  pub is_second : t ≡ s

or_else_accepted : (r s : Refusal) → (or_else r s).number ≡ 0 → Both r s (or_else r s)
or_else_accepted r s =
    pick_elim (λ (t : Refusal). t.number ≡ 0 → Both r s t) (eqb r.number 0) s r
    (λ e h. record { first = eqb-true _ _ e; second = h; is_second = refl })
    (λ e h. absurd (let z : true ≡ false = sym (eq-eqb _ _ h) ∙ e in let y : ◌≡◌ {A = ℕ} 0 1 = cc in omega arith))

-- ---- 9 and 8
record TableAccepted (table : List ℤ) (count : ℕ) (known : Bool) : Type 0 where
  pub all_known : known ≡ true
  pub few : count ≤ max_rows
  pub room : row_width * count ≤ length table

table_accepted : (table : List ℤ) (count : ℕ) (known : Bool) → (table_refusal table count known).number ≡ 0 → TableAccepted table count known
table_accepted table count known h = by_tests (pick known (leb count max_rows) false) (leb (row_width * count) (length table)) refl refl
  where
    by_tests : (named room_refusal : Bool) → pick known (leb count max_rows) false ≡ named → leb (row_width * count) (length table) ≡ room_refusal
        → TableAccepted table count known
    by_tests true true e q =
        let b = both_true known (leb count max_rows) e in
        record { all_known = b.0; few = leb-true count max_rows b.1; room = leb-true _ _ q }
    by_tests true false e q = absurd (let z = simp (e, q) at h in omega arith)
    by_tests false true e q = absurd (let z = simp (e, q) at h in omega arith)
    by_tests false false e q = absurd (let z = simp (e, q) at h in omega arith)

-- 9 by one test of each row, and 8 by one of a table's room
abbrev pub named_refusal : ℕ → ℕ → Refusal
named_refusal count row = pick (pick (is_row count row) (leb count max_rows) false) accepted no_such_row

abbrev pub room_refusal : ℕ → List ℤ → ℕ → Refusal
room_refusal width table count = pick (leb (width * count) (length table)) accepted table_too_short

pub ensured_named : (count row : ℕ) (c : Cause) (place : ℕ)
    → IfOk (ensured (pick (is_row count row) (leb count max_rows) false) c place) (λ u. (1 ≤ row) × (row ≤ count) × (count ≤ max_rows))
ensured_named count row c place =
    ok_ensured (pick (is_row count row) (leb count max_rows) false) c place
    (λ e. let a = both_true (is_row count row) (leb count max_rows) e in let b = both_true (leb 1 row) (leb row count) a.0 in (leb-true 1 row b.0, leb-true row count b.1, leb-true count max_rows a.1))

pub ensured_room : (numbers long : ℕ) (c : Cause) (place : ℕ) → IfOk (ensured (leb numbers long) c place) (λ u. numbers ≤ long)
ensured_room numbers long c place = ok_ensured (leb numbers long) c place (λ e. leb-true numbers long e)

one_named : (known few : Bool) (r : Refusal)
    → or_else (pick (pick known few false) accepted no_such_row) r ≡ pick (pick known few false) r no_such_row
one_named true true r = refl
one_named true false r = refl
one_named false few r = refl

both_named : (a b few : Bool) (r : Refusal)
    → or_else (pick (pick a few false) accepted no_such_row) (or_else (pick (pick b few false) accepted no_such_row) r) ≡ pick (pick (pick a b false) few false) r no_such_row
both_named true true true r = refl
both_named true true false r = refl
both_named true false true r = refl
both_named true false false r = refl
both_named false b few r = refl

pub row_tests : (table : List ℤ) (count row : ℕ) → or_else (named_refusal count row) (or_else (room_refusal row_width table count) (lent_row table row)) ≡ row_refusal table count row
unfolding row_refusal
row_tests table count row =
    sym (or_else_chain (named_refusal count row) (room_refusal row_width table count) (lent_row table row))
    ∙ ap (λ t. or_else t (lent_row table row)) (one_named (is_row count row) (leb count max_rows) (room_refusal row_width table count))

pub range_tests : (table ranges : List ℤ) (count row : ℕ)
    → or_else (named_refusal count row) (or_else (room_refusal row_width table count) (or_else (room_refusal range_width ranges count) (or_else (lent_row table row) (lent_range ranges row))))
    ≡ range_refusal table ranges count row
unfolding range_refusal
range_tests table ranges count row =
    let rest = or_else (ranges_refusal ranges count) (or_else (lent_row table row) (lent_range ranges row)) in
    sym (or_else_chain (named_refusal count row) (room_refusal row_width table count) rest)
    ∙ ap (λ t. or_else t rest) (one_named (is_row count row) (leb count max_rows) (room_refusal row_width table count))

-- the row with the lower number is tested first
pub lower_first : (table : List ℤ) {low high : ℕ} → low ≤ high
    → or_else (lent_row table low) (lent_row table high) ≡ or_else (lent_row table (min low high)) (lent_row table (max low high))
lower_first table h = ap₂ (λ (m n : ℕ). or_else (lent_row table m) (lent_row table n)) (sym (min-eq_left h)) (sym (max-eq_right h))

pub lower_second : (table : List ℤ) {low high : ℕ} → low ≤ high
    → or_else (lent_row table low) (lent_row table high) ≡ or_else (lent_row table (min high low)) (lent_row table (max high low))
lower_second table h = ap₂ (λ (m n : ℕ). or_else (lent_row table m) (lent_row table n)) (sym (min-eq_right h)) (sym (max-eq_left h))

pub rows_tests : (table : List ℤ) (count first second : ℕ)
    → or_else (named_refusal count first) (or_else (named_refusal count second) (or_else (room_refusal row_width table count) (or_else (lent_row table (min first second)) (lent_row table (max first second)))))
    ≡ rows_refusal table count first second
unfolding rows_refusal
rows_tests table count first second =
    let rest = or_else (lent_row table (min first second)) (lent_row table (max first second)) in
    ap (or_else (named_refusal count first)) (sym (or_else_chain (named_refusal count second) (room_refusal row_width table count) rest))
    ∙ sym (or_else_chain (named_refusal count first) (or_else (named_refusal count second) (room_refusal row_width table count)) rest)
    ∙ ap (λ t. or_else t rest) (both_named (is_row count first) (is_row count second) (leb count max_rows) (room_refusal row_width table count))

-- ---- rows that a table holds
pub record Held (table : List ℤ) (row : ℕ) : Type 0 where
  pub from_one : 1 ≤ row
  pub room : row_width * row ≤ length table

held : (table : List ℤ) (count row : ℕ) → row_width * count ≤ length table → is_row count row ≡ true → Held table row
held table count row room e =
    let b = both_true (leb 1 row) (leb row count) e in
    let l : 1 ≤ row = leb-true 1 row b.0 in
    let h : row ≤ count = leb-true row count b.1 in
    record { from_one = l; room = omega arith }

pub table_holds : (table : List ℤ) (count row : ℕ) {r : Refusal} → r ≡ table_refusal table count (is_row count row) → r.number ≡ 0 → Held table row
table_holds table count row e h =
    let a = table_accepted table count (is_row count row) (number_of e h) in
    held table count row a.room a.all_known

pub table_holds_both : (table : List ℤ) (count first second : ℕ) {r : Refusal}
    → r ≡ table_refusal table count (pick (is_row count first) (is_row count second) false) → r.number ≡ 0 → Held table first × Held table second
table_holds_both table count first second e h =
    let a = table_accepted table count (pick (is_row count first) (is_row count second) false) (number_of e h) in
    let b = both_true (is_row count first) (is_row count second) a.all_known in
    (held table count first a.room b.0, held table count second a.room b.1)

-- ---- 6, by the span test
lent_accepted : (table : List ℤ) (row : ℕ) → (lent_row table row).number ≡ 0
    → (lent_row table row ≡ accepted) × (span (row_at table (row - 1)) ≤ span_limit)
lent_accepted table row =
    pick_elim (λ (r : Refusal). r.number ≡ 0 → (r ≡ accepted) × (span (row_at table (row - 1)) ≤ span_limit))
    (within_span (row_at table (row - 1))) accepted (refusal 6 row)
    (λ e h. (refl, leb-true _ _ e))
    (λ e h. absurd (omega arith))

-- ---- 8 and 6, of the second table
pub record RangeHeld (ranges : List ℤ) (row : ℕ) : Type 0 where
  pub from_one : 1 ≤ row
  pub room : range_width * row ≤ length ranges

ranges_accepted : (ranges : List ℤ) (count : ℕ) → (ranges_refusal ranges count).number ≡ 0 → range_width * count ≤ length ranges
ranges_accepted ranges count =
    pick_elim (λ (r : Refusal). r.number ≡ 0 → range_width * count ≤ length ranges) (leb (range_width * count) (length ranges)) accepted table_too_short
    (λ e h. leb-true _ _ e)
    (λ e h. absurd (omega arith))

-- the row is one of the count's, and the second table has room for them
pub range_holds : (table ranges : List ℤ) (count row : ℕ) {r s : Refusal} → r ≡ table_refusal table count (is_row count row) → r.number ≡ 0
    → s ≡ ranges_refusal ranges count → s.number ≡ 0 → RangeHeld ranges row
range_holds table ranges count row e h f k =
    let b = both_true (leb 1 row) (leb row count) (table_accepted table count (is_row count row) (number_of e h)).all_known in
    let room = ranges_accepted ranges count (number_of f k) in
    let up_to : row ≤ count = leb-true row count b.1 in
    record { from_one = leb-true 1 row b.0; room = omega arith }

lent_range_accepted : (ranges : List ℤ) (row : ℕ) → (lent_range ranges row).number ≡ 0
    → (lent_range ranges row ≡ accepted) × ((range_at ranges (row - 1)).low ≤ℤ (range_at ranges (row - 1)).high)
lent_range_accepted ranges row =
    let low = (range_at ranges (row - 1)).low in
    let high = (range_at ranges (row - 1)).high in
    pick_elim (λ (r : Refusal). r.number ≡ 0 → (r ≡ accepted) × (low ≤ℤ high)) (le_z low high) accepted (refusal 6 row)
    (λ e h. (refl, ≤ℤ_of_test e))
    (λ e h. absurd (omega arith))

-- ---- a row asked for and not refused
pub record RowAccepted (table : List ℤ) (count row : ℕ) : Type 0 where
  pub answer : row_refusal table count row ≡ accepted
  pub holds : Held table row
  pub within : span (row_at table (row - 1)) ≤ span_limit

pub row_accepted : (table : List ℤ) (count row : ℕ) {r : Refusal} → r ≡ row_refusal table count row → r.number ≡ 0 → RowAccepted table count row
unfolding row_refusal
row_accepted table count row e h =
    let b = or_else_accepted (table_refusal table count (is_row count row)) (lent_row table row) (number_of e h) in
    let l = lent_accepted table row b.second in
    record { answer = b.is_second ∙ l.0; holds = table_holds table count row refl b.first; within = l.1 }

pub record RangeAccepted (table ranges : List ℤ) (count row : ℕ) : Type 0 where
  pub answer : range_refusal table ranges count row ≡ accepted
  pub holds : RangeHeld ranges row
  pub ordered : (range_at ranges (row - 1)).low ≤ℤ (range_at ranges (row - 1)).high

pub range_accepted : (table ranges : List ℤ) (count row : ℕ) {r : Refusal} → r ≡ range_refusal table ranges count row → r.number ≡ 0
    → RangeAccepted table ranges count row
unfolding range_refusal
range_accepted table ranges count row e h =
    let b = or_else_accepted (table_refusal table count (is_row count row)) (or_else (ranges_refusal ranges count) (or_else (lent_row table row) (lent_range ranges row))) (number_of e h) in
    let d = or_else_accepted (ranges_refusal ranges count) (or_else (lent_row table row) (lent_range ranges row)) b.second in
    let f = or_else_accepted (lent_row table row) (lent_range ranges row) d.second in
    let g = lent_range_accepted ranges row f.second in
    record {
      answer = b.is_second ∙ d.is_second ∙ f.is_second ∙ g.0;
      holds = range_holds table ranges count row refl b.first refl d.first;
      ordered = g.1;
    }

pub record RowsAccepted (table : List ℤ) (count first second : ℕ) : Type 0 where
  pub answer : rows_refusal table count first second ≡ accepted
  pub holds_first : Held table first
  pub holds_second : Held table second

pub rows_accepted : (table : List ℤ) (count first second : ℕ) {r : Refusal} → r ≡ rows_refusal table count first second → r.number ≡ 0
    → RowsAccepted table count first second
unfolding rows_refusal
rows_accepted table count first second e h =
    let t = table_refusal table count (pick (is_row count first) (is_row count second) false) in
    let low = lent_row table (min first second) in
    let high = lent_row table (max first second) in
    let b = or_else_accepted t (or_else low high) (number_of e h) in
    let d = or_else_accepted low high b.second in
    let l = table_holds_both table count first second refl b.first in
    record { answer = b.is_second ∙ d.is_second ∙ (lent_accepted table (max first second) d.second).0; holds_first = l.0; holds_second = l.1 }

-- ---- a row that is refused: an empty part, and its range is refused by the same
refused_part : (table : List ℤ) (count row : ℕ) → ((row_refusal table count row).number ≡ 0 → ⊥) → part_of table count row ≡ []
unfolding part_of
refused_part table count row h = sym (refused_answer (row_refusal table count row) (row_part table (row - 1)) (λ r. []) refl h)

accepted_part : (table : List ℤ) (count row : ℕ) → (row_refusal table count row).number ≡ 0 → length (part_of table count row) ≡ row_width
unfolding part_of
accepted_part table count row h =
    let a = (row_accepted table count row refl h).holds in
    ap length (sym (told_answer (row_refusal table count row) (row_part table (row - 1)) [] refl h))
    ∙ length_part table (row_width * (row - 1)) row_width (omega (arith, a.from_one, a.room))

-- a row that the table holds is refused by 6 alone
lent_six : (table : List ℤ) (row : ℕ) → ((lent_row table row).number ≡ 0 → ⊥) → (lent_row table row).number ≡ 6
lent_six table row =
    pick_elim (λ (r : Refusal). (r.number ≡ 0 → ⊥) → r.number ≡ 6) (within_span (row_at table (row - 1))) accepted (refusal 6 row)
    (λ e h. absurd (h refl))
    (λ e h. refl)

refused_alike : (t l r d : Refusal) → ((l.number ≡ 0 → ⊥) → l.number ≡ 6) → ((or_else t l).number ≡ 0 → ⊥) → ((or_else t l).number ≡ 6 → r ≡ accepted)
    → or_else t (or_else r (or_else l d)) ≡ or_else t l
refused_alike t l r d six = by_test (eqb t.number 0)
  where
    by_test : (b : Bool) → ((pick b l t).number ≡ 0 → ⊥) → ((pick b l t).number ≡ 6 → r ≡ accepted) → pick b (or_else r (or_else l d)) t ≡ pick b l t
    by_test true z s = sym (goes_on (or_else l d) (sym (s (six z)))) ∙ sym (refused_answer l d (λ q. q) refl z)
    by_test false z s = refl

alike : (table ranges : List ℤ) (count row : ℕ) → ((row_refusal table count row).number ≡ 0 → ⊥)
    → ((row_refusal table count row).number ≡ 6 → range_width * count ≤ length ranges) → range_refusal table ranges count row ≡ row_refusal table count row
unfolding row_refusal range_refusal
alike table ranges count row h room =
    refused_alike (table_refusal table count (is_row count row)) (lent_row table row) (ranges_refusal ranges count) (lent_range ranges row)
    (lent_six table row) h (λ s. simp (le-leb (range_width * count) (length ranges) (room s)))

told_by_range : (table : List ℤ) (count row : ℕ) → ((row_refusal table count row).number ≡ 0 → ⊥) → ToldByRange table count row
unfolding range_of
told_by_range table count row h ranges room =
    sym (refused_answer (range_refusal table ranges count row) (range_told (range_at ranges (row - 1))) range_refused (sym (alike table ranges count row h room)) h)

-- what the part that is handed back tells
pub record PartTells (table : List ℤ) (count row : ℕ) (part : List ℤ) : Type 0 where
  pub whole : (length part ≡ row_width) ↔ (row_refusal table count row ≡ accepted)
  pub empty : (part ≡ []) ↔ ((row_refusal table count row).number ≢ 0)
  pub told : (part ≡ []) → ToldByRange table count row

pub part_tells : (table : List ℤ) (count row : ℕ) {part : List ℤ} → part ≡ part_of table count row → PartTells table count row part
part_tells table count row e = rw e (by_number (ℕ_discrete (row_refusal table count row).number 0))
  where
    no_width : (part_of table count row ≡ []) → length (part_of table count row) ≡ 0
    no_width q = ap length q

    by_number : Dec ((row_refusal table count row).number ≡ 0) → PartTells table count row (part_of table count row)
    by_number (yes z) =
        let w = accepted_part table count row z in
        let some : (part_of table count row ≡ []) → ⊥ = λ q. absurd (let n = no_width q in omega arith) in
        record {
          whole = (λ l. (row_accepted table count row refl z).answer, λ a. w);
          empty = (λ q. absurd (some q), λ d. absurd (d z));
          told = λ q. absurd (some q);
        }
    by_number (no d) =
        let q = refused_part table count row d in
        record {
          whole = (λ l. absurd (let n = no_width q in omega arith), λ a. absurd (d (ap (λ (r : Refusal). r.number) a)));
          empty = (λ p. d, λ p. q);
          told = λ p. told_by_range table count row d;
        }

test_passed : {a b : ℤ} → a ≤ℤ b → le_z a b ≡ true
test_passed {a} {b} h = by_test (le_z a b) h.le
  where
    by_test : (t : Bool) → T t → t ≡ true
    by_test true t = refl
    by_test false t = absurd t

-- ---- rows within the span limit, and ranges of which no low is above its high: none of them is refused
module _ (table : List ℤ) (count : ℕ) (few : count ≤ max_rows) (within : RowsWithin table count) where
  lent_answered : (row : ℕ) → 1 ≤ row → row ≤ count → lent_row table row ≡ accepted
  lent_answered row l h = simp (le-leb (span (row_at table (row - 1))) span_limit (within.spans (row - 1) (omega arith)))

  pub row_answered : (row : ℕ) → 1 ≤ row → row ≤ count → row_refusal table count row ≡ accepted
  unfolding row_refusal
  row_answered row l h =
      simp (le-leb 1 row l, le-leb row count h, le-leb count max_rows few, le-leb (row_width * count) (length table) within.room) (lent_answered row l h)

  rows_answered : (first second : ℕ) → 1 ≤ first → first ≤ count → 1 ≤ second → second ≤ count → rows_refusal table count first second ≡ accepted
  unfolding rows_refusal
  rows_answered first second l h m k =
      let q = lent_answered (min first second) (omega arith) (omega arith) in
      let r = lent_answered (max first second) (omega arith) (omega arith) in
      simp (le-leb 1 first l, le-leb first count h, le-leb 1 second m, le-leb second count k, le-leb count max_rows few, le-leb (row_width * count) (length table) within.room)
      (ap₂ or_else q r)

  -- what is told of them
  module _ (ranges : List ℤ) (ordered : RangesOrdered ranges count) where
    range_answered : (row : ℕ) → 1 ≤ row → row ≤ count → range_refusal table ranges count row ≡ accepted
    unfolding range_refusal
    range_answered row l h =
        let q = lent_answered row l h in
        let r : lent_range ranges row ≡ accepted = ap (λ (b : Bool). pick b accepted (refusal 6 row)) (test_passed (ordered.ordered (row - 1) (omega arith))) in
        simp (le-leb 1 row l, le-leb row count h, le-leb count max_rows few, le-leb (row_width * count) (length table) within.room, le-leb (range_width * count) (length ranges) ordered.room)
        (ap₂ or_else q r)

    pub range_told_of : (row : ℕ) → 1 ≤ row → row ≤ count → range_of table ranges count row ≡ range_told (range_at ranges (row - 1))
    unfolding range_of
    range_told_of row l h = rw (range_answered row l h)

  pub part_told_of : (row : ℕ) → 1 ≤ row → row ≤ count → part_of table count row ≡ row_part table (row - 1)
  unfolding part_of
  part_told_of row l h = rw (row_answered row l h)

  pub same_told_of : (first second : ℕ) → 1 ≤ first → first ≤ count → 1 ≤ second → second ≤ count
      → same_of table count first second ≡ compared (row_at table (first - 1)) (row_at table (second - 1))
  unfolding same_of
  same_told_of first second l h m k = rw (rows_answered first second l h m k)
