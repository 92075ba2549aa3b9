-- What accepted work is made of: as many rows as were asked for, each accepted, and each made from the rows before it as its line says. And what is left of
-- work that a refusal ended.
use mathlib.Core.Path.{◌≡◌, refl, sym, ap, ◌∙◌, subst}
use mathlib.Core.Logic.{◌⊎◌, inl, inr}
use mathlib.Core.Bool.{Bool, true, false}
use mathlib.Core.List.{List, [], ◌∷◌, ◌++◌}
use Prim.Native.Nat.{ℕ, zero, suc, ◌+◌, ◌-◌, ◌≤◌, ◌<◌}
use native.Mathlib.Decide.{ℕ_discrete}
use native.Mathlib.Nat.{le_refl, add-zero, add-suc, not-suc-le-zero, eq-or-lt_of_le, le_of_suc-le-suc}
use native.Mathlib.Omega.{arith}
use borrow.Author.Tests.{eqb-true, eqb-false, eq-eqb, ne_eqb}
use lib.Dec.{eqb}
use lib.ListN.{length}
use Rattle.affine.specs.declared.Row.{Row}
use Rattle.affine.specs.declared.Range.{Range}
use Rattle.affine.specs.Answer.{Status}
use Rattle.affine.specs.Answer.{Accepted, SpanPassed, ZeroInRange, NoRoot}
use Rattle.affine.specs.Answer.{Answer}
use Rattle.affine.specs.Lists.{pick}
use Rattle.affine.specs.Row.{within_span, form_range}
use Rattle.affine.specs.Steps.{checked, number, refused}
use Rattle.affine.specs.Reciprocal.{zero_in_range, distance, candidate, reciprocal_row, reciprocal_apart, reciprocal}
use Rattle.affine.specs.Root.{root_candidate, root_row, below_one, starts_below_zero, root_from, square_root}
use Rattle.affine.proofs.Answers.{checked_accepted}
use Rattle.sheet.specs.declared.Schedule.{Schedule}
use Rattle.sheet.specs.Causes.{refusal, accepted}
use Rattle.evaluation.specs.Work.{row_count, Worked, onward, stopped, with_answer, worked, row_answer}
use Rattle.evaluation.proofs.Sequence.{grown, grown_suc, length_grown}

-- the row that the work makes of the rows before it
abbrev pub next_row : Schedule → List Row → Row
next_row c rows = (row_answer c rows).row

-- the first n rows, if none is refused
abbrev pub rows_up_to : Schedule → ℕ → List Row
rows_up_to c n = grown (next_row c) n

pub number_zero : (s : Status) → number s ≡ 0 → s ≡ Accepted
number_zero Accepted e = refl
number_zero SpanPassed e = absurd (omega arith)
number_zero ZeroInRange e = absurd (omega arith)
number_zero NoRoot e = absurd (omega arith)

pub record Went (c : Schedule) (n : ℕ) : Type 0 where
  pub rows : (worked c n).rows ≡ rows_up_to c n
  pub refusal : (worked c n).refusal ≡ accepted
  pub each : (i : ℕ) → i < n → (row_answer c (rows_up_to c i)).status ≡ Accepted

-- so many first rows of a schedule, none of them refused
pub record Begun (c : Schedule) (n : ℕ) : Type 0 where
  pub few : n ≤ row_count c
  pub goes : Went c n

answered : (rows : List Row) (a : Answer) → (with_answer rows a).refusal.number ≡ 0 → (a.status ≡ Accepted) × (with_answer rows a ≡ onward (rows ++ (a.row ∷ [])))
unfolding with_answer
answered rows a h = by_test (eqb (number a.status) 0) refl h
  where
    yes_rows : Worked
    yes_rows = onward (rows ++ (a.row ∷ []))

    no_rows : Worked
    no_rows = stopped rows (refusal (number a.status) (suc (length rows)))

    by_test : (t : Bool) → eqb (number a.status) 0 ≡ t → (pick t yes_rows no_rows).refusal.number ≡ 0 → (a.status ≡ Accepted) × (pick t yes_rows no_rows ≡ yes_rows)
    by_test true e h = (number_zero a.status (eqb-true _ _ e), refl)
    by_test false e h = absurd (eqb-false _ _ e h)

-- the rows worked and the answer that comes next
more_work : Schedule → ℕ → Worked
more_work c n = with_answer (worked c n).rows (row_answer c (worked c n).rows)

went_on : (c : Schedule) (n : ℕ) → Went c n → (more_work c n).refusal.number ≡ 0 → worked c (suc n) ≡ more_work c n → Went c (suc n)
unfolding more_work
went_on c n w h e =
    let a = answered (worked c n).rows (row_answer c (worked c n).rows) h in
    let q : worked c (suc n) ≡ onward (rows_up_to c (suc n)) =
    e ∙ a.1 ∙ ap (λ rows. onward (rows ++ (next_row c rows ∷ []))) w.rows ∙ ap onward (sym (grown_suc (next_row c) n)) in
    record {
      rows = ap (λ v. v.rows) q;
      refusal = ap (λ v. v.refusal) q;
      each = λ i l. by_place i (eq-or-lt_of_le (le_of_suc-le-suc l)) (subst (λ rows. (row_answer c rows).status ≡ Accepted) w.rows a.0);
    }
  where
    by_place : (i : ℕ) → (i ≡ n) ⊎ (i < n) → (row_answer c (rows_up_to c n)).status ≡ Accepted → (row_answer c (rows_up_to c i)).status ≡ Accepted
    by_place i (inl p) s = subst (λ m. (row_answer c (rows_up_to c m)).status ≡ Accepted) (sym p) s
    by_place i (inr l) s = w.each i l

pub went : (c : Schedule) (n : ℕ) → (worked c n).refusal.number ≡ 0 → Went c n
unfolding worked grown more_work
went c zero h = record { rows = refl; refusal = refl; each = λ i l. absurd (not-suc-le-zero l) }
went c (suc n) h = by_test (eqb (worked c n).refusal.number 0) refl refl h (λ q. went c n q)
  where
    by_test : (t : Bool) → eqb (worked c n).refusal.number 0 ≡ t → worked c (suc n) ≡ pick t (more_work c n) (worked c n)
        → (pick t (more_work c n) (worked c n)).refusal.number ≡ 0 → ((worked c n).refusal.number ≡ 0 → Went c n) → Went c (suc n)
    by_test false e q h ih = absurd (eqb-false _ _ e h)
    by_test true e q h ih = went_on c n (ih (eqb-true _ _ e)) h q

-- ---- the work: one row more, or a refusal that stays
pub worked_more : (c : Schedule) (n : ℕ) → (worked c n).refusal.number ≡ 0 → worked c (suc n) ≡ with_answer (worked c n).rows (row_answer c (worked c n).rows)
unfolding worked
worked_more c n e = rw (eq-eqb _ 0 e)

refused_again : (c : Schedule) (n : ℕ) → ((worked c n).refusal.number ≡ 0 → ⊥) → worked c (suc n) ≡ worked c n
unfolding worked
refused_again c n e = rw (ne_eqb _ 0 e)

pub refusal_stays : (c : Schedule) (n k : ℕ) → ((worked c n).refusal.number ≡ 0 → ⊥) → worked c (n + k) ≡ worked c n
refusal_stays c n zero e = ap (worked c) (add-zero n)
refusal_stays c n (suc k) e =
    let same = refusal_stays c n k e in
    ap (worked c) (add-suc n k) ∙ refused_again c (n + k) (λ z. e (sym (ap (λ v. v.refusal.number) same) ∙ z)) ∙ same

pub with_answer_accepted : (rows : List Row) (a : Answer) → number a.status ≡ 0 → with_answer rows a ≡ onward (rows ++ (a.row ∷ []))
unfolding with_answer
with_answer_accepted rows a e = rw (eq-eqb _ 0 e)

pub with_answer_refused : (rows : List Row) (a : Answer) → (number a.status ≡ 0 → ⊥) → with_answer rows a ≡ stopped rows (refusal (number a.status) (suc (length rows)))
unfolding with_answer
with_answer_refused rows a e = rw (ne_eqb _ 0 e)

-- ---- of n rows that were to be worked the first k were, and none of them refused
pub record Done (c : Schedule) (n k : ℕ) : Type 0 where
  pub few : k ≤ n
  pub none_refused : (worked c k).refusal.number ≡ 0
  pub rows : (worked c n).rows ≡ (worked c k).rows

pub all_done : (c : Schedule) (n : ℕ) → (worked c n).refusal.number ≡ 0 → Done c n n
all_done c n e = record { few = le_refl n; none_refused = e; rows = refl }

-- where a refusal ended the work, those before its place
pub record Stopped (c : Schedule) (n : ℕ) : Type 0 where
  pub from : 1 ≤ (worked c n).refusal.place
  pub done : Done c n ((worked c n).refusal.place - 1)

stopped_here : (c : Schedule) (n m : ℕ) {rows : List Row} {k : ℕ} → worked c n ≡ stopped rows (refusal k (suc m)) → m < n → (worked c m).refusal.number ≡ 0 → rows ≡ (worked c m).rows → Stopped c n
stopped_here c n m e h before same =
    let place : (worked c n).refusal.place ≡ suc m = ap (λ w. w.refusal.place) e in
    let index : (worked c n).refusal.place - 1 ≡ m = ap (λ k. k - 1) place ∙ omega arith in
    let done : Done c n m = record { few = omega arith; none_refused = before; rows = ap (λ w. w.rows) e ∙ same } in
    record { from = omega (arith, place); done = subst (Done c n) (sym index) done }

pub stopped_at : (c : Schedule) (n : ℕ) → ((worked c n).refusal.number ≡ 0 → ⊥) → Stopped c n
unfolding worked
stopped_at c zero d = absurd (d refl)
stopped_at c (suc n) d = by_test (ℕ_discrete (worked c n).refusal.number 0) (stopped_at c n)
  where
    here : (worked c n).refusal.number ≡ 0 → Dec (number (row_answer c (worked c n).rows).status ≡ 0) → Stopped c (suc n)
    here e (yes a) = absurd (d (ap (λ w. w.refusal.number) (worked_more c n e ∙ with_answer_accepted (worked c n).rows (row_answer c (worked c n).rows) a)))
    here e (no a) =
        let long : length (worked c n).rows ≡ n = ap length (went c n e).rows ∙ length_grown (next_row c) n in
        stopped_here c (suc n) (length (worked c n).rows) (worked_more c n e ∙ with_answer_refused (worked c n).rows (row_answer c (worked c n).rows) a) (omega (arith, long))
        (ap (λ k. (worked c k).refusal.number) long ∙ e) (ap (λ k. (worked c k).rows) (sym long))

    by_test : Dec ((worked c n).refusal.number ≡ 0) → (((worked c n).refusal.number ≡ 0 → ⊥) → Stopped c n) → Stopped c (suc n)
    by_test (yes e) ih = here e (ℕ_discrete (number (row_answer c (worked c n).rows).status) 0)
    by_test (no e) ih =
        let same = refused_again c n e in
        let place : (worked c n).refusal.place ≡ (worked c (suc n)).refusal.place = ap (λ w. w.refusal.place) (sym same) in
        let s = ih e in
        let done : Done c (suc n) ((worked c n).refusal.place - 1) =
        record { few = omega (arith, s.done.few); none_refused = s.done.none_refused; rows = ap (λ w. w.rows) same ∙ s.done.rows } in
        record { from = omega (arith, place, s.from); done = subst (λ k. Done c (suc n) (k - 1)) place done }

-- ---- either way the rows are a beginning
pub begun_of : (c : Schedule) (n : ℕ) → n ≤ row_count c → (worked c n).refusal.number ≡ 0 → Begun c n
begun_of c n few e = record { few = few; goes = went c n e }

pub record Beginning (c : Schedule) (rows : List Row) : Type 0 where
  pub count : ℕ
  pub begun : Begun c count
  pub is : rows ≡ rows_up_to c count

pub beginning : (c : Schedule) (n : ℕ) → n ≤ row_count c → Beginning c (worked c n).rows
beginning c n few = by_test (ℕ_discrete (worked c n).refusal.number 0)
  where
    of_done : (k : ℕ) → Done c n k → Beginning c (worked c n).rows
    of_done k done = let b = begun_of c k (omega (arith, done.few)) done.none_refused in record { count = k; begun = b; is = done.rows ∙ b.goes.rows }

    by_test : Dec ((worked c n).refusal.number ≡ 0) → Beginning c (worked c n).rows
    by_test (yes e) = of_done n (all_done c n e)
    by_test (no d) = of_done ((worked c n).refusal.place - 1) (stopped_at c n d).done

-- ---- what an accepted answer holds
pub record Inverted (squares own : ℕ) (x : Row) (range : Range) : Type 0 where
  pub apart : zero_in_range range ≡ false
  pub row : (reciprocal squares own x range).row ≡ reciprocal_row squares own x (distance range)

pub reciprocal_accepted : (squares own : ℕ) (x : Row) (range : Range) → (reciprocal squares own x range).status ≡ Accepted → Inverted squares own x range
reciprocal_accepted squares own x range h = by_range (zero_in_range range) refl h refl
  where
    by_range : (t : Bool) → zero_in_range range ≡ t → (pick t (refused ZeroInRange) (reciprocal_apart squares own x (distance range))).status ≡ Accepted
        → reciprocal squares own x range ≡ pick t (refused ZeroInRange) (reciprocal_apart squares own x (distance range)) → Inverted squares own x range
    by_range true e h q = absurd (let z : number ZeroInRange ≡ number Accepted = ap number h in omega arith)
    by_range false e h q = by_span (within_span (candidate squares x)) h q
      where
        r : Row
        r = reciprocal_row squares own x (distance range)

        by_span : (t : Bool) → (pick t (checked r) (refused SpanPassed)).status ≡ Accepted
            → reciprocal squares own x range ≡ pick t (checked r) (refused SpanPassed) → Inverted squares own x range
        by_span true h q = record { apart = e; row = ap (λ a. a.row) (q ∙ checked_accepted r (form_range r) h) }
        by_span false h q = absurd (let z : number SpanPassed ≡ number Accepted = ap number h in omega arith)

pub record Rooted (squares own : ℕ) (x : Row) (range : Range) : Type 0 where
  pub some : below_one range ≡ false
  pub starts : starts_below_zero (root_candidate x) ≡ false
  pub row : (square_root squares own x range).row ≡ root_row squares own x range.low

pub root_accepted : (squares own : ℕ) (x : Row) (range : Range) → (square_root squares own x range).status ≡ Accepted → Rooted squares own x range
root_accepted squares own x range h = by_range (below_one range) refl h refl
  where
    r : Row
    r = root_row squares own x range.low

    by_range : (t : Bool) → below_one range ≡ t → (pick t (refused NoRoot) (root_from squares own x range.low)).status ≡ Accepted
        → square_root squares own x range ≡ pick t (refused NoRoot) (root_from squares own x range.low) → Rooted squares own x range
    by_range true e h q = absurd (let z : number NoRoot ≡ number Accepted = ap number h in omega arith)
    by_range false e h q = by_span (within_span (root_candidate x)) h q
      where
        by_start : (t : Bool) → starts_below_zero (root_candidate x) ≡ t → (pick t (refused NoRoot) (checked r)).status ≡ Accepted
            → square_root squares own x range ≡ pick t (refused NoRoot) (checked r) → Rooted squares own x range
        by_start true s h q = absurd (let z : number NoRoot ≡ number Accepted = ap number h in omega arith)
        by_start false s h q = record { some = e; starts = s; row = ap (λ a. a.row) (q ∙ checked_accepted r (form_range r) h) }

        by_span : (t : Bool) → (pick t (pick (starts_below_zero (root_candidate x)) (refused NoRoot) (checked r)) (refused SpanPassed)).status ≡ Accepted
            → square_root squares own x range ≡ pick t (pick (starts_below_zero (root_candidate x)) (refused NoRoot) (checked r)) (refused SpanPassed) → Rooted squares own x range
        by_span true h q = by_start (starts_below_zero (root_candidate x)) refl h q
        by_span false h q = absurd (let z : number SpanPassed ≡ number Accepted = ap number h in omega arith)
