-- The numbers of a refusal by evaluation are small: the cause, and a row that the schedule has or a line of its sheet.
use mathlib.Core.List.{List, [], ◌∷◌}
use Prim.Native.Nat.{ℕ, zero, suc, ◌≤◌}
use native.Mathlib.Omega.{arith}
use borrow.Author.Tests.{eqb-true}
use lib.Dec.{eqb}
use lib.IntN.{ℤ}
use lib.ListN.{length, length-append}
use Rattle.affine.specs.declared.Row.{Row}
use Rattle.affine.specs.Answer.{Answer}
use Rattle.affine.specs.Answer.{Status}
use Rattle.affine.specs.Answer.{Accepted, SpanPassed, ZeroInRange, NoRoot}
use Rattle.affine.specs.Steps.{number}
use Rattle.affine.proofs.Lists.{pick_elim}
use Rattle.sheet.specs.declared.Schedule.{Schedule}
use Rattle.sheet.specs.Writing.{test_of}
use Rattle.sheet.proofs.Passed.{passed}
use Rattle.sheet.proofs.RefusalSize.{Small, last_cause, last_place, test_small}
use Rattle.evaluation.specs.Work.{Worked, row_count, row_answer, with_answer, worked, tables_hold, evaluated}
use Rattle.evaluation.proofs.RowLines.{rows_few}

status_small : (s : Status) → number s ≤ last_cause
status_small Accepted = omega arith
status_small SpanPassed = omega arith
status_small ZeroInRange = omega arith
status_small NoRoot = omega arith

-- so many rows at the most, and a refusal at one of them
record WorkedSmall (n : ℕ) (w : Worked) : Type 0 where
  rows_small : length w.rows ≤ n
  refusal_small : Small n w.refusal

answer_small : (n : ℕ) (rows : List Row) (a : Answer) → length rows ≤ n → WorkedSmall (suc n) (with_answer rows a)
unfolding with_answer
answer_small n rows a h =
    pick_elim (WorkedSmall (suc n)) (eqb (number a.status) 0) _ _
    (λ e. record { rows_small = omega (arith, length-append rows (a.row ∷ [])); refusal_small = record { number_small = omega arith; place_small = omega arith } })
    (λ e. record { rows_small = omega arith; refusal_small = record { number_small = status_small a.status; place_small = omega arith } })

worked_small : (c : Schedule) (n : ℕ) → WorkedSmall n (worked c n)
unfolding worked
worked_small c zero = record { rows_small = omega arith; refusal_small = record { number_small = omega arith; place_small = omega arith } }
worked_small c (suc n) =
    let w = worked_small c n in
    pick_elim (WorkedSmall (suc n)) (eqb (worked c n).refusal.number 0) _ _
    (λ e. answer_small n (worked c n).rows (row_answer c (worked c n).rows) w.rows_small)
    (λ e. record { rows_small = omega (arith, w.rows_small); refusal_small = record { number_small = w.refusal_small.number_small; place_small = omega (arith, w.refusal_small.place_small) } })

pub evaluated_small : (c : Schedule) (table ranges : List ℤ) → Small last_place (evaluated c table ranges).refusal
unfolding evaluated
evaluated_small c table ranges =
    let small : Worked → Type 0 = λ w. Small last_place w.refusal in
    pick_elim small (eqb (test_of c).number 0) _ _
    (λ e. pick_elim small (tables_hold (row_count c) table ranges) _ _
    (λ l.
    let w = (worked_small c (row_count c)).refusal_small in
    record { number_small = w.number_small; place_small = omega (arith, w.place_small, rows_few c (passed c (eqb-true _ _ e))) })
    (λ l. record { number_small = omega arith; place_small = omega arith }))
    (λ e. test_small c)
