-- No number that is printed has more than ten digits, since the ends of an answered range are within the span limit, so are a row's
-- coefficients, and the numbers of a refusal are small.
use mathlib.Core.Path.{subst}
use mathlib.Core.List.{List, [], ◌∷◌}
use Prim.Native.Nat.{ℕ, zero, suc, ◌-◌, ◌≤◌}
use native.Mathlib.Omega.{arith}
use lib.IntN.{ℤ, pos, nat_abs}
use Rattle.integer.specs.Sum.{sum_abs}
use Rattle.affine.specs.Limits.{span_limit}
use Rattle.affine.specs.Lists.{at}
use Rattle.affine.specs.Row.{span}
use Rattle.affine.proofs.RowSize.{element_within}
use Rattle.interval.specs.Interval.{RangeWithin}
use Rattle.sheet.specs.declared.Schedule.{Schedule}
use Rattle.sheet.specs.Answers.{Refusal}
use Rattle.sheet.proofs.FieldLine.{TenDigits, none, one}
use Rattle.sheet.proofs.RefusalSize.{Small, last_place}
use Rattle.evaluation.specs.Table.{row_part, range_at, RangesOrdered}
use Rattle.evaluation.specs.Work.{row_count}
use Rattle.evaluation.specs.TablesHeld.{TablesHeld}
use Rattle.evaluation.proofs.RowParts.{numbers_row_at}
use Rattle.listing.specs.Listing.{own, row_numbers}
use Rattle.listing.proofs.HeldRows.{RowHeld, row_room, row_within, row_range, row_own}
use Rattle.listing.proofs.FirstSame.{first_small}

-- each number of the line of a row within the span limit is at most that limit
module _ {table ranges : List ℤ} {count row : ℕ} (h : RowHeld table count row) (ordered : RangesOrdered ranges count) (short : RangeWithin span_limit (range_at ranges (row - 1))) where
  own_short : nat_abs (own table count row) ≤ span_limit
  unfolding span
  own_short =
      rw (row_own h)
      (element_within (row_part table (row - 1)) (subst (λ ns. sum_abs ns ≤ span_limit) (numbers_row_at table (row - 1) (row_room h)) (row_within h)) row)

  number_short : (i : ℕ) → nat_abs (at (row_numbers table ranges count row) i) ≤ span_limit
  number_short zero = omega (arith, h.up_to, h.rows.few)
  number_short (suc zero) = rw (row_range h ordered) short.low_in
  number_short (suc (suc zero)) = rw (row_range h ordered) short.high_in
  number_short (suc (suc (suc zero))) = own_short
  number_short (suc (suc (suc (suc zero)))) = omega (arith, first_small table count row (row - 1) 1, h.up_to, h.rows.few)
  number_short (suc (suc (suc (suc (suc i))))) = omega arith

-- the numbers of the lines of the tables that an accepted evaluation left
pub numbers_short : {c : Schedule} {table ranges : List ℤ} → TablesHeld c table ranges → (row : ℕ) → 1 ≤ row → row ≤ row_count c
    → (i : ℕ) → nat_abs (at (row_numbers table ranges (row_count c) row) i) ≤ span_limit
numbers_short held row l h i =
    number_short
    (record { rows = record { few = held.few; within = held.rows }; from_one = l; up_to = h })
    held.ordered (held.ends_within (row - 1) (omega arith)) i

-- the numbers of a refusal that reading or evaluating tells
pub refusal_short : {r : Refusal} → Small last_place r → TenDigits (pos r.number ∷ pos r.place ∷ [])
refusal_short s = one (omega (arith, s.number_small)) (one (omega (arith, s.place_small)) none)
