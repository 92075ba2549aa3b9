-- What a sheet cannot use has coefficient 0 in each of its rows.
use mathlib.Core.Path.{sym, subst}
use mathlib.Core.List.{List, []}
use Prim.Native.Nat.{ℕ, ◌≤◌, ◌<◌}
use native.Mathlib.Nat.{le_refl, not-suc-le-zero}
use lib.Dec.{eqb}
use lib.IntN.{ℤ, pos}
use Rattle.affine.specs.Steps.{constant_row}
use Rattle.affine.proofs.Lists.{pick_elim}
use Rattle.sheet.specs.declared.Schedule.{Schedule}
use Rattle.sheet.specs.Lines.{natural}
use Rattle.sheet.specs.Writing.{test_of}
use Rattle.evaluation.specs.Work.{Worked, row_count, worked, tables_hold, evaluated}
use Rattle.evaluation.specs.Unused.{UnusedAreZero, AllUnusedAreZero}
use Rattle.evaluation.proofs.Sequence.{length_grown, get_or_grown}
use Rattle.evaluation.proofs.WorkLaws.{next_row, rows_up_to, beginning}
use Rattle.evaluation.proofs.EveryRow.{none_later, uses_only}

module _ (c : Schedule) where
  in_first : (count : ℕ) → AllUnusedAreZero c (rows_up_to c count)
  in_first count i h =
      let l : i < count = subst (λ k. i < k) (length_grown (next_row c) count) h in
      subst (UnusedAreZero (natural c.squares) i) (sym (get_or_grown (next_row c) count (constant_row (pos 0)) i l))
      (record { later_symbol = λ m k. (none_later c i m k).linear; pair_not_in_use = (uses_only c i).unused })

  in_worked : (n : ℕ) → n ≤ row_count c → AllUnusedAreZero c (worked c n).rows
  in_worked n few = let b = beginning c n few in subst (AllUnusedAreZero c) (sym b.is) (in_first b.count)

  in_none : AllUnusedAreZero c []
  in_none i h = absurd (not-suc-le-zero h)

pub unused : (c : Schedule) (table ranges : List ℤ) → AllUnusedAreZero c (evaluated c table ranges).rows
unfolding evaluated
unused c table ranges =
    pick_elim (λ (w : Worked). AllUnusedAreZero c w.rows) (eqb (test_of c).number 0) _ _
    (λ e. pick_elim (λ (w : Worked). AllUnusedAreZero c w.rows) (tables_hold (row_count c) table ranges) _ _ (λ l. in_worked c (row_count c) (le_refl (row_count c))) (λ l. in_none c))
    (λ e. in_none c)
