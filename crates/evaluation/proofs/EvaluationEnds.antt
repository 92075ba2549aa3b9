-- The four ways evaluation ends: by a test of the schedule, by a table too short, the first or the second, or with the work.
use mathlib.Core.Path.{◌≡◌, refl, sym, ap, ◌∙◌}
use mathlib.Core.Bool.{Bool, true, false}
use mathlib.Core.List.{List, []}
use Prim.Native.Nat.{◌*◌, ◌≤◌, ◌<◌}
use borrow.Author.Tests.{eq-eqb, ne_eqb, le-leb, lt-leb, leb-false}
use lib.IntN.{ℤ}
use lib.ListN.{length}
use Rattle.affine.specs.Lists.{tabulate}
use Rattle.affine.specs.Row.{numbers}
use Rattle.sheet.specs.declared.Schedule.{Schedule}
use Rattle.sheet.specs.Writing.{test_of}
use Rattle.sheet.proofs.Results.{number_some}
use Rattle.sheet.specs.Answers.{Refusal}
use Rattle.sheet.specs.Causes.{accepted}
use Rattle.sheet.specs.Results.{refusal_of}
use Rattle.sheet.specs.declared.causes.Refused.{Refused}
use Rattle.affine.specs.Lists.{pick}
use Rattle.evaluation.proofs.AskingLaws.{room_refusal}
use Rattle.evaluation.specs.Table.{row_width, range_width, range_numbers, table_after, ranges_after}
use Rattle.evaluation.specs.Work.{row_count, stopped, worked, table_too_short, evaluated}
use Rattle.evaluation.specs.Ranges.{own_ranges, answered, answered_ranges}
use Rattle.evaluation.proofs.TableLaws.{nothing_after}

-- no row leaves both tables as they were
pub nothing_put : (table : List ℤ) → table_after [] table ≡ table
nothing_put table = nothing_after row_width numbers table

pub nothing_own : (c : Schedule) (ranges : List ℤ) → ranges_after (own_ranges c []) ranges ≡ ranges
unfolding own_ranges tabulate
nothing_own c ranges = nothing_after range_width range_numbers ranges

pub nothing_told : (c : Schedule) (ranges : List ℤ) → ranges_after (answered_ranges c []) ranges ≡ ranges
unfolding own_ranges tabulate answered
nothing_told c ranges = nothing_after range_width range_numbers ranges

-- a refusal where a table has no room
no_room : (r : Refused) (has : Bool) → refusal_of r ≡ pick has accepted table_too_short → (has ≡ false) × (refusal_of r ≡ table_too_short)
no_room r true e = absurd (number_some r.cause (ap (λ (q : Refusal). q.number) e))
no_room r false e = (refl, e)

module _ (c : Schedule) (table ranges : List ℤ) where
  pub ends_tested : ((test_of c).number ≡ 0 → ⊥) → evaluated c table ranges ≡ stopped [] (test_of c)
  unfolding evaluated
  ends_tested e = rw (ne_eqb _ 0 e)

  pub ends_short : (test_of c).number ≡ 0 → length table < row_width * row_count c → evaluated c table ranges ≡ stopped [] table_too_short
  unfolding evaluated
  ends_short e h = rw (eq-eqb _ 0 e, lt-leb _ _ h)

  pub ends_full : (test_of c).number ≡ 0 → (r : Refused) → refusal_of r ≡ room_refusal row_width table (row_count c) → evaluated c table ranges ≡ stopped [] (refusal_of r)
  ends_full e r h = let u = no_room r _ h in ends_short e (leb-false _ _ u.0) ∙ ap (stopped []) (sym u.1)

  module _ (e : (test_of c).number ≡ 0) (h : row_width * row_count c ≤ length table) where
    pub ends_short_ranges : length ranges < range_width * row_count c → evaluated c table ranges ≡ stopped [] table_too_short
    unfolding evaluated
    ends_short_ranges k = rw (eq-eqb _ 0 e, le-leb _ _ h, lt-leb _ _ k)

    pub ends_full_ranges : (r : Refused) → refusal_of r ≡ room_refusal range_width ranges (row_count c) → evaluated c table ranges ≡ stopped [] (refusal_of r)
    ends_full_ranges r k = let u = no_room r _ k in ends_short_ranges (leb-false _ _ u.0) ∙ ap (stopped []) (sym u.1)

    pub ends_worked : range_width * row_count c ≤ length ranges → evaluated c table ranges ≡ worked c (row_count c)
    unfolding evaluated
    ends_worked k = rw (eq-eqb _ 0 e, le-leb _ _ h, le-leb _ _ k)
