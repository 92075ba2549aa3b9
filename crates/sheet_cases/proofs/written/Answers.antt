-- `written` is safe: a written sheet has room in the lent bytes.
use Rattle.std.proofs.Common.{◌≡◌, ℕ, ◌≤◌, Bool, true, false, eqb, ltb, length, refl, arith, length-take}
use borrow.Author.Tests.{ltb-false}
use Rattle.sheet.specs.Choice.{pick}
use Rattle.sheet.specs.Causes.{accepted, bytes_too_short}
use Rattle.sheet.specs.Writing.{test_of, sheet_text, not_written, write_of}
use Rattle.sheet.specs.declared.Schedule.{Schedule}
use Rattle.sheet.proofs.Results.{write_zero}
use Rattle.sheet_cases.proofs.written.Goals as goal

sheet_fits : (c : Schedule) (room : ℕ) → (write_of c room).length ≤ room
unfolding write_of
sheet_fits c room = by_tests (eqb (test_of c).number 0) (ltb room (length (sheet_text c))) refl
  where
    by_tests : (passes short : Bool) → ltb room (length (sheet_text c)) ≡ short
        → (pick passes (pick short (not_written bytes_too_short) (record { refusal = accepted; length = length (sheet_text c) })) (not_written (test_of c))).length ≤ room
    by_tests false short e = omega arith
    by_tests true true e = omega arith
    by_tests true false e = ltb-false room (length (sheet_text c)) e

pub slice_bounds-result-end : goal.slice_bounds-result-end
slice_bounds-result-end c =
    let n_is = (write_zero c.in_ok-n.n c.in_ok-n.ensures.written.answers).1 in
    let short = sheet_fits c.in_ok-schedule.schedule (length c.args.room.now) in
    omega (arith, c.write.auto.out, length-take {A = ℕ})
