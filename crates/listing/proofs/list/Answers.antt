-- Too few bytes, a sheet refused in reading, or the schedule that was read.
use mathlib.Core.Path.{sym, ap, ◌∙◌}
use lib.Dec.{leb}
use lib.ListN.{length}
use borrow.Author.Tests.{leb-true, leb-false}
use Rattle.std.proofs.lemmas.Result.{err_from_is_err_and}
use Rattle.sheet.specs.Answers.{Refusal, ReadAnswer}
use Rattle.sheet.specs.declared.causes.Cause.TheVariants.{RoomTooShort}
use Rattle.sheet.proofs.RefusalSize.{read_small}
use Rattle.sheet.proofs.Results.{ensured, not_ensured, read_zero, read_some}
use Rattle.listing.specs.Listed.{text_room}
use Rattle.listing.proofs.AnyTable.{any_table}
use Rattle.listing.proofs.BeginningTells.{beginning_tells}
use Rattle.listing.proofs.TextCases.{sheet_read, sheet_refused, listed_short, listed_written, fits_told, text_told}
use Rattle.listing.proofs.Truthful.{refusal_told}
use Rattle.listing.proofs.list.Goals as goal

pub returns-in_err-ensure-clause-listed : goal.returns-in_err-ensure-clause-listed
returns-in_err-ensure-clause-listed c =
    let a = c.args in
    let p = err_from_is_err_and c.from_residual.result c.from_residual.ensures.1 in
    let short = not_ensured (leb text_room (length a.text.now)) c.in_err-ensure.field-0.0 RoomTooShort 0 c.in_err-ensure.ensures in
    rw (p.1, p.2, short.1) (listed_short a.sheet.now a.table.now a.ranges.now a.text.now (leb-false _ _ short.0))

pub returns-in_err-ensure-clause-beginning : goal.returns-in_err-ensure-clause-beginning
returns-in_err-ensure-clause-beginning c = λ input b. beginning_tells b (returns-in_err-ensure-clause-listed c)

pub returns-in-Ok : goal.returns-in-Ok
returns-in-Ok c =
    let a = c.args in
    let room = leb-true _ _ (ensured (leb text_room (length a.text.now)) RoomTooShort 0 c.in_ok-ensure.ensures) in
    let z = read_zero c.in-Ok.schedule c.in-Ok.ensures.answer in
    let e = sym z.1 in
    let p = c.list_schedule.ensures in
    let q = sheet_read a.sheet.now a.table.now a.ranges.now (ap (λ r. r.number) z.0) in
    let listed =
    listed_written a.sheet.now a.table.now a.ranges.now a.text.now room
    (record { text_is = q.text_is; table_is = q.table_is ∙ sym (rw e at p.left); ranges_are = q.ranges_are ∙ sym (rw e at p.told) })
    (rw e at p.wrote) in
    record {
      listed = listed;
      fits = fits_told room listed;
      beginning = λ input b. beginning_tells b listed;
      any_table = λ long long_ranges. text_told room listed ∙ any_table a.sheet.now a.table.now a.ranges.now long long_ranges;
      listing = (
        λ l. record { in_reading = z.0; in_evaluation = rw e at (p.listing.0 l) },
        λ y. p.listing.1 (rw z.1 at y.in_evaluation),
      );
      truthful = record { read = λ l. z.0; is_true = λ l. rw e at (p.truthful l) };
      legible = record { refusal = λ n. absurd (n z.0); schedule = λ n. rw e at p.legible };
    }

pub returns-in-Err : goal.returns-in-Err
returns-in-Err c =
    let a = c.args in
    let room = leb-true _ _ (ensured (leb text_room (length a.text.now)) RoomTooShort 0 c.in_ok-ensure.ensures) in
    let e = c.in-Err.ensures.answer in
    let some = read_some c.in-Err.refused e in
    let w = rw (ap (λ (r : ReadAnswer). r.refusal) e) at (rw c.number.ensures at c.put_refusal.ensures) in
    let t = refusal_told _ w room in
    let listed = listed_written a.sheet.now a.table.now a.ranges.now a.text.now room (sheet_refused a.sheet.now a.table.now a.ranges.now some) w in
    record {
      listed = listed;
      fits = fits_told room listed;
      beginning = λ input b. beginning_tells b listed;
      any_table = λ long long_ranges. text_told room listed ∙ any_table a.sheet.now a.table.now a.ranges.now long long_ranges;
      listing = (λ l. absurd (t.no_listing l), λ y. absurd (some (ap (λ (r : Refusal). r.number) y.in_reading)));
      truthful = record { read = λ l. absurd (t.no_listing l); is_true = λ l. absurd (t.no_listing l) };
      legible = record { refusal = λ n. t.legible (read_small a.sheet.now); schedule = λ n. absurd (some (ap (λ (r : Refusal). r.number) n)) };
    }
