-- The listing of the tables that the evaluation left, or its refusal.
use mathlib.Core.Path.{◌≡◌, sym, ap, subst}
use mathlib.Core.List.{List}
use Prim.Native.Nat.{ℕ, ◌≤◌}
use native.Mathlib.Omega.{arith}
use lib.IntN.{ℤ}
use lib.ListN.{length, take}
use Rattle.affine.specs.declared.Row.{Row}
use Rattle.sheet.specs.Answers.{Refusal}
use Rattle.sheet.specs.Wrote.{Wrote}
use Rattle.sheet.specs.declared.Schedule.{Schedule}
use Rattle.sheet.proofs.Results.{ok_zero, err_some}
use Rattle.evaluation.specs.Demand3.{Guaranteed}
use Rattle.evaluation.specs.Table.{RangesOrdered}
use Rattle.evaluation.specs.Work.{row_count}
use Rattle.evaluation.specs.TablesHeld.{TablesHeld}
use Rattle.evaluation.proofs.RefusalRow.{evaluated_small}
use Rattle.listing.specs.Listing.{listing}
use Rattle.listing.specs.Held.{RowsHeld}
use Rattle.listing.specs.Listed.{text_room}
use Rattle.listing.proofs.TextFits.{listing_fits}
use Rattle.listing.proofs.Truthful.{Shown, shown, bytes_written, refusal_told}
use Rattle.listing.proofs.TextCases.{schedule_listed, schedule_refused}
use Rattle.listing.proofs.list_schedule.Goals as goal

-- the listing of the tables and the count at hand is that of those meant
listing_wrote : {before after : List ℕ} {end : ℕ} {t u r s : List ℤ} {m n : ℕ} → t ≡ u → r ≡ s → m ≡ n → Wrote before after 0 end (listing t r m)
    → Wrote before after 0 end (listing u s n)
listing_wrote e f g w = rw (e, f, g) at w

pub invariant_of-rows : goal.invariant_of-rows
invariant_of-rows c =
    let h = c.in-Ok.ensures.held in
    let held : RowsHeld c.evaluate.new.table (row_count c.args.schedule) = record { few = h.few; within = h.rows } in
    let ordered : RangesOrdered c.evaluate.new.ranges (row_count c.args.schedule) = h.ordered in
    record { held = rw c.row_count.ensures held; ordered = rw c.row_count.ensures ordered }

-- what is shown of the tables that an accepted evaluation left stands in the bytes, by what it holds and by its guarantee
shown_there : {c : Schedule} {rows : List Row} {table ranges : List ℤ} {before after : List ℕ} {end m : ℕ} → TablesHeld c table ranges → Guaranteed c rows table ranges
    → m ≡ row_count c → text_room ≤ length before → Wrote before after 0 end (listing table ranges m) → Shown c table ranges (take end after)
shown_there {c} {table = table} {ranges = ranges} {before = before} {after = after} {end = end} held guaranteed count room w =
    let v : Wrote before after 0 end (listing table ranges (row_count c)) = rw count at w in
    let is = bytes_written v (omega (arith, room, listing_fits table ranges (row_count c) held.few)) in
    subst (Shown c table ranges) (sym is) (shown held guaranteed)

pub returns-in-Ok : goal.returns-in-Ok
returns-in-Ok c =
    let a = c.args in
    let e = c.evaluate.ensures in
    let answer = c.in-Ok.ensures.answer in
    let went = ok_zero answer in
    let count = c.row_count.ensures in
    let s = shown_there c.in-Ok.ensures.held c.in-Ok.ensures.guaranteed count c.requires c.put_listing.ensures in
    record {
      wrote = rw (schedule_listed a.schedule a.table.now a.ranges.now went) (listing_wrote e.left e.told count c.put_listing.ensures);
      left = e.left;
      told = e.told;
      listing = (λ b. sym answer, λ z. s.is_listing);
      truthful = λ b. s.is_true;
      legible = record { listing = λ z. s.legible; refusal = λ z. absurd (z (sym answer)) };
    }

pub returns-in-Err : goal.returns-in-Err
returns-in-Err c =
    let a = c.args in
    let e = c.evaluate.ensures in
    let answer = c.in-Err.ensures.answer in
    let some = err_some c.in-Err.refused answer in
    let w = rw answer at (rw c.number.ensures at c.put_refusal.ensures) in
    let t = refusal_told _ w c.requires in
    record {
      wrote = rw (schedule_refused a.schedule a.table.now a.ranges.now some) w;
      left = e.left;
      told = e.told;
      listing = (λ b. absurd (t.no_listing b), λ z. absurd (some (ap (λ (r : Refusal). r.number) z)));
      truthful = λ b. absurd (t.no_listing b);
      legible = record {
        listing = λ z. absurd (some (ap (λ (r : Refusal). r.number) z));
        refusal = λ z. t.legible (evaluated_small a.schedule a.table.now a.ranges.now);
      };
    }
