-- The lines of the first rows stand where they begin.
use mathlib.Core.Path.{◌≡◌}
use lib.ListN.{length}
use Rattle.sheet.specs.Text.{texts}
use Rattle.sheet.specs.Wrote.{Wrote}
use Rattle.listing.specs.Listing.{row_text}
use Rattle.listing.proofs.texts.put_rows.Given as goal

abbrev pub invariant-loop-i : goal.invariant-loop-i
invariant-loop-i l =
    let text = row_text l.rows.table.now l.rows.ranges.now l.rows.count in
    (length l.text ≡ length l.initial.text) × Wrote l.initial.text l.text l.at l.p (texts l.i 1 text)
