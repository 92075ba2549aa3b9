-- The rows are there to be compared, and the first that is found is the one that the definition finds.
use mathlib.Core.Bool.{true, false}
use borrow.Author.Rules.{rules}
use Rattle.std.proofs.lemmas.Iterator.{first_from_Range}
use Rattle.listing.proofs.HeldRows.{row_held}
use Rattle.listing.proofs.FirstSame.{Alike, first_found}
use Rattle.listing.proofs.rows.Rows.first_same.Goals as goal

pub returns : goal.returns
returns c =
    let s = c.args.self.now in
    let held = row_held s.held c.requires in
    first_found held c.find.result
    (first_from_Range _ _ _ c.find.result (λ x. Alike held x true) (λ x. Alike held x false) c.find.ensures.ran (λ x q b. search rules) (λ x q b. search rules))
