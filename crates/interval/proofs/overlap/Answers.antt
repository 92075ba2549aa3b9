-- `overlap` meets its contract: the machine chooses between two ends as the definition does.
use mathlib.Core.Path.{◌≡◌, ◌∙◌}
use mir.Syntax.{w64}
use mir.Val.{to_z, of_z}
use borrow.Author.Rules.{rules}
use Rattle.integer.proofs.Machine.{back}
use Rattle.interval.proofs.Ends.{lesser_given, greater_given}
use Rattle.interval.proofs.overlap.Goals as goal

pub returns : goal.returns
returns c =
    let x = c.args.x in
    let y = c.args.y in
    let x_low : to_z w64 (of_z w64 x.low) ≡ x.low = search rules in
    let y_low : to_z w64 (of_z w64 y.low) ≡ y.low = search rules in
    let x_high : to_z w64 (of_z w64 x.high) ≡ x.high = search rules in
    let y_high : to_z w64 (of_z w64 y.high) ≡ y.high = search rules in
    λ i. record {
      low = (back c.max.type_inv ∙ greater_given c.max.ensures.value x_low y_low) i;
      high = (back c.min.type_inv ∙ lesser_given c.min.ensures.value x_high y_high) i;
    }
