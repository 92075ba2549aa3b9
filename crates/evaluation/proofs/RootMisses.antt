-- B of a root leaves out no number of a sheet's row: the row uses only pairs in use.
use mathlib.Core.Path.{◌≡◌, sym, ap, ◌∙◌, subst}
use lib.IntN.{pos}
use Rattle.affine.specs.Steps.{constant_row, zip_rows}
use Rattle.affine.specs.Product.{totals}
use Rattle.affine.specs.Root.{missed, misses}
use Rattle.affine.proofs.SquareError.{misses_of_totals}
use Rattle.sheet.specs.Lines.{natural}
use Rattle.evaluation.specs.Ranges.{row_of}
use Rattle.evaluation.specs.Work.{worked}
use Rattle.evaluation.specs.Roots.{MissesEveryNumber}
use Rattle.evaluation.proofs.Sequence.{get_or_grown}
use Rattle.evaluation.proofs.WorkLaws.{next_row, rows_up_to, went}
use Rattle.evaluation.proofs.EveryRow.{uses_only}

pub misses_every_number : MissesEveryNumber
misses_every_number c n r i h z =
    let squares = natural c.squares in
    let e : row_of (worked c n).rows i ≡ next_row c (rows_up_to c i) = ap (λ rows. row_of rows i) (went c n r).rows ∙ get_or_grown (next_row c) n (constant_row (pos 0)) i h in
    subst (λ x. misses squares x z ≡ zip_rows missed x (totals squares z z)) (sym e) (misses_of_totals squares (next_row c (rows_up_to c i)) z (uses_only c i))
