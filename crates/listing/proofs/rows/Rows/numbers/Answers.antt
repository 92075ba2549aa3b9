-- The line's numbers, number by number from what the calls answer.
use mathlib.Core.Path.{sym, ap, ◌∙◌}
use mathlib.Core.List.{[], ◌∷◌}
use Prim.Native.Nat.{◌-◌}
use native.Mathlib.Omega.{arith}
use borrow.Author.Rules.{rules}
use lib.IntN.{pos}
use mir.Syntax.{w64}
use mir.Val.{SFits}
use mir.ValLaws.{to_z-of_z}
use Rattle.affine.specs.declared.Range.{Range}
use Rattle.evaluation.specs.Answers.{RangeAnswer}
use Rattle.listing.proofs.HeldRows.{row_held, row_range}
use Rattle.listing.proofs.FirstSame.{first_small}
use Rattle.listing.proofs.rows.Rows.numbers.Goals as goal

pub overflow_cast-result-2 : goal.overflow_cast-result-2
overflow_cast-result-2 c =
    let s = c.args.self.now in
    record { sfits = omega (arith, c.unwrap_or-same.ensures, c.first_same.ensures, first_small s.table.now s.count c.args.row (c.args.row - 1) 1) }

pub returns : goal.returns
returns c =
    let s = c.args.self.now in
    let held = row_held s.held c.requires in
    let told = row_range held s.ordered in
    let low : SFits w64 c.get_range-range.result.low = search rules in
    let high : SFits w64 c.get_range-range.result.high = search rules in
    let own : SFits w64 c.own.result = search rules in
    let row : SFits w64 (pos c.args.row) = search rules in
    let small : SFits w64 (pos c.unwrap_or-same.result) =
    record { sfits = omega (arith, c.unwrap_or-same.ensures, c.first_same.ensures, first_small s.table.now s.count c.args.row (c.args.row - 1) 1) } in
    let same = c.unwrap_or-same.ensures ∙ c.first_same.ensures in
    λ i. to_z-of_z w64 (pos c.args.row) row i
    ∷ (to_z-of_z w64 _ low ∙ ap (λ (a : Range). a.low) c.get_range-range.ensures ∙ sym (ap (λ (a : RangeAnswer). a.low) told)) i
    ∷ (to_z-of_z w64 _ high ∙ ap (λ (a : Range). a.high) c.get_range-range.ensures ∙ sym (ap (λ (a : RangeAnswer). a.high) told)) i
    ∷ (to_z-of_z w64 _ own ∙ c.own.ensures) i
    ∷ (to_z-of_z w64 _ small ∙ ap pos same) i
    ∷ []
