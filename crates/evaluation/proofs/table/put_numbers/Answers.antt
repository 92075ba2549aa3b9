-- one number more
use mathlib.Core.Path.{◌∙◌, ap}
use lib.IntN.{pos}
use lib.ListN.{set}
use native.Mathlib.Omega.{arith}
use Prim.Native.Nat.{◌+◌}
use Rattle.std.proofs.lemmas.List.Edits.{paste_more}
use borrow.Author.Rules.{rules}
use mir.Syntax.{w64}
use mir.Val.{SFits}
use mir.ValLaws.{to_z-of_z}
use lib.ListN.{get_or}
use Rattle.evaluation.proofs.table.put_numbers.Goals as goal

pub loop-i-preserved : goal.loop-i-preserved
loop-i-preserved c =
    let l = c.loop-i in
    let a = c.args in
    let fits : SFits w64 (get_or a.src.now l.i (pos 0)) = search rules in
    rw (to_z-of_z w64 _ fits)
    (ap (λ d. set d (a.at + l.i) (get_or a.src.now l.i (pos 0))) l.invariant ∙ paste_more a.dst.now a.at a.src.now l.i (pos 0) (omega (arith, c.requires, c.loop-i-test.true)) c.loop-i-test.true)
