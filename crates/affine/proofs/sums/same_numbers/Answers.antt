-- `same_numbers` meets its contract: `all` tests the numbers of both lists in turn.
use Rattle.std.proofs.Common.{rules, tests, ◌∙◌}
use Rattle.std.specs.Ordering.{int_eq}
use Rattle.std.proofs.lemmas.Iterator.{YieldsList-from_slice, YieldsList-from_zip}
use Rattle.std.proofs.lemmas.Iterator.Consumers.{YieldsList-at}
use Rattle.std.proofs.lemmas.Iterator.Search.{all_from_yields_List}
use Rattle.affine.proofs.Comparison.{all_agree}
use Rattle.affine.proofs.sums.same_numbers.Goals as goal

pub returns : goal.returns
returns c =
    all_from_yields_List (λ p. int_eq p.0 p.1) c.all.new.self _ _ c.all.ensures.ran
    (YieldsList-from_zip (YieldsList-at c.zip.ensures.first (YieldsList-from_slice c.args.a.now cc)) (YieldsList-from_slice c.args.b.now c.zip.ensures.second.0))
    (λ x b q k. search (rules, tests))
    ∙ all_agree c.args.a.now c.args.b.now c.requires
