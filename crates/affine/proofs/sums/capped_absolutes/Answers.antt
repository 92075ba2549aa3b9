-- `capped_absolutes` meets its contract: the fold stops the sum after each number.
use Rattle.std.proofs.Common.{rules, of_calls, ◌∙◌, ◌+◌, ◌≤◌, suc, nat_abs}
use Rattle.std.proofs.lemmas.Iterator.{YieldsList-from_slice}
use Rattle.std.proofs.lemmas.Iterator.Consumers.{YieldsList-at, YieldsList-from_copied, fold_from_yields_List}
use Rattle.std.proofs.lemmas.Fn.{serves_by}
use Rattle.affine.specs.Limits.{span_limit}
use Rattle.affine.specs.Capped.{capped}
use Rattle.affine.proofs.CappedLaws.{capped_le, capped_fold}
use Rattle.affine.proofs.sums.capped_absolutes.Goals as goal

pub fold-requires-clause-callable : goal.fold-requires-clause-callable
fold-requires-clause-callable c =
    serves_by _ (λ xs q. q.1 ≤ suc span_limit) (λ xs q x v j r. search (rules, capped_le)) _ _ _ _ c.requires (λ xs t q x u y s j. search of_calls)

pub returns : goal.returns
returns c =
    fold_from_yields_List _ (λ n z. capped (n + nat_abs z)) _ _ c.fold.ensures.ran
    (YieldsList-from_copied (YieldsList-at c.copied.ensures.source (YieldsList-from_slice c.args.a.now cc))) (λ a x b q k. search rules)
    ∙ capped_fold c.args.start c.args.a.now c.requires
