use Rattle.evaluation.proofs.Examples.{examples_hold}
use Rattle.evaluation.proofs.claims.examples.Goals as goal

pub returns : goal.returns
returns c = examples_hold
