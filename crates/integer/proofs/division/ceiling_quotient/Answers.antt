-- `ceiling_quotient` meets its contract: of natural numbers both ways to round up are one.
use Rattle.std.proofs.Common.{arith, ◌≡◌}
use Rattle.std.proofs.lemmas.Grind.{common_steps}
use Rattle.integer.specs.Floor as Spec
use Rattle.integer.proofs.Floor.{up_as}
use Rattle.integer.proofs.division.ceiling_quotient.Goals as goal

pub returns-clause-up : goal.returns-clause-up
returns-clause-up c = let is : c.div_ceil.result ≡ Spec.ceiling_quotient c.args.n c.args.d = grind (arith, common_steps) in up_as c.args.n c.args.d c.requires is
