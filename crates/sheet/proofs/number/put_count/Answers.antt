-- all digits of the count were written
use Rattle.std.proofs.Common.{arith}
use Rattle.sheet.specs.Text.{numeral}
use Rattle.sheet.proofs.Numeral.{count_there}
use Rattle.sheet.proofs.number.put_count.Goals as goal

pub returns-clause-whole : goal.returns-clause-whole
unfolding numeral
returns-clause-whole c = count_there c.args.n c.put_digits.ensures c.requires (omega (arith, c.ranges.n))
