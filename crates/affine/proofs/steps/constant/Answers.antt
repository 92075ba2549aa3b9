-- `constant` meets its contract: a row with a centre alone has no coefficient.
use Rattle.std.proofs.Common.{arith}
use Rattle.affine.proofs.Fronts.{constant_none}
use Rattle.affine.proofs.steps.constant.Goals as goal

pub check-requires-clause-none : goal.check-requires-clause-none
check-requires-clause-none c = (omega arith, constant_none _ c.constant_row.result c.constant_row.ensures)
