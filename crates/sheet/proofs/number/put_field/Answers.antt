-- the byte behind the number
use Rattle.std.proofs.Common.{w64}
use mir.ValLaws.{to_z-of_z}
use Rattle.sheet.proofs.Written.{wrote_then}
use Rattle.sheet.proofs.number.put_field.Goals as goal

pub returns : goal.returns
returns c = wrote_then (rw (to_z-of_z w64 c.args.v c.ranges.v) at c.put_number-p.ensures.written) c.put_byte.ensures
