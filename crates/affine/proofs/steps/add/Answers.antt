-- `add` meets its contract: the span of the row is at most those of both operands together.
use Rattle.std.proofs.Common.{rules, refl, ◌+ℤ◌}
use Rattle.affine.proofs.Fronts.{zip_none}
use Rattle.affine.proofs.SpanSize.{span_as}
use Rattle.affine.proofs.Zipped.{sum_spans}
use Rattle.affine.proofs.steps.add.Goals as goal

pub check-requires : goal.check-requires
check-requires c =
    let zipped = c.zip_rows.ensures.zipped ◌+ℤ◌ (λ v w z p. search rules) in
    record {
      none = (c.requires.few, rw zipped (zip_none ◌+ℤ◌ refl c.args.own c.args.x c.args.y c.requires.none.0 c.requires.none.1));
      small = span_as zipped (sum_spans c.args.x c.args.y c.requires.within.0 c.requires.within.1);
    }
