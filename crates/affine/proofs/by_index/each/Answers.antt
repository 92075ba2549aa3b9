-- `by_index::each` meets its contract: each turn puts one number.
use Rattle.std.proofs.Common.{◌∙◌, arith}
use Rattle.std.proofs.lemmas.List.{length-replicate, length-set}
use Rattle.integer.proofs.Machine.{back}
use Rattle.affine.proofs.Put.{put_next}
use Rattle.affine.proofs.by_index.each.Goals as goal

pub loop-i-init : goal.loop-i-init
loop-i-init g c = record { long = length-replicate g.row.N _; given = λ k h. absurd (omega arith) }

pub loop-i-preserved : goal.loop-i-preserved
loop-i-preserved g c =
    let i = c.loop-i.invariant in
    record {
      long = length-set c.loop-i.out c.loop-i.i _ ∙ i.long;
      given = rw (back c.f.type_inv) (put_next (λ k v. goal.F-post g c.args.f k v) c.loop-i.out c.loop-i.i c.f.result
          (omega (arith, i.long, c.loop-i-test.true)) i.given c.f.ensures);
    }
