-- `absolutes` meets its contract: one element more is no more than the whole, which does not wrap.
use Rattle.std.proofs.Common.{rules, arith, ◌≡◌, ◌+◌, to_z, of_z, w64}
use Rattle.integer.proofs.Sum.{sum_abs_more, sum_abs_take}
use Rattle.affine.specs.Lists.{at}
use Rattle.affine.proofs.sums.absolutes.Goals as goal

pub overflow_add-sum : goal.overflow_add-sum
overflow_add-sum c =
    let a = c.args.a.now in
    let i = c.loop-v.v-index in
    let read : to_z w64 (of_z w64 (at a i)) ≡ at a i = search rules in
    let e = (rw read at c.unsigned_abs-sum.ensures.value) in
    record { fits = omega (arith, c.loop-v.invariant, e, sum_abs_more a i c.loop-v-test.true, sum_abs_take (i + 1) a, c.requires) }
