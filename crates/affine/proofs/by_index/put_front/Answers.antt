-- `by_index::put_front` meets its contract: each turn puts one number into zeros, and adds what it leaves.
use Rattle.std.proofs.Common.{◌≡◌, ◌+◌, ◌∙◌, ◌<◌, sym, rules, arith, ap, to_z, of_z, w64}
use Rattle.integer.specs.Sum.{sum_abs}
use Rattle.affine.proofs.PutSoFar.{front_none, front_more, front_sum_more, front_all, front_sum_none, front_sum_within}
use Rattle.affine.proofs.by_index.put_front.Goals as goal

pub loop-i-init : goal.loop-i-init
loop-i-init g c = record { put = c.requires.1.1.1.1.0 ∙ front_none g.row.N g.parting.number; summed = sym (front_sum_none g.row.N g.parting.remainder) }

pub overflow_add-rests : goal.overflow_add-rests
overflow_add-rests g c =
    let (few, (zeros, (callable, (given, (none, small))))) = c.requires.1.1.1 in
    let n = g.row.N in
    let r = g.parting.remainder in
    let i = c.loop-i.i in
    let part = given i c.f-part.result c.loop-i-test.true c.f-part.ensures in
    let inside : i < n = omega (arith, c.loop-i-test.true, few) in
    record { fits = omega (arith, c.loop-i.invariant.summed, part.1, front_sum_more n r i inside, front_sum_within n r (i + 1), small) }

pub loop-i-preserved : goal.loop-i-preserved
loop-i-preserved g c =
    let (few, (zeros, (callable, (given, (none, small))))) = c.requires.1.1.1 in
    let n = g.row.N in
    let i = c.loop-i.i in
    let part = given i c.f-part.result c.loop-i-test.true c.f-part.ensures in
    let inside : i < n = omega (arith, c.loop-i-test.true, few) in
    let fits : to_z w64 (of_z w64 c.f-part.result.number) ≡ c.f-part.result.number = search rules in
    record {
      put = rw (fits, part.0, c.loop-i.invariant.put) (front_more n g.parting.number i inside);
      summed = omega (arith, c.loop-i.invariant.summed, part.1, front_sum_more n g.parting.remainder i inside);
    }

pub returns-clause-numbers : goal.returns-clause-numbers
returns-clause-numbers g c =
    let (few, (zeros, (callable, (given, (none, small))))) = c.requires.1.1.1 in
    c.loop-i.invariant.put ∙ front_all g.row.N g.parting.number c.loop-i.i (λ k h l. (none k (omega (arith, h, c.loop-i-test.false)) l).0)

pub returns-clause-rests : goal.returns-clause-rests
returns-clause-rests g c =
    let (few, (zeros, (callable, (given, (none, small))))) = c.requires.1.1.1 in
    c.loop-i.invariant.summed
    ∙ ap sum_abs (front_all g.row.N g.parting.remainder c.loop-i.i (λ k h l. (none k (omega (arith, h, c.loop-i-test.false)) l).1))
