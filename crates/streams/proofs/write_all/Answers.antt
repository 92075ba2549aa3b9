use Rattle.std.proofs.Common.{◌≡◌, ℕ, ◌-◌, ◌≤◌, length, take, drop, arith, take_all, length-take, length-drop}
use Rattle.std.proofs.Math.Seq.{take-add}
use Rattle.std.proofs.KnownBytes.{Appends-trans}
use Rattle.streams.proofs.write_all.Goals as goal

pub loop-done-preserved : goal.loop-done-preserved
loop-done-preserved g c =
    let bytes = c.args.bytes.now in
    let some : c.in_ok-put.put ≤ length bytes - c.loop-done.done = omega (arith, c.in_ok-put.ensures.bound, length-take {A = ℕ}, length-drop {A = ℕ}) in
    let rest : take (length bytes - c.loop-done.done) (drop c.loop-done.done bytes) ≡ drop c.loop-done.done bytes = take_all _ _ (omega (arith, length-drop c.loop-done.done bytes)) in
    let took = rw rest at c.in_ok-put.ensures.bytes in
    record {
      in_bounds = omega arith;
      bytes = rw take-add (Appends-trans _ _ _ _ _ c.loop-done.invariant.bytes took);
    }
