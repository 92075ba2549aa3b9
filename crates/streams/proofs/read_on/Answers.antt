use Rattle.std.proofs.Common.{◌≡◌, ℕ, ◌+◌, ◌-◌, ◌≤◌, List, ◌++◌, length, take, sym, ap, subst, ◌∙◌, arith, length-take, length-take-le, length-drop}
use Rattle.std.proofs.Math.Seq.{take-append-add, take-append-le}
use borrow.Rule.Slice.PartMut.{post_of, put_mid, same_len_mid}
use Rattle.std.proofs.KnownBytes.{Consumes-trans}
use Rattle.std.specs.Io.KnownBytes.{Consumes}
use Rattle.streams.proofs.read_on.Goals as goal

-- what a read put behind the bytes before it
filled : (at n k : ℕ) (xs part : List ℕ) → at ≤ length xs → n ≤ length part → take (at + n) (put_mid at k xs part) ≡ take at xs ++ take n part
filled at n k xs part p q = ap (λ m. take (m + n) (put_mid at k xs part)) (sym (length-take-le at xs p)) ∙ take-append-add (take at xs) (part ++ post_of at k xs) n
    ∙ ap (λ l. take at xs ++ l) (take-append-le n part (post_of at k xs) q)

pub loop-done-preserved : goal.loop-done-preserved
loop-done-preserved g c =
    let part = c.read_some.ensures.buf_len_unchanged in
    let some : c.in-Ok.more ≤ length c.loop-done.buf - c.loop-done.done = omega (arith, c.in-Ok.ensures.bound.0, length-take {A = ℕ}, length-drop {A = ℕ}) in
    let whole = same_len_mid _ _ _ _ part in
    record {
      in_bounds = omega arith;
      len = whole ∙ c.loop-done.invariant.len;
      bytes = subst (Consumes _ _) (sym (filled _ _ _ c.loop-done.buf c.read_some.new.buf c.loop-done.invariant.in_bounds c.in-Ok.ensures.bound.0))
          (Consumes-trans _ _ _ _ _ c.loop-done.invariant.bytes c.in-Ok.ensures.bytes.0);
    }
