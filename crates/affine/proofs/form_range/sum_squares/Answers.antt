-- The loop keeps what the pairs (i,i) passed go above 0, and the sum of their coefficients.
use mathlib.Core.Path.{◌≡◌, ap, ◌∙◌}
use mathlib.Core.Bool.{true}
use mathlib.Core.List.{List}
use Prim.Native.Nat.{ℕ, ◌+◌, ◌-◌, ◌^◌, ◌≤◌, ◌<◌}
use native.Mathlib.Omega.{arith}
use borrow.Author.Rules.{rules}
use lib.IntN.{ℤ, pos, negsuc, nat_abs, ◌+ℤ◌}
use lib.ListN.{length}
use mir.Syntax.{w64}
use mir.Val.{SFits}
use mir.ValLaws.{to_z-of_z}
use Rattle.integer.proofs.Absolute.{fits_within, nat_abs_add, nat_abs_of_fits}
use Rattle.integer.specs.Sum.{sum_abs}
use Rattle.integer.proofs.Sum.{sum_abs_element}
use Rattle.affine.specs.Limits.{paired, pairs, span_limit}
use Rattle.affine.specs.Lists.{at}
use Rattle.affine.specs.Row.{pair_above}
use Rattle.affine.specs.Measured.{square_reach}
use Rattle.affine.proofs.RangeSize.{Balanced, balanced_more, balanced_within, balanced_all, passed_within, passed_all}
use Rattle.affine.proofs.form_range.sum_squares.Goals as goal

-- a turn
turned : {p : List ℤ} {above k i m : ℕ} {sum : ℤ} → Balanced p above sum k (paired - i) → i < paired → m ≡ square_reach true (at p k)
    → Balanced p (above + m) (sum +ℤ at p k) (k + (paired - i)) (paired - (i + 1))
turned {p} {above} {k} {i} {m} {sum} b h e =
    let left : paired - i - 1 ≡ paired - (i + 1) = omega arith in
    rw left at (balanced_more (paired - i) b (omega arith) e)

-- so the sum after it fits
sum_small : {p : List ℤ} {above k left : ℕ} {sum : ℤ} → Balanced p above sum k left → (length p ≡ pairs) × (sum_abs p ≤ span_limit) → SFits w64 sum
sum_small {p} {above} {k} {left} {sum} b h = fits_within sum (span_limit + span_limit) (omega (arith, balanced_within b h.0, h.1)) (omega arith)

-- neither sum wraps, whatever number's part above 0 a turn adds
reach_at_most : (v : ℤ) → square_reach true v ≤ nat_abs v
unfolding pair_above
reach_at_most (pos n) = omega arith
reach_at_most (negsuc n) = omega arith

reach_small : {m : ℕ} {v : ℤ} → m ≡ square_reach true v → SFits w64 v → m ≤ 2 ^ 63
reach_small {m} {v} e f = omega (arith, e, reach_at_most v, nat_abs_of_fits v f)

pub overflow_add-above : goal.overflow_add-above
overflow_add-above c =
    omega (arith, reach_small c.square_above-above.ensures (search rules), passed_within c.loop-i.invariant.over c.requires.0, c.requires.1)

next_small : {p : List ℤ} {above k left : ℕ} {sum : ℤ} → Balanced p above sum k left → (length p ≡ pairs) × (sum_abs p ≤ span_limit) → SFits w64 (sum +ℤ at p k)
next_small {p} {above} {k} {left} {sum} b h =
    fits_within (sum +ℤ at p k) (span_limit + span_limit + span_limit)
    (omega (arith, nat_abs_add sum (at p k), balanced_within b h.0, sum_abs_element p k, h.1)) (omega arith)

pub overflow_add-sum : goal.overflow_add-sum
overflow_add-sum c =
    let v : SFits w64 (at c.args.p.now c.loop-i.k) = search rules in
    rw (to_z-of_z w64 _ v) (next_small c.loop-i.invariant c.requires)

pub loop-i-preserved : goal.loop-i-preserved
loop-i-preserved c =
    let v : SFits w64 (at c.args.p.now c.loop-i.k) = search rules in
    let b = turned c.loop-i.invariant c.loop-i-test.true (c.square_above-above.ensures ∙ ap (square_reach true) (to_z-of_z w64 _ v)) in
    rw (to_z-of_z w64 _ v, to_z-of_z w64 _ (sum_small b c.requires)) b

pub returns-clause-above : goal.returns-clause-above
returns-clause-above c = passed_all (paired - c.loop-i.i) c.loop-i.invariant.over (omega (arith, c.loop-i-test.false))

pub returns-clause-sum : goal.returns-clause-sum
returns-clause-sum c = balanced_all (paired - c.loop-i.i) c.loop-i.invariant (omega (arith, c.loop-i-test.false))
