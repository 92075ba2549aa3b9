-- `root` meets its contract: the root of 4096 times an end within the span limit is within it.
use mathlib.Core.Path.{◌≡◌, ap, ◌∙◌}
use Prim.Native.Nat.{◌≤◌}
use native.Mathlib.Omega.{arith}
use lib.IntN.{ℤ, pos, nat_abs}
use lib.Signed.{◌≤ℤ◌}
use mir.Syntax.{w64}
use mir.Val.{SFits, to_z, of_z}
use mir.ValLaws.{to_z-of_z}
use borrow.Author.Rules.{rules}
use Rattle.integer.proofs.Absolute.{fits_within}
use Rattle.affine.specs.Limits.{span_limit}
use Rattle.affine.specs.Root.{unit_root}
use Rattle.affine.proofs.RootCandidate.{unit_root_limit}
use Rattle.interval.proofs.root.Goals as goal

-- the root of any end that passes
root_fits : (z : ℤ) → (pos 1 ≤ℤ z) × (nat_abs z ≤ span_limit) → SFits w64 (pos (unit_root (to_z w64 (of_z w64 z))))
root_fits z h = rw (to_z-of_z w64 z (fits_within z span_limit h.1 (omega arith))) (fits_within _ span_limit (unit_root_limit h.0 h.1) (omega arith))

-- either end passes: which one a root is taken of does not matter for its size
pub overflow_cast-low : goal.overflow_cast-low
overflow_cast-low c =
    let x = c.args.x in
    let r = c.requires in
    rw c.unit_root-low.ensures (search (root_fits x.low (r.0, r.2.low_in), root_fits x.high (r.1, r.2.high_in)))

pub overflow_cast-high : goal.overflow_cast-high
overflow_cast-high c =
    let x = c.args.x in
    let r = c.requires in
    rw c.unit_root-high.ensures (search (root_fits x.low (r.0, r.2.low_in), root_fits x.high (r.1, r.2.high_in)))

pub returns : goal.returns
returns c =
    let x = c.args.x in
    let r = c.requires in
    let low : to_z w64 (of_z w64 x.low) ≡ x.low = search rules in
    let high : to_z w64 (of_z w64 x.high) ≡ x.high = search rules in
    λ i. record {
      low =
          (ap (λ k. to_z w64 k) (c.unit_root-low.ensures ∙ ap unit_root low)
          ∙ to_z-of_z w64 (pos (unit_root x.low)) (fits_within _ span_limit (unit_root_limit r.0 r.2.low_in) (omega arith))) i;
      high =
          (ap (λ k. to_z w64 k) (c.unit_root-high.ensures ∙ ap unit_root high)
          ∙ to_z-of_z w64 (pos (unit_root x.high)) (fits_within _ span_limit (unit_root_limit r.1 r.2.high_in) (omega arith))) i;
    }
