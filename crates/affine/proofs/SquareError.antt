-- B of a root, the bound of 4096 times operand less candidate times candidate: the sum of its four parts, its size, and that it leaves out no number of
-- a row that uses only pairs in use.
use mathlib.Core.Path.{◌≡◌, refl, sym, ap, ap₂, ◌∙◌}
use mathlib.Core.Bool.{Bool, true, false}
use Prim.Native.Nat.{ℕ, ◌+◌, ◌-◌, ◌*◌, ◌^◌, ◌≤◌, ◌<◌}
use native.Mathlib.Omega.{arith}
use lib.IntN.{ℤ, pos, nat_abs, ◌*ℤ◌}
use Rattle.integer.specs.Sum.{sum_abs}
use Rattle.integer.proofs.Absolute.{nat_abs_mul, nat_abs_sub}
use lib.ListN.{take}
use Rattle.affine.specs.declared.Row.{Row}
use Rattle.affine.specs.Limits.{symbols, pairs, unit, span_limit}
use Rattle.affine.specs.Lists.{pick, at, tabulate}
use Rattle.affine.specs.PairOrder.{in_use, over_used}
use Rattle.affine.specs.Row.{span, radius, NoneFrom}
use Rattle.affine.specs.Steps.{zip_rows}
use Rattle.affine.specs.Product.{linear_total, linear_totals, pair_total, pair_totals, totals, dropped}
use Rattle.affine.specs.Root.{missed, linear_miss, linear_misses, pair_miss, pair_misses, misses, square_error}
use Rattle.affine.proofs.Lists.{tabulate_cong, at_tabulate}
use Rattle.affine.proofs.Form.{UsesOnly}
use Rattle.affine.proofs.RowSize.{span_is_sum}
use Rattle.affine.proofs.SumLaws.{sum_abs_tabulate_at, sum_abs_tabulate_within}
use Rattle.affine.proofs.Magnitude.{totals_within}
use Rattle.affine.proofs.Totals.{linear_total_none, dropped_of_radii}

-- ---- what one total misses: at most 4096 times the operand's number and the total
pub missed_within : (v t : ℤ) → nat_abs (missed v t) ≤ unit * nat_abs v + nat_abs t
missed_within v t = omega (arith, nat_abs_sub (pos unit *ℤ v) t, nat_abs_mul (pos unit) v)

-- or nothing, where the pair is not in use
used_missed_within : (used : Bool) (v t : ℤ) → nat_abs (pick used (missed v t) (pos 0)) ≤ unit * nat_abs v + 1 * nat_abs (pick used t (pos 0))
used_missed_within true v t = omega (arith, missed_within v t)
used_missed_within false v t = omega arith

-- of a symbol of which neither row has a coefficient
pub linear_miss_none : (x z : Row) (own : ℕ) → NoneFrom own x.linear → NoneFrom own z.linear → (i : ℕ) → own ≤ i → linear_miss x z i ≡ pos 0
linear_miss_none x z own hx hz i l = ap₂ missed (hx i l) (linear_total_none z z own hz hz i l)

-- ---- what all totals miss: from the sums of the operand's numbers and the totals
linear_misses_within : (x z : Row) → sum_abs (linear_misses x z) ≤ unit * sum_abs x.linear + sum_abs (linear_totals z z)
unfolding linear_misses linear_totals
linear_misses_within x z =
    omega (
      arith,
      sum_abs_tabulate_within symbols (linear_miss x z) (at x.linear) (linear_total z z) unit 1
          (λ i. used_missed_within true (at x.linear i) (linear_total z z i)),
      sum_abs_tabulate_at symbols x.linear,
    )

module _ (squares : ℕ) (x z : Row) where
  pair_misses_within : sum_abs (pair_misses squares x z) ≤ unit * sum_abs x.pair + sum_abs (pair_totals squares z z)
  unfolding pair_misses pair_totals
  pair_misses_within =
      omega (
        arith,
        sum_abs_tabulate_within pairs (λ k. pick (in_use squares k) (pair_miss x z k) (pos 0)) (at x.pair)
            (λ k. pick (in_use squares k) (pair_total z z k) (pos 0)) unit 1
            (λ k. used_missed_within (in_use squares k) (at x.pair k) (pair_total z z k)),
        sum_abs_tabulate_at pairs x.pair,
      )

  -- ---- the bound
  pub square_error_is_sum : nat_abs (missed x.centre (z.centre *ℤ z.centre)) + sum_abs (linear_misses x z) + sum_abs (pair_misses squares x z) + dropped squares z z
      ≡ square_error squares x z
  unfolding square_error
  square_error_is_sum = omega (arith, span_is_sum (misses squares x z))

pub square_error_within : (squares : ℕ) (x z : Row) {n : ℕ} → span x ≤ n → span z ≤ n → square_error squares x z ≤ n * n + unit * n
square_error_within squares x z hx hz =
    omega (
      arith,
      square_error_is_sum squares x z,
      missed_within x.centre (z.centre *ℤ z.centre),
      linear_misses_within x z,
      pair_misses_within squares x z,
      span_is_sum x,
      totals_within squares z z hz hz,
    )

-- ---- no number is left out: a pair that is not in use has no coefficient, and misses nothing
module _ (squares : ℕ) (x z : Row) (ux : UsesOnly squares x) where
  pub pair_missed : pair_misses squares x z ≡ tabulate pairs (λ k. missed (at x.pair k) (pick (in_use squares k) (pair_total z z k) (pos 0)))
  unfolding pair_misses
  pair_missed = tabulate_cong pairs (λ k h. by_use k (in_use squares k) (λ e. ux.unused k h e))
    where
      by_use : (k : ℕ) (t : Bool) → (t ≡ false → at x.pair k ≡ pos 0)
          → pick t (pair_miss x z k) (pos 0) ≡ missed (at x.pair k) (pick t (pair_total z z k) (pos 0))
      by_use k true u = refl
      by_use k false u = rw (u refl) refl

  linear_missed : linear_misses x z ≡ tabulate symbols (λ i. missed (at x.linear i) (at (linear_totals z z) i))
  unfolding linear_misses linear_totals
  linear_missed = tabulate_cong symbols (λ i h. ap (missed (at x.linear i)) (sym (at_tabulate symbols (linear_total z z) i h)))

  pair_missed_of_totals : pair_misses squares x z ≡ tabulate pairs (λ k. missed (at x.pair k) (at (pair_totals squares z z) k))
  unfolding pair_totals
  pair_missed_of_totals =
      pair_missed
      ∙ tabulate_cong pairs (λ k h. ap (missed (at x.pair k)) (sym (at_tabulate pairs (λ k. pick (in_use squares k) (pair_total z z k) (pos 0)) k h)))

  pub misses_of_totals : misses squares x z ≡ zip_rows missed x (totals squares z z)
  misses_of_totals = λ i. record { centre = missed x.centre (z.centre *ℤ z.centre); linear = linear_missed i; pair = pair_missed_of_totals i }

-- ---- the bound as code comes to it: c, l and p are what the totals miss in absolute values, d is the dropped part
module _ (x z : Row) (hx : span x ≤ span_limit) (hz : span z ≤ span_limit) where
  pub linear_small : sum_abs (tabulate symbols (linear_miss x z)) < 2 ^ 64
  unfolding linear_misses square_error
  linear_small = let h = square_error_within 0 x z hx hz in omega (arith, square_error_is_sum 0 x z)

  pub pair_small : (squares : ℕ) → sum_abs (over_used squares (pair_miss x z)) < 2 ^ 64
  unfolding pair_misses square_error
  pair_small squares = let h = square_error_within squares x z hx hz in omega (arith, square_error_is_sum squares x z)

  pub error_is : (squares : ℕ) {n c l p d : ℕ} → n ≡ radius z → c ≡ nat_abs (missed x.centre (z.centre *ℤ z.centre))
      → l ≡ sum_abs (tabulate symbols (linear_miss x z)) → p ≡ sum_abs (over_used squares (pair_miss x z))
      → d ≡ n * n - sum_abs (take squares z.linear) * sum_abs (take squares z.linear)
      → c + l + p + d ≡ square_error squares x z
  unfolding linear_misses pair_misses
  error_is squares nz ec el ep ed =
      ap₂ ◌+◌ (ap₂ ◌+◌ (ap₂ ◌+◌ ec el) ep) (ed ∙ dropped_of_radii squares z z nz nz) ∙ square_error_is_sum squares x z

  pub error_small : (squares : ℕ) {n : ℕ} → n ≡ square_error squares x z → n ≤ span_limit * span_limit + unit * span_limit
  error_small squares e = rw e (square_error_within squares x z hx hz)
