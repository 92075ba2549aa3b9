-- A row made of two, number by number, from what each of its numbers is; and its span.
use mathlib.Core.Path.{◌≡◌, sym, ◌∙◌}
use mathlib.Core.List.{List}
use Prim.Native.Nat.{ℕ, ◌≤◌, ◌<◌, ◌^◌}
use native.Mathlib.Omega.{arith}
use lib.IntN.{ℤ, ◌+ℤ◌, ◌-ℤ◌}
use lib.ListN.{length}
use Rattle.affine.specs.declared.Row.{Row}
use Rattle.affine.specs.Limits.{symbols, pairs, span_limit}
use Rattle.affine.specs.Lists.{at, tabulate}
use Rattle.affine.specs.Row.{span}
use Rattle.affine.specs.Steps.{zip_rows, add_rows, subtract_rows}
use Rattle.integer.proofs.Absolute.{nat_abs_add, nat_abs_sub}
use Rattle.affine.proofs.Lists.{tabulate_at, tabulate_cong}
use Rattle.affine.proofs.SpanSize.{span_zip}

zipped_list : (op : ℤ → ℤ → ℤ) (n : ℕ) (xs a b : List ℤ) → length xs ≡ n → ((i : ℕ) → i < n → at xs i ≡ op (at a i) (at b i))
    → xs ≡ tabulate n (λ i. op (at a i) (at b i))
zipped_list op n xs a b long each = sym (tabulate_at xs n long) ∙ tabulate_cong n each

module _ (op : ℤ → ℤ → ℤ) (x y r : Row) (centre : r.centre ≡ op x.centre y.centre)
    (long : length r.linear ≡ symbols) (linear : (i : ℕ) → i < symbols → at r.linear i ≡ op (at x.linear i) (at y.linear i))
    (pairs_long : length r.pair ≡ pairs) (pair : (k : ℕ) → k < pairs → at r.pair k ≡ op (at x.pair k) (at y.pair k)) where
  pub zipped : r ≡ zip_rows op x y
  zipped =
      λ i. record {
        centre = centre i;
        linear = zipped_list op symbols r.linear x.linear y.linear long linear i;
        pair = zipped_list op pairs r.pair x.pair y.pair pairs_long pair i;
      }

-- the span of a sum, and of a difference
pub sum_spans : (x y : Row) → span x ≤ span_limit → span y ≤ span_limit → span (add_rows x y) < 2 ^ 64
sum_spans x y hx hy = omega (arith, span_zip ◌+ℤ◌ nat_abs_add x y, hx, hy)

pub difference_spans : (x y : Row) → span x ≤ span_limit → span y ≤ span_limit → span (subtract_rows x y) < 2 ^ 64
difference_spans x y hx hy = omega (arith, span_zip ◌-ℤ◌ nat_abs_sub x y, hx, hy)
