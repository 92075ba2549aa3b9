-- Rows that have coefficients of the first symbols alone, so many: the sum of all their linear coefficients is that of these. A constant is such a row, sums and
-- differences of such rows are, and a row with its own coefficient has one symbol more.
use mathlib.Core.Path.{◌≡◌, refl, sym, ap, ap₂, ◌∙◌}
use mathlib.Core.List.{List, [], ◌∷◌}
use Prim.Native.Nat.{ℕ, zero, suc, ◌+◌, ◌≤◌}
use native.Mathlib.Omega.{arith}
use lib.IntN.{ℤ, pos, nat_abs}
use lib.ListN.{take}
use lib.Seq.{get_or-set_other}
use Rattle.integer.specs.Sum.{sum_abs}
use Rattle.affine.specs.declared.Row.{Row}
use Rattle.affine.specs.Limits.{symbols}
use Rattle.affine.specs.Lists.{at, tabulate}
use Rattle.affine.specs.Row.{NoneFrom}
use Rattle.affine.specs.Steps.{constant_row, with_own, zip_rows}
use Rattle.affine.proofs.Lists.{at_tabulate_zero}
use Rattle.affine.proofs.Support.{at_replicate}

pub front_sum : (n : ℕ) (l : List ℤ) → NoneFrom n l → sum_abs (take n l) ≡ sum_abs l
front_sum zero [] h = refl
front_sum zero (v ∷ l) h = ap₂ (λ a b. a + b) (ap nat_abs (sym (h 0 (omega arith)))) (front_sum zero l (λ i m. h (suc i) (omega arith)))
front_sum (suc n) [] h = refl
front_sum (suc n) (v ∷ l) h = ap (λ b. nat_abs v + b) (front_sum n l (λ i m. h (suc i) (omega arith)))

pub constant_none : (v : ℤ) (r : Row) → r ≡ constant_row v → (i : ℕ) → 0 ≤ i → at r.linear i ≡ pos 0
constant_none v r e i h = rw e (at_replicate symbols i)

pub none_behind_own : (own : ℕ) (v : ℤ) (r : Row) → NoneFrom own r.linear → NoneFrom (suc own) (with_own own v r).linear
none_behind_own own v r none i h = get_or-set_other r.linear own i v (pos 0) (λ e. omega arith) ∙ none i (omega arith)

pub tabulate_none : (own : ℕ) (f : ℕ → ℤ) → ((i : ℕ) → own ≤ i → f i ≡ pos 0) → NoneFrom own (tabulate symbols f)
tabulate_none own f none i h = at_tabulate_zero symbols f i (λ l. none i h)

pub zip_none : (op : ℤ → ℤ → ℤ) → op (pos 0) (pos 0) ≡ pos 0 → (own : ℕ) (x y : Row) → NoneFrom own x.linear → NoneFrom own y.linear
    → NoneFrom own (zip_rows op x y).linear
zip_none op zero_kept own x y hx hy = tabulate_none own _ (λ i h. ap₂ op (hx i h) (hy i h) ∙ zero_kept)
