-- Two lists of whole numbers joined number by number, by a sum or a difference: how large all absolute values together are.
use mathlib.Core.List.{List}
use Prim.Native.Nat.{ℕ, ◌+◌, ◌≤◌}
use native.Mathlib.Omega.{arith}
use lib.IntN.{ℤ, nat_abs}
use Rattle.integer.specs.Sum.{sum_abs}
use Rattle.affine.specs.Lists.{at, tabulate}
use Rattle.affine.proofs.SumLaws.{sum_abs_tabulate_at, sum_abs_tabulate_within}

-- an operation that keeps the triangle inequality
module _ (op : ℤ → ℤ → ℤ) (triangle : (x y : ℤ) → nat_abs (op x y) ≤ nat_abs x + nat_abs y) where
  abbrev pub joined : ℕ → List ℤ → List ℤ → List ℤ
  joined n a b = tabulate n (λ i. op (at a i) (at b i))

  pub joined_within : (n : ℕ) (a b : List ℤ) → sum_abs (joined n a b) ≤ sum_abs a + sum_abs b
  joined_within n a b =
      omega (
        arith,
        sum_abs_tabulate_within n (λ i. op (at a i) (at b i)) (at a) (at b) 1 1 (λ i. omega (arith, triangle (at a i) (at b i))),
        sum_abs_tabulate_at n a,
        sum_abs_tabulate_at n b,
      )
