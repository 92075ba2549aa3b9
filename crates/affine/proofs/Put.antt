-- A number put behind those that a loop has put: what holds of each of them holds of one more.
use mathlib.Core.List.{List}
use Prim.Native.Nat.{ℕ, ◌+◌, ◌<◌}
use native.Mathlib.Decide.{ℕ_discrete}
use native.Mathlib.Omega.{arith}
use lib.IntN.{ℤ, pos}
use lib.ListN.{length, set}
use lib.Seq.{get_or-set_same, get_or-set_other}
use Rattle.affine.specs.Lists.{at}

pub put_next : (P : ℕ → ℤ → Type 0) (xs : List ℤ) (i : ℕ) (v : ℤ) → i < length xs → ((k : ℕ) → k < i → P k (at xs k)) → P i v
    → (k : ℕ) → k < i + 1 → P k (at (set xs i v) k)
put_next P xs i v h before now k l =
    elim (ℕ_discrete k i) [
      | yes e ↦ rw (e, get_or-set_same xs i v (pos 0) h) now
      | no d ↦ rw (get_or-set_other xs i k v (pos 0) d) (before k (omega (arith, l, d)))
    ]
