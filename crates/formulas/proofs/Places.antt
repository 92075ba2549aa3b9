-- Where the parts of a text end.
use mathlib.Core.Path.{◌≡◌}
use mathlib.Core.List.{List, [], ◌∷◌, ◌++◌}
use Prim.Native.Nat.{ℕ, suc, ◌+◌}
use native.Mathlib.Omega.{arith}
use lib.ListN.{length, length-append}

module _ (place : ℕ) (s : List ℕ) where
  pub end_joined : (b : ℕ) (s' : List ℕ) → place + length (s ++ (b ∷ s')) ≡ suc (place + length s) + length s'
  end_joined b s' = omega (arith, length-append s (b ∷ s'))

  pub end_brackets : place + length (40 ∷ (s ++ (41 ∷ []))) ≡ suc (suc place + length s)
  end_brackets = omega (arith, length-append s (41 ∷ []))
