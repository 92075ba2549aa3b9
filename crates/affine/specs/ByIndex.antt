-- What a function gives by an index: a number of a row, and what it leaves, of which the absolute values are summed.
use Rattle.std.specs.Prelude.{◌≡◌, ℕ, ◌≤◌, ◌<◌, List, ℤ, pos, nat_abs}
use Rattle.integer.specs.Sum.{sum_abs}
use Rattle.affine.specs.declared.by_index.Part.{Part}
use Rattle.affine.specs.PairOrder.{over_used}

pub record Parting : Type 0 where
  pub number : ℕ → ℤ
  pub remainder : ℕ → ℤ

-- what is given at an index
abbrev pub IsPart : Parting → ℕ → Part → Type 0
IsPart parting i p = (p.number ≡ parting.number i) × (p.rest ≡ nat_abs (parting.remainder i))

-- from the count on, of n indices, both are 0
abbrev pub NoneWithin : ℕ → ℕ → Parting → Type 0
NoneWithin count n parting = (i : ℕ) → count ≤ i → i < n → (parting.number i ≡ pos 0) × (parting.remainder i ≡ pos 0)

-- of the pairs in use among so many symbols the numbers are put, and what they leave is summed
abbrev pub ColumnsPut : Parting → ℕ → List ℤ → ℕ → Type 0
ColumnsPut parting squares numbers rests =
    (numbers ≡ over_used squares parting.number) × (rests ≡ sum_abs (over_used squares parting.remainder))
