-- A list that grows at its end, each element made from those before it: how long it is, and what it holds.
use mathlib.Core.Path.{◌≡◌, refl, sym, ap, ◌∙◌}
use mathlib.Core.Logic.{◌⊎◌, inl, inr}
use mathlib.Core.List.{List, [], ◌∷◌, ◌++◌}
use Prim.Native.Nat.{ℕ, zero, suc, ◌≤◌, ◌<◌}
use native.Mathlib.Nat.{eq-or-lt_of_le, le_of_suc-le-suc, not-suc-le-zero}
use native.Mathlib.Omega.{arith}
use lib.ListN.{length, get_or, length-append, get_or-append}
use lib.Seq.{get_or_at}

module _ {A : Type 0} (next : List A → A) where
  -- the first n elements
  unfoldable pub grown : ℕ → List A
  grown zero = []
  grown (suc n) = grown n ++ (next (grown n) ∷ [])

  pub grown_suc : (n : ℕ) → grown (suc n) ≡ grown n ++ (next (grown n) ∷ [])
  unfolding grown
  grown_suc n = refl

  pub length_grown : (n : ℕ) → length (grown n) ≡ n
  unfolding grown
  length_grown zero = refl
  length_grown (suc n) = length-append (grown n) _ ∙ omega (arith, length_grown n)

  pub get_or_grown : (n : ℕ) (d : A) (i : ℕ) → i < n → get_or (grown n) i d ≡ next (grown i)
  unfolding grown
  get_or_grown zero d i h = absurd (not-suc-le-zero h)
  get_or_grown (suc n) d i h = by_place (eq-or-lt_of_le (le_of_suc-le-suc h)) (get_or_grown n d i)
    where
      by_place : (i ≡ n) ⊎ (i < n) → (i < n → get_or (grown n) i d ≡ next (grown i)) → get_or (grown n ++ (next (grown n) ∷ [])) i d ≡ next (grown i)
      by_place (inl e) ih = get_or_at (grown n) (next (grown n)) [] d i (length_grown n ∙ sym e) ∙ ap (λ m. next (grown m)) (sym e)
      by_place (inr l) ih = get_or-append (grown n) _ d i (omega (arith, length_grown n)) ∙ ih l

  -- past the end
  pub get_or_beyond : (n : ℕ) (d : A) (i : ℕ) → n ≤ i → get_or (grown n) i d ≡ d
  get_or_beyond n d i h = beyond (grown n) i (omega (arith, length_grown n))
    where
      beyond : (xs : List A) (i : ℕ) → length xs ≤ i → get_or xs i d ≡ d
      beyond [] i h = refl
      beyond (x ∷ xs) zero h = absurd (not-suc-le-zero h)
      beyond (x ∷ xs) (suc i) h = beyond xs i (le_of_suc-le-suc h)

-- complete induction
pub complete : (P : ℕ → Type 0) → ((n : ℕ) → ((i : ℕ) → i < n → P i) → P n) → (n : ℕ) → P n
complete P step n = step n (below n)
  where
    below : (n i : ℕ) → i < n → P i
    below zero i h = absurd (not-suc-le-zero h)
    below (suc n) i h = step i (λ j l. below n j (omega arith))
