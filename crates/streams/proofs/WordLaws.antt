-- A word and the bytes that were taken of it.
use Rattle.std.proofs.Common.{◌≡◌, refl, sym, ap, subst, ◌∙◌, ℕ, ◌≤◌, ◌<◌, List, length, take, Option, None, Some, arith, length-take, take_all}
use Rattle.std.specs.Prelude.{slice_get, MatchOption}
use Rattle.streams.specs.Words.{Taken, Gives}

-- fewer bytes than there is room for are all of the word
pub whole_word : (room : ℕ) (word taken : List ℕ) → take room word ≡ taken → length taken < room → word ≡ taken
whole_word room word taken e h =
    let few : length word ≤ room = omega (arith, ap length e, length-take room word) in
    sym (take_all room word few) ∙ e

some_word : (o : Option (List ℕ)) (room : List ℕ) (n : ℕ) → MatchOption o (Some n ≡ None) (λ word. (m : ℕ) × (Some n ≡ Some m) × Taken word room m)
    → (word : List ℕ) × (o ≡ Some word) × Taken word room n
some_word None room n e = absurd cc
some_word (Some word) room n (m, e, t) = let q : m ≡ n = cc in (word, refl, subst (Taken word room) q t)

no_word : (o : Option (List ℕ)) (room : List ℕ) → MatchOption o (◌≡◌ {A = Option ℕ} None None) (λ word. (m : ℕ) × (◌≡◌ {A = Option ℕ} None (Some m)) × Taken word room m) → o ≡ None
no_word None room e = refl
no_word (Some word) room (m, e, t) = absurd cc

module _ {known : Option (List (List ℕ))} {words : List (List ℕ)} (is : known ≡ Some words) (i : ℕ) (room : List ℕ) where
  pub given_word : (n : ℕ) → Gives known i room (Some n) → (word : List ℕ) × (slice_get words i ≡ Some word) × Taken word room n
  given_word n g = some_word (slice_get words i) room n (rw is at g)

  pub given_none : Gives known i room None → slice_get words i ≡ None
  given_none g = no_word (slice_get words i) room (rw is at g)
