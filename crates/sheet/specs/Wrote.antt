-- What a function that writes into lent bytes leaves there.
use Rattle.std.specs.Prelude.{◌≡◌, List, ℕ, ◌+◌, length}
use Rattle.std.proofs.lemmas.List.Edits.{sets}

-- The bytes `before` hold `xs` from `at` to `end` afterwards, and every other byte is as it was.
pub record Wrote (before after : List ℕ) (at end : ℕ) (xs : List ℕ) : Type 0 where
  pub ends : end ≡ at + length xs
  pub is : after ≡ sets before at xs
