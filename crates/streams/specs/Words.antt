-- The words of a call.
use Rattle.std.specs.Prelude.{◌≡◌, ℕ, ◌≤◌, List, Option, None, Some, ◌++◌, ◌&&◌, leb, if◌then◌else◌, codes, length, take, map, slice_get, MatchOption, ⊤}

-- As much of a word as there is room for stands at the start of the bytes.
pub record Taken (word room : List ℕ) (n : ℕ) : Type 0 where
  pub within : n ≤ length room
  pub is : take n room ≡ take (length room) word

-- What is answered for the word at a position, where the words are known, and what the lent bytes hold then.
abbrev pub Gives : Option (List (List ℕ)) → ℕ → List ℕ → Option ℕ → Type 0
Gives None i room result = ⊤
Gives (Some words) i room result = MatchOption (slice_get words i) (result ≡ None) (λ word. (n : ℕ) × (result ≡ Some n) × Taken word room n)

-- The only word behind the program's own name.
pub record IsOnlyWord (words : List (List ℕ)) (word : List ℕ) : Type 0 where
  pub first : slice_get words 1 ≡ Some word
  pub no_second : slice_get words 2 ≡ None

-- A byte of a word as a line shows it: a printable character of ASCII, and a question mark (63) for any other.
abbrev pub shown_byte : ℕ → ℕ
shown_byte b = if leb 32 b && leb b 126 then b else 63

-- A word as a line shows it: whole, or of one of more than 40 bytes the first 37 with three dots behind them.
abbrev pub shown_of : List ℕ → List ℕ
shown_of word = if leb (length word) 40 then map shown_byte word else (take 37 (map shown_byte word) ++ codes "...")
