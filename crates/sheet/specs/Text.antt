-- The text of numbers and lines ("The sheet": manual, sections 2.2 and 2.3), as the writer makes it and the reader wants it.
use Rattle.std.specs.Prelude.{List, [], ◌∷◌, ◌++◌, ℕ, zero, suc, ◌+◌, ◌/◌, ◌%◌, ◌<◌, ltb, length, ℤ, pos, negsuc, nat_abs}
use Rattle.sheet.specs.Choice.{pick}

-- `n` in decimal digits, `k` of them at the most, and no needless 0 in front.
unfoldable pub decimal : ℕ → ℕ → List ℕ
decimal zero n = []
decimal (suc k) n = pick (ltb n 10) ((n + 48) ∷ []) (decimal k (n / 10) ++ ((n % 10 + 48) ∷ []))

-- The most digits of a number that a call can take: 2 ^ 64 - 1 has so many. `put_count` and `put_number` say that each number is written whole.
abbrev pub most_digits : ℕ
most_digits = 20

-- A number is written in decimal digits with no needless 0 in front, behind a minus where it is below 0.
unfoldable pub numeral : ℤ → List ℕ
numeral (pos n) = decimal most_digits n
numeral (negsuc n) = 45 ∷ decimal most_digits (suc n)

-- Every number has ten digits at the most, as on a sheet.
pub data TenDigits : List ℤ → Type 0 where
  none : TenDigits []
  one : {x : ℤ} {xs : List ℤ} → nat_abs x < 10000000000 → TenDigits xs → TenDigits (x ∷ xs)

-- The byte that ends a field behind which `k` more stand on the line: a space, or byte 10 for the last.
abbrev pub end_byte : ℕ → ℕ
end_byte zero = 10
end_byte (suc k) = 32

-- "Text lines end in byte 10 (decimal). Fields have one space between them and none elsewhere."
unfoldable pub line : List ℤ → List ℕ
line [] = []
line (x ∷ xs) = numeral x ++ (end_byte (length xs) ∷ line xs)

-- `k` texts, one behind the other, from number `n` on.
unfoldable pub texts : ℕ → ℕ → (ℕ → List ℕ) → List ℕ
texts zero n f = []
texts (suc k) n f = f n ++ texts k (suc n) f
