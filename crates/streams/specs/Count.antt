-- What an answer of `read_input` says of the buffer and of the reader, and what a failure of `write_all` leaves of the bytes.
use Rattle.std.specs.Prelude.{◌≡◌, ◌-◌, ◌<◌, ◌≤◌, List, Option, Result, ℕ, length, take, drop, replicate, IfOk, MatchResult}
use Rattle.std.specs.Io.KnownBytes.{Appends, Consumes, IsAtEnd}

-- as many bytes as were read are in the buffer, at its start; a failure says nothing of it
abbrev pub CountsIn : {E : Type 0} → Result ℕ E → List ℕ → Type 0
CountsIn answer buf = IfOk answer (λ n. (n ≤ length buf) × (n ≡ length (take n buf)))

-- from a position on the buffer holds zeros
abbrev pub ZerosFrom : List ℕ → ℕ → Type 0
ZerosFrom buf n = drop n buf ≡ replicate (length buf - n) 0

-- the reader gave some bytes, and they stand at the start of the buffer, with zeros behind them
abbrev pub ConsumesSome : Option (List ℕ) → Option (List ℕ) → List ℕ → Type 0
ConsumesSome old new buf = (n : ℕ) × (n ≤ length buf) × Consumes old new (take n buf) × ZerosFrom buf n

-- the reader gave the bytes that were read, each once and in order; where they do not fill the buffer, it has no more
abbrev pub ConsumesFront : {E : Type 0} → Option (List ℕ) → Option (List ℕ) → Result ℕ E → List ℕ → Type 0
ConsumesFront old new answer buf =
    MatchResult answer (λ n. Consumes old new (take n buf) × (n < length buf → IsAtEnd new)) (λ _. ConsumesSome old new buf)

-- the writer took a beginning of the bytes, each once and in order, and not all of them
abbrev pub AppendsBeginning : Option (List ℕ) → Option (List ℕ) → List ℕ → Type 0
AppendsBeginning old new bytes = (n : ℕ) × (n < length bytes) × Appends old new (take n bytes)
