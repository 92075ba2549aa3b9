-- Why a program did not do its work.
use Rattle.std.specs.Prelude.{⊤}
use Rattle.std.specs.declared.io.Error.{Error}
use Rattle.streams.specs.declared.Failure.{Failure}
use Rattle.streams.specs.declared.Failure.TheVariants.{Read, Write}

-- the reason, as the reader or the writer gave it
abbrev pub reason : Failure → Error
reason (Read e) = e
reason (Write e) = e

-- a fact where a read failed
abbrev pub OnRead : Failure → Type 0 → Type 0
OnRead (Read e) P = P
OnRead (Write e) P = ⊤

-- a fact where a write failed
abbrev pub OnWrite : Failure → Type 0 → Type 0
OnWrite (Read e) P = ⊤
OnWrite (Write e) P = P
