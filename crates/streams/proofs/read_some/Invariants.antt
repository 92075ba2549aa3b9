-- a failed read leaves the reader what it had, and the buffer its length
use Rattle.std.proofs.Common.{◌≡◌, length}
use Rattle.std.specs.Io.KnownBytes.{Keeps}
use Rattle.streams.proofs.read_some.Given as goal

abbrev pub invariant-loop : goal.invariant-loop
invariant-loop g l = record {
  len : length l.buf ≡ length l.initial.buf;
  bytes : Keeps (g.R.Read.remaining l.fn.reader) (g.R.Read.remaining l.reader);
}
