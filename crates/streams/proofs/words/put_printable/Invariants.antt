-- the bytes before this one are as they are shown
use Rattle.std.proofs.Common.{◌≡◌, ◌++◌, map, take, drop}
use Rattle.streams.specs.Words.{shown_byte}
use Rattle.streams.proofs.words.put_printable.Given as goal

abbrev pub invariant-loop-i : goal.invariant-loop-i
invariant-loop-i l = l.bytes ≡ map shown_byte (take l.i l.fn.bytes) ++ drop l.i l.fn.bytes
