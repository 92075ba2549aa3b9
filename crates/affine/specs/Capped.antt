-- A sum that stops one above the span limit: how the code finds the span of a row of any numbers without wrapping. Not of the specification.
use Rattle.std.specs.Prelude.{ℕ, suc, leb}
use Rattle.affine.specs.Limits.{span_limit}
use Rattle.affine.specs.Lists.{pick}

unfoldable pub capped : ℕ → ℕ
capped n = pick (leb n span_limit) n (suc span_limit)
