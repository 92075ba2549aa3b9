-- What makes a row an operand of the row that owns the symbol at index own.
use Rattle.std.specs.Prelude.{◌≡◌, ℕ, ◌≤◌}
use Rattle.affine.specs.declared.Made.{Made}
use Rattle.affine.specs.Limits.{span_limit}
use Rattle.affine.specs.Row.{span, radius, NoneFrom}
use Rattle.affine.specs.Root.{Centred}

pub record OperandOf (own : ℕ) (made : Made) : Type 0 where
  pub within : span made.row ≤ span_limit
  pub radius_told : made.radius ≡ radius made.row
  pub none_later : NoneFrom own made.row.linear
  pub centred : Centred made.range made.row
