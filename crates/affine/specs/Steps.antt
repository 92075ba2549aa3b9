-- "What each row becomes": inputs, constants, sums and differences (manual, sections 5.4 to 5.6), and the answer of an operation.
use Rattle.std.specs.Prelude.{map, ℕ, ℤ, pos, ◌+ℤ◌, ◌-ℤ◌, set, replicate}
use Rattle.integer.specs.Floor.{floor_quotient}
use Rattle.affine.specs.declared.Row.{Row}
use Rattle.affine.specs.declared.Range.{Range}
use Rattle.affine.specs.Answer.{Status}
use Rattle.affine.specs.Answer.{Accepted, SpanPassed, ZeroInRange, NoRoot}
use Rattle.affine.specs.Answer.{Answer}
use Rattle.affine.specs.Limits.{symbols, pairs}
use Rattle.affine.specs.Lists.{pick, at, tabulate}
use Rattle.affine.specs.Row.{radius, within_span, form_range}

-- a row with one centre and no coefficient: "Constant: centre alone."
abbrev pub constant_row : ℤ → Row
constant_row v = record { centre = v; linear = replicate symbols (pos 0); pair = replicate pairs (pos 0) }

-- "Row r owns symbol r; its coefficient in row r is its own coefficient." Symbols are counted from 0.
abbrev pub with_own : ℕ → ℤ → Row → Row
with_own own v r = record { centre = r.centre; linear = set r.linear own v; pair = r.pair }

-- "Input: centre is (low + high) / 2. Own coefficient is high less centre."
abbrev pub input_centre : ℤ → ℤ → ℤ
input_centre low high = floor_quotient (low +ℤ high) (pos 2)

abbrev pub input_row : ℕ → ℤ → ℤ → Row
input_row own low high = with_own own (high -ℤ input_centre low high) (constant_row (input_centre low high))

-- one row made of two, number by number
abbrev pub zip_rows : (ℤ → ℤ → ℤ) → Row → Row → Row
zip_rows f x y =
    record {
      centre = f x.centre y.centre;
      linear = tabulate symbols (λ i. f (at x.linear i) (at y.linear i));
      pair = tabulate pairs (λ k. f (at x.pair k) (at y.pair k));
    }

-- "Add, subtract: number by number, own coefficient 0." No operand has a coefficient at the own symbol of a later row.
abbrev pub add_rows : Row → Row → Row
add_rows = zip_rows (λ a b. a +ℤ b)

abbrev pub subtract_rows : Row → Row → Row
subtract_rows = zip_rows (λ a b. a -ℤ b)

-- one row made of another, number by number
abbrev pub map_row : (ℤ → ℤ) → Row → Row
map_row f r = record { centre = f r.centre; linear = map f r.linear; pair = map f r.pair }

-- "Causes and what follows": the number of an answer
abbrev pub number : Status → ℕ
number Accepted = 0
number SpanPassed = 6
number ZeroInRange = 7
number NoRoot = 12

-- a row with its radius, and its own range
abbrev pub accepted : Row → Range → Answer
accepted r own = record { status = Accepted; row = r; radius = radius r; range = own }

-- "Beside a refusal every other answer is 0"
abbrev pub refused : Status → Answer
refused s = record { status = s; row = constant_row (pos 0); radius = 0; range = record { low = pos 0; high = pos 0 } }

-- "span passed, by a new row"
abbrev pub checked_with : Row → Range → Answer
checked_with r own = pick (within_span r) (accepted r own) (refused SpanPassed)

-- the own range of a row is that of its form ..
abbrev pub checked : Row → Answer
checked r = checked_with r (form_range r)

-- .. but "an input row's range is its own low and high"
abbrev pub ends_range : ℤ → ℤ → Range
ends_range low high = record { low = low; high = high }

abbrev pub input_answer : ℕ → ℤ → ℤ → Answer
input_answer own low high = checked_with (input_row own low high) (ends_range low high)
