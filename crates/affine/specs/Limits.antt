-- The limits and units of "A row" (manual, section 5), each named once. The code's constants of the same names stand in src/limits.rt.
use Rattle.std.specs.Prelude.{ℕ, zero, suc, ◌+◌}
use Rattle.capacity.specs.Limits.{max_inputs, max_rows}

-- "Every step owns a symbol", and so does every input: "48 linear"
abbrev pub symbols : ℕ
symbols = max_rows

-- "Pairs are used only among the first "squares" inputs": the symbols that stand in pairs, one for each input
abbrev pub paired : ℕ
paired = max_inputs

-- the number of pairs of n symbols: those of the first, with itself and with each later one, and those of the later symbols
abbrev pub pair_count : ℕ → ℕ
pair_count zero = 0
pair_count (suc n) = suc (n + pair_count n)

-- "36 pairs in the same manner"
abbrev pub pairs : ℕ
pairs = pair_count paired

-- "All quantities are whole numbers of one unit, 1/4096."
abbrev pub unit : ℕ
unit = 4096

-- "2048 × the operand's": half of a unit's 4096 parts
abbrev pub half_unit : ℕ
half_unit = 2048

-- "N is 16,777,216, the square of 4096."
abbrev pub unit_squared : ℕ
unit_squared = 16777216

-- "It is at most 1,073,741,824 in an accepted row."
abbrev pub span_limit : ℕ
span_limit = 1073741824
