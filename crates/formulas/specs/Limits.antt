-- The limits of a formula (manual, section 7.12), each named here and nowhere else in definitions and laws (src/lib.rt has them for the code).
use Rattle.std.specs.Prelude.{ℕ}

-- "a formula has at most 200 bytes"
abbrev pub max_text : ℕ
max_text = 200

-- "Brackets nest to 16 at most"
abbrev pub max_nesting : ℕ
max_nesting = 16
