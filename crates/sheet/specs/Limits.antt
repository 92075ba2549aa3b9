-- The limits of a sheet (manual, section 2), besides those of its counts; src/lib.rt has the same names for the code.
use Rattle.std.specs.Prelude.{ℕ}

-- "Both ends lie from -268,435,456 to 268,435,456"
abbrev pub end_limit : ℕ
end_limit = 268435456

-- "sheet over 1,024 bytes"
abbrev pub max_bytes : ℕ
max_bytes = 1024

-- "Codes: 1 constant .., 2 add, 3 subtract .., 4 multiply, 5 reciprocal ..", and 6 root: the last of those that name a second row, and the last of all
abbrev pub last_binary : ℕ
last_binary = 4

abbrev pub last_code : ℕ
last_code = 6
