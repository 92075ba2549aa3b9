-- What is said of the text that the program prints for an input.
use Rattle.std.specs.Prelude.{◌↔◌, List, ℕ, ℤ, pos, replicate}
use Rattle.listing.specs.Listing.{table_numbers, ranges_numbers, table_of, ranges_of, printed}
use Rattle.listing.specs.Truthful.{IsListing, IsAccepted, Truthful}
use Rattle.listing.specs.Legible.{Legible}

-- tables of zeros that hold every row and range
abbrev pub zero_table : List ℤ
zero_table = replicate table_numbers (pos 0)

abbrev pub zero_ranges : List ℤ
zero_ranges = replicate ranges_numbers (pos 0)

-- It is a listing exactly where the input is a sheet that is accepted, in tables of zeros, and what it lists is true. Each number of it reads back: those of
-- the rows, as evaluation leaves them in the tables, or those of the refusal.
pub record PrintsTruth (input : List ℕ) : Type 0 where
  pub listing : IsListing (printed input) ↔ IsAccepted input zero_table zero_ranges
  pub is_true : Truthful input (printed input)
  pub legible : Legible input zero_table zero_ranges (table_of input zero_table zero_ranges) (ranges_of input zero_table zero_ranges) (printed input)
