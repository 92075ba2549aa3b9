-- What listing a sheet into lent bytes leaves: its answer, every number of both lent tables and every lent byte afterwards.
use Rattle.std.specs.Prelude.{◌≡◌, List, ℕ, ltb, ◌<◌, ℤ, length, take}
use Rattle.std.proofs.lemmas.List.Edits.{sets}
use Rattle.affine.specs.Lists.{pick}
use Rattle.sheet.specs.Answers.{WriteAnswer}
use Rattle.sheet.specs.Causes.{accepted, bytes_too_short}
use Rattle.sheet.specs.Limits.{max_bytes}
use Rattle.sheet.specs.Writing.{not_written}
use Rattle.listing.specs.Listing.{text_of, table_of, ranges_of}

-- As many bytes as every text fits into: fewer are refused with 8 (manual, section 6).
abbrev pub text_room : ℕ
text_room = 4096

pub record Listed (sheet : List ℕ) (table table_afterwards ranges ranges_afterwards : List ℤ) (text text_afterwards : List ℕ) (a : WriteAnswer) : Type 0 where
  pub answers : a ≡ pick (ltb (length text) text_room) (not_written bytes_too_short) (record { refusal = accepted; length = length (text_of sheet table ranges) })
  pub leaves_table : table_afterwards ≡ pick (ltb (length text) text_room) table (table_of sheet table ranges)
  pub leaves_ranges : ranges_afterwards ≡ pick (ltb (length text) text_room) ranges (ranges_of sheet table ranges)
  pub leaves_text : text_afterwards ≡ pick (ltb (length text) text_room) text (sets text 0 (text_of sheet table ranges))

-- Bytes that an input begins with: all of it, or so many that no sheet has as many.
abbrev pub BeginningOf : List ℕ → List ℕ → Type 0
BeginningOf input sheet = (room : ℕ) × (max_bytes < room) × (take room input ≡ sheet)
