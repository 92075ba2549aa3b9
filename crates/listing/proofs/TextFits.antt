-- Every text fits into the bytes that are asked for: as many rows as a sheet may have, each with two numbers of rows and three of any size.
use mathlib.Core.List.{List, [], ◌∷◌}
use mathlib.Core.Path.{◌≡◌}
use Prim.Native.Nat.{ℕ, ◌+◌, ◌-◌, ◌*◌, ◌≤◌}
use native.Mathlib.Omega.{arith}
use borrow.Author.Tests.{eqb-true}
use lib.Dec.{eqb}
use lib.IntN.{ℤ, pos}
use lib.ListN.{length, length-append}
use Rattle.affine.specs.Limits.{symbols}
use Rattle.affine.proofs.Lists.{pick_elim}
use Rattle.sheet.specs.declared.Schedule.{Schedule}
use Rattle.sheet.specs.Answers.{Refusal}
use Rattle.sheet.specs.Text.{most_digits, numeral, line, texts}
use Rattle.sheet.specs.Reading.{read_of}
use Rattle.sheet.proofs.Decimal.{decimal_width, numeral_short}
use Rattle.sheet.proofs.FieldLine.{line_short}
use Rattle.sheet.proofs.Texts.{texts_width}
use Rattle.evaluation.specs.Asking.{range_of}
use Rattle.evaluation.specs.Work.{row_count, evaluated}
use Rattle.evaluation.proofs.AcceptedEvaluation.{rows_left_few}
use Rattle.listing.specs.Listing.{own, first_same, row_text, column_names, listing, refusal_names, refusal_text, table_left, ranges_left, schedule_text, text_of}
use Rattle.listing.specs.Listed.{text_room}
use Rattle.listing.proofs.FirstSame.{first_small}

five_wide : (a b c d e : ℤ) → length (line (a ∷ b ∷ c ∷ d ∷ e ∷ [])) ≡ length (numeral a) + length (numeral b) + length (numeral c) + length (numeral d) + length (numeral e) + 5
unfolding line
five_wide a b c d e = simp length-append (omega arith)

-- the number of a row has two digits at the most
row_wide : (row : ℕ) → row ≤ symbols → length (numeral (pos row)) ≤ 2
unfolding numeral
row_wide row h = decimal_width most_digits 1 row (omega arith)

module _ (table ranges : List ℤ) (count : ℕ) where
  row_short : (row : ℕ) → row ≤ symbols → length (row_text table ranges count row) ≤ 72
  unfolding row_text
  row_short row h =
      let range = range_of table ranges count row in
      let same : first_same table count row ≤ symbols = omega (arith, first_small table count row (row - 1) 1) in
      omega (
        arith,
        five_wide (pos row) range.low range.high (own table count row) (pos (first_same table count row)),
        row_wide row h,
        numeral_short range.low,
        numeral_short range.high,
        numeral_short (own table count row),
        row_wide (first_same table count row) same,
      )

  pub rows_short : count ≤ symbols → length (texts count 1 (row_text table ranges count)) ≤ 72 * count
  rows_short h = texts_width (row_text table ranges count) 72 count 1 (λ row a b. row_short row (omega arith))

  pub listing_fits : count ≤ symbols → length (listing table ranges count) ≤ text_room
  unfolding listing
  listing_fits h = omega (arith, length-append column_names (texts count 1 (row_text table ranges count)), rows_short h)

pub refusal_fits : (r : Refusal) → length (refusal_text r) ≤ text_room
unfolding refusal_text
refusal_fits r =
    let numbers : List ℤ = pos r.number ∷ pos r.place ∷ [] in
    omega (arith, length-append refusal_names (line numbers), line_short numbers)

schedule_fits : (c : Schedule) (table ranges : List ℤ) → length (schedule_text c table ranges) ≤ text_room
unfolding schedule_text
schedule_fits c table ranges =
    pick_elim (λ (t : List ℕ). length t ≤ text_room) (eqb (evaluated c table ranges).refusal.number 0) _ _
    (λ e. listing_fits (table_left c table ranges) (ranges_left c table ranges) (row_count c) (rows_left_few c table ranges (eqb-true _ _ e)))
    (λ e. refusal_fits (evaluated c table ranges).refusal)

-- whatever the sheet's bytes and the tables
pub text_fits : (sheet : List ℕ) (table ranges : List ℤ) → length (text_of sheet table ranges) ≤ text_room
unfolding text_of
text_fits sheet table ranges =
    pick_elim (λ (t : List ℕ). length t ≤ text_room) (eqb (read_of sheet).refusal.number 0) _ _
    (λ e. schedule_fits (read_of sheet).schedule table ranges)
    (λ e. refusal_fits (read_of sheet).refusal)
