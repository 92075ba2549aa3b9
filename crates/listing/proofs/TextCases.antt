-- The text of a sheet, by how its reading and its evaluation ended, and what the call leaves.
use mathlib.Core.Path.{◌≡◌, refl, sym, ap, ◌∙◌}
use mathlib.Core.List.{List}
use Prim.Native.Nat.{ℕ, ◌≤◌, ◌<◌}
use native.Mathlib.Nat.{zero-add}
use native.Mathlib.Omega.{arith}
use borrow.Author.Tests.{eq-eqb, ne_eqb, lt-ltb, le-ltb}
use lib.IntN.{ℤ}
use lib.ListN.{length, take}
use Rattle.std.specs.Prelude.{Result, Ok, Err}
use Rattle.std.specs.Result.{result_unwrap_or}
use Rattle.sheet.specs.declared.Schedule.{Schedule}
use Rattle.sheet.specs.declared.causes.Refused.{Refused}
use Rattle.sheet.specs.Answers.{WriteAnswer}
use Rattle.sheet.specs.Causes.{accepted, bytes_too_short}
use Rattle.sheet.specs.Reading.{read_of}
use Rattle.sheet.specs.Results.{write_answer}
use Rattle.sheet.specs.Writing.{not_written}
use Rattle.sheet.specs.Wrote.{Wrote}
use Rattle.evaluation.specs.Work.{row_count, evaluated}
use Rattle.listing.specs.Listing.{listing, refusal_text, table_left, ranges_left, schedule_text, text_of, table_of, ranges_of}
use Rattle.listing.specs.Listed.{text_room, Listed}
use Rattle.listing.proofs.TextFits.{text_fits}
use Rattle.listing.proofs.Truthful.{bytes_written}

-- how many bytes were written, or 0 beside a refusal, as the programs take it
pub length_told : (answer : Result ℕ Refused) → result_unwrap_or answer 0 ≡ (write_answer answer).length
length_told (Ok n) = refl
length_told (Err r) = refl

module _ (c : Schedule) (table ranges : List ℤ) where
  pub schedule_listed : (evaluated c table ranges).refusal.number ≡ 0
      → schedule_text c table ranges ≡ listing (table_left c table ranges) (ranges_left c table ranges) (row_count c)
  unfolding schedule_text
  schedule_listed e = rw (eq-eqb _ 0 e)

  pub schedule_refused : ((evaluated c table ranges).refusal.number ≡ 0 → ⊥) → schedule_text c table ranges ≡ refusal_text (evaluated c table ranges).refusal
  unfolding schedule_text
  schedule_refused e = rw (ne_eqb _ 0 e)

-- the text of a sheet, and what it leaves of both tables
pub record Ends (sheet : List ℕ) (table ranges : List ℤ) (text : List ℕ) (left left_ranges : List ℤ) : Type 0 where
  pub text_is : text_of sheet table ranges ≡ text
  pub table_is : table_of sheet table ranges ≡ left
  pub ranges_are : ranges_of sheet table ranges ≡ left_ranges

module _ (sheet : List ℕ) (table ranges : List ℤ) where
  pub sheet_read : (read_of sheet).refusal.number ≡ 0
      → let c = (read_of sheet).schedule in Ends sheet table ranges (schedule_text c table ranges) (table_left c table ranges) (ranges_left c table ranges)
  unfolding text_of table_of ranges_of
  sheet_read e = record { text_is = rw (eq-eqb _ 0 e); table_is = rw (eq-eqb _ 0 e); ranges_are = rw (eq-eqb _ 0 e) }

  pub sheet_refused : ((read_of sheet).refusal.number ≡ 0 → ⊥) → Ends sheet table ranges (refusal_text (read_of sheet).refusal) table ranges
  unfolding text_of table_of ranges_of
  sheet_refused e = record { text_is = rw (ne_eqb _ 0 e); table_is = rw (ne_eqb _ 0 e); ranges_are = rw (ne_eqb _ 0 e) }

-- What the call leaves: nothing touched where there are too few bytes, and else the text, where it was written at the start.
module _ (sheet : List ℕ) (table ranges : List ℤ) (text : List ℕ) where
  pub listed_short : length text < text_room → Listed sheet table table ranges ranges text text (not_written bytes_too_short)
  listed_short h =
      let e = lt-ltb (length text) text_room h in
      record { answers = rw e; leaves_table = rw e; leaves_ranges = rw e; leaves_text = rw e }

  pub listed_written : {table_afterwards ranges_afterwards : List ℤ} {text_afterwards wanted : List ℕ} {length' : ℕ} → text_room ≤ length text
      → Ends sheet table ranges wanted table_afterwards ranges_afterwards → Wrote text text_afterwards 0 length' wanted
      → Listed sheet table table_afterwards ranges ranges_afterwards text text_afterwards (record { refusal = accepted; length = length' })
  listed_written {wanted = wanted} h ends w =
      let e = le-ltb (length text) text_room h in
      let n = w.ends ∙ zero-add (length wanted) in
      record {
        answers = rw (e, ends.text_is, n);
        leaves_table = rw e (sym ends.table_is);
        leaves_ranges = rw e (sym ends.ranges_are);
        leaves_text = rw (e, ends.text_is) w.is;
      }

  -- where there is room, the text stands at the start of the bytes
  pub listed_wrote : {table_afterwards ranges_afterwards : List ℤ} {text_afterwards : List ℕ} {a : WriteAnswer} → text_room ≤ length text
      → Listed sheet table table_afterwards ranges ranges_afterwards text text_afterwards a → Wrote text text_afterwards 0 a.length (text_of sheet table ranges)
  listed_wrote h l =
      let e = le-ltb (length text) text_room h in
      let answers = rw e at l.answers in
      record { ends = ap (λ (a : WriteAnswer). a.length) answers ∙ sym (zero-add (length (text_of sheet table ranges))); is = rw e at l.leaves_text }

-- What is said of the text alone: it fits, and with tables that hold every row and range it is the one that is printed.
module _ {sheet : List ℕ} {table ranges table_afterwards ranges_afterwards : List ℤ} {text text_afterwards : List ℕ} {n : ℕ} (room : text_room ≤ length text)
    (l : Listed sheet table table_afterwards ranges ranges_afterwards text text_afterwards (record { refusal = accepted; length = n })) where
  w : Wrote text text_afterwards 0 n (text_of sheet table ranges)
  w = listed_wrote sheet table ranges text room l

  pub fits_told : n ≤ text_room
  fits_told = omega (arith, w.ends, text_fits sheet table ranges)

  pub text_told : take n text_afterwards ≡ text_of sheet table ranges
  text_told = bytes_written w (omega (arith, room, text_fits sheet table ranges))
