-- The first bytes of an input tell what is printed and left: a longer input is refused as its beginning is, and a shorter one is its own beginning.
use mathlib.Core.Path.{◌≡◌, ap, sym, ◌∙◌}
use mathlib.Core.Logic.{◌⊎◌, inl, inr}
use mathlib.Core.List.{List}
use Prim.Native.Nat.{ℕ, ◌≤◌, ◌<◌}
use native.Mathlib.Omega.{arith}
use borrow.Author.Tests.{lt-ltb}
use lib.IntN.{ℤ}
use lib.ListN.{length, take}
use lib.Seq.{length-take-le, take_all}
use Rattle.sheet.specs.Limits.{max_bytes}
use Rattle.sheet.specs.Answers.{WriteAnswer}
use Rattle.sheet.specs.Causes.{sheet_too_long}
use Rattle.sheet.specs.Reading.{part_refused, answer, read_of}
use Rattle.evaluation.proofs.Induction.{lt_or_ge}
use Rattle.listing.specs.Listing.{text_of, table_of, ranges_of}
use Rattle.listing.specs.Listed.{Listed, BeginningOf}

too_long : (s : List ℕ) → max_bytes < length s → read_of s ≡ answer (part_refused sheet_too_long)
unfolding read_of
too_long s h = rw (lt-ltb max_bytes (length s) h)

pub read_of_beginning : (k : ℕ) → max_bytes < k → (s : List ℕ) → read_of (take k s) ≡ read_of s
read_of_beginning k enough s = by_length (lt_or_ge k (length s))
  where
    by_length : (k < length s) ⊎ (length s ≤ k) → read_of (take k s) ≡ read_of s
    by_length (inl h) = too_long (take k s) (rw (length-take-le k s (omega arith)) enough) ∙ sym (too_long s (omega arith))
    by_length (inr h) = ap read_of (take_all k s h)

-- text and tables are those of what is read
module _ (s i : List ℕ) (table ranges : List ℤ) (e : read_of s ≡ read_of i) where
  text_alike : text_of s table ranges ≡ text_of i table ranges
  unfolding text_of
  text_alike = rw e

  table_alike : table_of s table ranges ≡ table_of i table ranges
  unfolding table_of
  table_alike = rw e

  ranges_alike : ranges_of s table ranges ≡ ranges_of i table ranges
  unfolding ranges_of
  ranges_alike = rw e

-- what listing a beginning leaves, listing the whole input leaves
pub beginning_tells : {input sheet : List ℕ} {t u r s : List ℤ} {text after : List ℕ} {a : WriteAnswer} → BeginningOf input sheet → Listed sheet t u r s text after a
    → Listed input t u r s text after a
beginning_tells {input} {sheet} {t} {u} {r} b l =
    let e : read_of sheet ≡ read_of input = ap read_of (sym b.2) ∙ read_of_beginning b.0 b.1 input in
    let text_is = text_alike sheet input t r e in
    record {
      answers = rw text_is at l.answers;
      leaves_table = rw (table_alike sheet input t r e) at l.leaves_table;
      leaves_ranges = rw (ranges_alike sheet input t r e) at l.leaves_ranges;
      leaves_text = rw text_is at l.leaves_text;
    }
