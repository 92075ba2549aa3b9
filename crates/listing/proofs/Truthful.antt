-- What is printed is true, from the guarantee of the evaluation whose tables are listed, and it is a listing exactly where the evaluation is accepted.
use mathlib.Core.Path.{◌≡◌, refl, sym, ap, ◌∙◌, subst}
use mathlib.Core.Logic.{◌≢◌}
use mathlib.Core.Bool.{true}
use mathlib.Core.List.{List}
use Prim.Native.Nat.{ℕ, zero, suc, ◌+◌, ◌-◌, ◌≤◌, ◌<◌}
use native.Mathlib.Omega.{arith}
use lib.IntN.{ℤ, pos, nat_abs}
use lib.ListN.{length, take}
use Rattle.integer.specs.Fraction.{Fraction}
use Rattle.affine.specs.declared.Row.{Row}
use Rattle.affine.specs.Limits.{span_limit}
use Rattle.affine.specs.Lists.{at}
use Rattle.affine.proofs.Lists.{pick_elim}
use Rattle.sheet.specs.declared.Schedule.{Schedule}
use Rattle.sheet.specs.Answers.{Refusal}
use Rattle.sheet.specs.Reading.{starts}
use Rattle.sheet.specs.Text.{texts}
use Rattle.sheet.specs.Wrote.{Wrote}
use Rattle.sheet.proofs.Prefix.{starts_complete}
use Rattle.sheet.proofs.RefusalSize.{Small, last_place}
use Rattle.sheet.proofs.SheetWrite.{take_sets}
use Rattle.evaluation.specs.Work.{row_count}
use Rattle.evaluation.specs.Asking.{same_of}
use Rattle.evaluation.specs.Demand3.{Demand3, Guaranteed}
use Rattle.evaluation.specs.TablesHeld.{TablesHeld}
use Rattle.listing.specs.Listing.{column_names, row_numbers, row_text, first_among, first_same, listing, refusal_text}
use Rattle.listing.specs.Listed.{text_room}
use Rattle.listing.specs.Truthful.{IsListing, NamesEqual, LineTrue, LinesTrue}
use Rattle.listing.specs.Legible.{ReadsAsListing, ReadsAsRefusal}
use Rattle.listing.proofs.Legible.{numbers_short, refusal_short}
use Rattle.listing.proofs.TextFits.{refusal_fits}
use Rattle.listing.proofs.ReadLines.{five_read, line_there, all_there, reads_as_listing, reads_as_refusal}

-- a listing begins with the names of the columns, and a refusal does not
listing_begins : (table ranges : List ℤ) (count : ℕ) → IsListing (listing table ranges count)
unfolding listing
listing_begins table ranges count = starts_complete column_names (texts count 1 (row_text table ranges count))

no_listing : (r : Refusal) → IsListing (refusal_text r) → ⊥
unfolding starts refusal_text
no_listing r e = let y : ◌≡◌ {A = ℕ} 0 1 = cc in omega arith

-- the first row that is the same, where there is one, is one of those looked at, and is the same
record Found (table : List ℤ) (count row from n k : ℕ) : Type 0 where
  from_on : from ≤ k
  before : k < from + n
  yes : (same_of table count k row).same ≡ true

found_among : (table : List ℤ) (count row from n : ℕ) → (first_among table count row from n ≡ 0 → ⊥) → Found table count row from n (first_among table count row from n)
unfolding first_among
found_among table count row from zero = λ z. absurd (z refl)
found_among table count row from (suc n) =
    pick_elim (λ (k : ℕ). (k ≡ 0 → ⊥) → Found table count row from (suc n) k) (same_of table count from row).same _ _
    (λ e z. record { from_on = omega arith; before = omega arith; yes = e })
    (λ e z. let r = found_among table count row (suc from) n z in record { from_on = omega (arith, r.from_on); before = omega (arith, r.before); yes = r.yes })

module _ (c : Schedule) (rows : List Row) (table ranges : List ℤ) where
  module _ (x : ℕ → Fraction) (d : Demand3 c rows table ranges x) where
    named_equal : (i : ℕ) → i < row_count c → pos (first_same table (row_count c) (suc i)) ≢ pos 0 → NamesEqual c x i (pos (first_same table (row_count c) (suc i)))
    named_equal i h z =
        let k : ℕ = first_same table (row_count c) (suc i) in
        let r = found_among table (row_count c) (suc i) 1 (suc i - 1) (λ e. z (ap pos e)) in
        let n : suc (k - 1) ≡ k = omega (arith, r.from_on) in
        let j : k - 1 < row_count c = omega (arith, r.before) in
        record {
          from_one = r.from_on;
          earlier = omega (arith, r.before);
          equal = d.same_values (k - 1) i j h table refl refl (row_count c) (d.same_answered (k - 1) i j h)
              (ap (λ m. (same_of table (row_count c) m (suc i)).same) n ∙ r.yes);
        }

    line_true : (next i : ℕ) → i < row_count c → LineTrue c x i (five_read (row_numbers table ranges (row_count c) (suc i)) next)
    line_true next i h =
        record {
          reads = refl;
          of_row = refl;
          holds = d.in_range i h table ranges refl refl (row_count c) (d.range_answered i h);
          same = named_equal i h;
        }

  pub lines_true : 0 < row_count c
      → ((row : ℕ) → 1 ≤ row → row ≤ row_count c → (i : ℕ) → nat_abs (at (row_numbers table ranges (row_count c) row) i) ≤ span_limit)
      → Guaranteed c rows table ranges → LinesTrue c (listing table ranges (row_count c))
  lines_true some short g =
      record {
        all = all_there table ranges (row_count c) short some;
        lines_true = λ x within i h. subst (LineTrue c x i) (sym (line_there table ranges (row_count c) short i h)) (line_true x (g x within) _ i h);
      }

-- What is printed of an accepted evaluation: a listing, which is true by the guarantee and reads back.
pub record Shown (c : Schedule) (table ranges : List ℤ) (text : List ℕ) : Type 0 where
  pub is_listing : IsListing text
  pub is_true : LinesTrue c text
  pub legible : ReadsAsListing table ranges (row_count c) text

pub shown : {c : Schedule} {rows : List Row} {table ranges : List ℤ} → TablesHeld c table ranges → Guaranteed c rows table ranges
    → Shown c table ranges (listing table ranges (row_count c))
shown {c} {rows} {table} {ranges} held g =
    record {
      is_listing = listing_begins table ranges (row_count c);
      is_true = lines_true c rows table ranges held.some (numbers_short held) g;
      legible = reads_as_listing table ranges (row_count c) (numbers_short held) held.some;
    }

-- the bytes that were written, where they had room
pub bytes_written : {before after : List ℕ} {end : ℕ} {text : List ℕ} → Wrote before after 0 end text → length text ≤ length before → take end after ≡ text
bytes_written {before} {after} {end} {text} w h = let n : end ≡ length text = omega (arith, w.ends) in rw (n, w.is) (take_sets text before h)

-- What is printed of a refusal: no listing, and it reads back where its numbers are small.
pub record Told (r : Refusal) (text : List ℕ) : Type 0 where
  pub no_listing : IsListing text → ⊥
  pub legible : Small last_place r → ReadsAsRefusal r text

pub refusal_told : {before after : List ℕ} {end : ℕ} (r : Refusal) → Wrote before after 0 end (refusal_text r) → text_room ≤ length before → Told r (take end after)
refusal_told r w h =
    let is = bytes_written w (omega (arith, refusal_fits r, h)) in
    subst (Told r) (sym is) (record { no_listing = no_listing r; legible = λ s. reads_as_refusal (refusal_short s) })
