-- What the call of `list` says of the whole input: there was room, so it answered, and the bytes that were read tell all.
use mathlib.Core.Path.{◌≡◌, sym, ap, ◌∙◌, subst}
use mathlib.Core.List.{List}
use Prim.Native.Nat.{ℕ, ◌≤◌}
use native.Mathlib.Omega.{arith}
use borrow.Author.Tests.{le-ltb}
use lib.IntN.{ℤ}
use lib.ListN.{length, take}
use Rattle.std.specs.Prelude.{◌≢◌, ◌↔◌, Result, Ok, Err, IfOk}
use Rattle.std.specs.Result.{result_unwrap_or}
use Rattle.sheet.specs.Answers.{ReadAnswer, WriteAnswer}
use Rattle.sheet.specs.Reading.{read_of}
use Rattle.sheet.specs.Results.{write_answer}
use Rattle.sheet.specs.Causes.{accepted}
use Rattle.sheet.specs.Wrote.{Wrote}
use Rattle.sheet.specs.declared.causes.Refused.{Refused}
use Rattle.sheet.proofs.Results.{number_above}
use Rattle.listing.specs.Listing.{table_of, ranges_of, printed}
use Rattle.listing.specs.Listed.{text_room, Listed}
use Rattle.listing.specs.Truthful.{IsListing, IsAccepted, LinesTrue, Truthful}
use Rattle.listing.specs.Legible.{ReadsAsRefusal, ScheduleLegible, Legible}
use Rattle.listing.proofs.TextCases.{length_told, listed_wrote, text_told}
use Rattle.ranges.specs.Printed.{zero_table, zero_ranges, PrintsTruth}

pub within : (answer : Result ℕ Refused) → IfOk answer (λ n. n ≤ text_room) → result_unwrap_or answer 0 ≤ text_room
within (Ok n) h = h
within (Err r) h = omega arith

-- with room there is an answer
pub answered : {input text after : List ℕ} {t u r s : List ℤ} (e : Refused) → text_room ≤ length text → Listed input t u r s text after (write_answer (Err e)) → ⊥
answered {text = text} e room l =
    let z = ap (λ (w : WriteAnswer). w.refusal.number) (rw (le-ltb (length text) text_room room) at l.answers) in omega (arith, z, number_above e.cause)

-- and the bytes that it counts are those that are printed
pub wrote : {input text after : List ℕ} {t r : List ℤ} (answer : Result ℕ Refused) → text_room ≤ length text
    → Listed input zero_table t zero_ranges r text after (write_answer answer) → Wrote text after 0 (result_unwrap_or answer 0) (printed input)
wrote answer room l = rw (length_told answer) (listed_wrote _ zero_table zero_ranges _ room l)

-- what reads back, by the answer of reading the sheet
abbrev OnSheet : List ℤ → List ℤ → List ℕ → ReadAnswer → Type 0
OnSheet t r text a =
    (a.refusal ≢ accepted → ReadsAsRefusal a.refusal text) × (a.refusal ≡ accepted → ScheduleLegible a.schedule zero_table zero_ranges t r text)

-- what is said of the bytes that were read is said of the input
module _ {read input : List ℕ} (e : read_of read ≡ read_of input) where
  onward : IsAccepted read zero_table zero_ranges → IsAccepted input zero_table zero_ranges
  onward y = record { in_reading = ap (λ (a : ReadAnswer). a.refusal) (sym e) ∙ y.in_reading; in_evaluation = rw e at y.in_evaluation }

  back : IsAccepted input zero_table zero_ranges → IsAccepted read zero_table zero_ranges
  back y = record { in_reading = ap (λ (a : ReadAnswer). a.refusal) e ∙ y.in_reading; in_evaluation = rw (sym e) at y.in_evaluation }

  legible_of : {t r : List ℤ} {text : List ℕ} → Legible read zero_table zero_ranges t r text → t ≡ table_of input zero_table zero_ranges
      → r ≡ ranges_of input zero_table zero_ranges → text ≡ printed input
      → Legible input zero_table zero_ranges (table_of input zero_table zero_ranges) (ranges_of input zero_table zero_ranges) (printed input)
  legible_of {t} {r} {text} l table ranges p =
      let all : OnSheet t r text (read_of input) = subst (OnSheet t r text) e (l.refusal, l.schedule) in
      let left = subst (λ (k : List ℤ). OnSheet k r text (read_of input)) table all in
      let both = subst (λ (k : List ℤ). OnSheet (table_of input zero_table zero_ranges) k text (read_of input)) ranges left in
      let there = subst (λ (k : List ℕ). OnSheet (table_of input zero_table zero_ranges) (ranges_of input zero_table zero_ranges) k (read_of input)) p both in
      record { refusal = there.0; schedule = there.1 }

  truth_of : {t r : List ℤ} {text : List ℕ} → (IsListing text ↔ IsAccepted read zero_table zero_ranges) → Truthful read text
      → Legible read zero_table zero_ranges t r text → t ≡ table_of input zero_table zero_ranges → r ≡ ranges_of input zero_table zero_ranges
      → text ≡ printed input → PrintsTruth input
  truth_of {text = text} l t legible table ranges p =
      record {
        listing = (λ y. onward (l.0 (rw (sym p) at y)), λ y. rw p at (l.1 (back y)));
        is_true = record {
          read = λ y. ap (λ (a : ReadAnswer). a.refusal) (sym e) ∙ t.read (rw (sym p) at y);
          is_true = λ y. subst (λ (l : List ℕ). LinesTrue (read_of input).schedule l) p (subst (λ (a : ReadAnswer). LinesTrue a.schedule text) e (t.is_true (rw (sym p) at y)));
        };
        legible = legible_of legible table ranges p;
      }

pub prints_truth : (read input : List ℕ) {text after : List ℕ} {t r : List ℤ} (answer : Result ℕ Refused) → text_room ≤ length text → read_of read ≡ read_of input
    → Listed input zero_table t zero_ranges r text after (write_answer answer) → IfOk answer (λ n. IsListing (take n after) ↔ IsAccepted read zero_table zero_ranges)
    → IfOk answer (λ n. Truthful read (take n after)) → IfOk answer (λ n. Legible read zero_table zero_ranges t r (take n after)) → PrintsTruth input
prints_truth read input {text = text} (Ok n) room e listed l t legible =
    let enough = le-ltb (length text) text_room room in
    truth_of e l t legible (rw enough at listed.leaves_table) (rw enough at listed.leaves_ranges) (text_told room listed)
prints_truth read input (Err r) room e listed l t legible = absurd (answered r room listed)
