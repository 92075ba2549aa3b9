-- The texts as they read back: each line of a listing begins where the one before it ends, and has the numbers of its row, and a refusal has its two.
use mathlib.Core.Path.{◌≡◌, sym, ap, ◌∙◌}
use mathlib.Core.Bool.{true}
use mathlib.Core.List.{List, [], ◌∷◌, ◌++◌, append_assoc}
use Prim.Native.Nat.{ℕ, zero, suc, ◌+◌, ◌-◌, ◌≤◌, ◌<◌}
use native.Mathlib.Nat.{add-zero}
use native.Mathlib.Omega.{arith}
use lib.IntN.{ℤ, pos, nat_abs}
use lib.ListN.{length, drop, replicate, length-append}
use lib.Seq.{drop-append_seam}
use Rattle.std.proofs.lemmas.List.{append-nil}
use Rattle.affine.specs.Limits.{span_limit}
use Rattle.affine.specs.Lists.{at}
use Rattle.sheet.specs.Answers.{Refusal, Fields}
use Rattle.sheet.specs.Text.{line, texts}
use Rattle.sheet.proofs.Texts.{texts_more}
use Rattle.sheet.proofs.FieldLine.{TenDigits, none, one, fields_from_complete, behind}
use Rattle.listing.specs.Listing.{column_names, row_numbers, row_text, listing, refusal_names, refusal_text}
use Rattle.listing.specs.Truthful.{five_at, line_read}
use Rattle.listing.specs.Legible.{ReadsAsListing, refusal_read, ReadsAsRefusal}

-- texts, split
texts_split : (f : ℕ → List ℕ) (j k n : ℕ) → texts (j + k) n f ≡ texts j n f ++ texts k (n + j) f
unfolding texts
texts_split f zero k n = let m : 0 + k ≡ k = omega arith in rw (m, add-zero n)
texts_split f (suc j) k n =
    let m : suc j + k ≡ suc (j + k) = omega arith in
    let i : suc n + j ≡ n + suc j = omega arith in
    rw m (ap (λ (l : List ℕ). f n ++ l) (texts_split f j k (suc n)) ∙ rw (i, append_assoc))

-- what a line of five numbers reads as
abbrev pub five_read : List ℤ → ℕ → Fields
five_read numbers next = record { ok = true; next = next; values = numbers }

module _ (table ranges : List ℤ) (count : ℕ) (short : (row : ℕ) → 1 ≤ row → row ≤ count → (i : ℕ) → nat_abs (at (row_numbers table ranges count row) i) ≤ span_limit) where
  abbrev f : ℕ → List ℕ
  f = row_text table ranges count

  abbrev text : List ℕ
  text = listing table ranges count

  -- where the line of the row with index i begins
  abbrev start : ℕ → ℕ
  start i = length column_names + length (texts i 1 f)

  ten_digits : (row : ℕ) → 1 ≤ row → row ≤ count → TenDigits (row_numbers table ranges count row)
  ten_digits row l h =
      one (omega (arith, short row l h 0)) (one (omega (arith, short row l h 1)) (one (omega (arith, short row l h 2))
      (one (omega (arith, short row l h 3)) (one (omega (arith, short row l h 4)) none))))

  -- the texts of the rows from the one with index i on stand there
  stands : (i : ℕ) → i < count → drop (start i) text ≡ line (row_numbers table ranges count (1 + i)) ++ texts (count - suc i) (1 + suc i) f
  unfolding listing row_text texts
  stands i h =
      let n : count ≡ i + suc (count - suc i) = omega arith in
      let m : suc (1 + i) ≡ 1 + suc i = omega arith in
      let e : texts count 1 f ≡ texts i 1 f ++ texts (suc (count - suc i)) (1 + i) f = ap (λ k. texts k 1 f) n ∙ texts_split f i (suc (count - suc i)) 1 in
      behind text (length column_names) (texts i 1 f) (texts (suc (count - suc i)) (1 + i) f) (drop-append_seam column_names (texts count 1 f) ∙ e) ∙ rw m

  -- so it reads as its numbers, and the next one begins behind it
  five_there : (i : ℕ) → i < count → five_at text (start i) ≡ five_read (row_numbers table ranges count (suc i)) (start (suc i))
  unfolding row_text
  five_there i h =
      let m : 1 + i ≡ suc i = omega arith in
      let n : i + 1 ≡ suc i = omega arith in
      let r : List ℤ = row_numbers table ranges count (suc i) in
      let e : texts (suc i) 1 f ≡ texts i 1 f ++ line r = ap (λ k. texts k 1 f) (sym n) ∙ texts_more f i 1 ∙ ap (λ k. texts i 1 f ++ f k) m in
      let s : start i + length (line r) ≡ start (suc i) = omega (arith, ap length e, length-append (texts i 1 f) (line r)) in
      let d : drop (start i) text ≡ line r ++ texts (count - suc i) (1 + suc i) f = stands i h ∙ ap (λ k. line (row_numbers table ranges count k) ++ texts (count - suc i) (1 + suc i) f) m in
      fields_from_complete r 0 (replicate 5 (pos 0)) text (start i) (texts (count - suc i) (1 + suc i) f) (ten_digits (suc i) (omega arith) (omega arith)) d
      ∙ ap (five_read r) s

  pub line_there : (i : ℕ) → i < count → line_read text i ≡ five_read (row_numbers table ranges count (suc i)) (start (suc i))
  unfolding line_read texts
  line_there zero h = let e : length column_names ≡ start 0 = omega arith in ap (five_at text) e ∙ five_there 0 h
  line_there (suc i) h = ap (λ (l : Fields). five_at text l.next) (line_there i (omega arith)) ∙ five_there (suc i) h

  pub all_there : 0 < count → (line_read text (count - 1)).next ≡ length text
  unfolding listing
  all_there h =
      let n : suc (count - 1) ≡ count = omega arith in
      ap (λ (l : Fields). l.next) (line_there (count - 1) (omega arith)) ∙ ap start n ∙ sym (length-append column_names (texts count 1 f))

  pub reads_as_listing : 0 < count → ReadsAsListing table ranges count text
  reads_as_listing h =
      record {
        line_by_line = λ i l. let e = line_there i l in record { reads = ap (λ (f : Fields). f.ok) e; as_numbers = ap (λ (f : Fields). f.values) e };
        all = all_there h;
      }

pub reads_as_refusal : {r : Refusal} → TenDigits (pos r.number ∷ pos r.place ∷ []) → ReadsAsRefusal r (refusal_text r)
unfolding refusal_text
reads_as_refusal {r} short =
    let numbers : List ℤ = pos r.number ∷ pos r.place ∷ [] in
    let text : List ℕ = refusal_names ++ line numbers in
    let there : drop (length refusal_names) text ≡ line numbers ++ [] = drop-append_seam refusal_names (line numbers) ∙ sym (append-nil (line numbers)) in
    let e : refusal_read text ≡ record { ok = true; next = length refusal_names + length (line numbers); values = numbers } =
    fields_from_complete numbers 0 (replicate 2 (pos 0)) text (length refusal_names) [] short there in
    record {
      reads = ap (λ (f : Fields). f.ok) e;
      as_numbers = ap (λ (f : Fields). f.values) e;
      all = ap (λ (f : Fields). f.next) e ∙ sym (length-append refusal_names (line numbers));
    }
