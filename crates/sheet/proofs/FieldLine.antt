-- A line of fields: one field more for the loops, and both laws of a whole line, by induction over its fields.
use mathlib.Core.Path.{◌≡◌, refl, sym, ap, ◌∙◌}
use mathlib.Core.Bool.{true}
use mathlib.Core.List.{List, [], ◌∷◌, ◌++◌, append_assoc}
use Prim.Native.Nat.{ℕ, zero, suc, ◌+◌, ◌-◌, ◌*◌, ◌≤◌, ◌<◌}
use native.Mathlib.Nat.{add-zero}
use native.Mathlib.Numerals.{add-one}
use native.Mathlib.Omega.{arith}
use lib.ListN.{length, drop, get_or, set, length-append}
use lib.Seq.{sets, drop-drop, drop-append_seam}
use lib.IntN.{ℤ, pos, negsuc, nat_abs}
use mir.Syntax.{w64}
use mir.Val.{SFits}
use Rattle.sheet.specs.Number.{field_at, digit_of}
pub use Rattle.sheet.specs.Text.{TenDigits, none, one}
use Rattle.sheet.specs.Text.{numeral, end_byte, line}
use Rattle.sheet.specs.Reading.{on_field, zeros, padded, no_fields, fields_from, fields_at}
use Rattle.sheet.specs.Answers.{Field, Number, Broken, Fields}
use Rattle.sheet.proofs.Decimal.{numeral_short}
use Rattle.sheet.proofs.Numeral.{field_sound, field_complete}

pub end_byte_above_zero : (k : ℕ) → 0 < end_byte k
end_byte_above_zero zero = omega arith
end_byte_above_zero (suc k) = omega arith

end_byte_no_digit : (k : ℕ) → 10 ≤ digit_of (end_byte k)
end_byte_no_digit zero = omega arith
end_byte_no_digit (suc k) = omega arith

-- the loop of `fields_at`
module _ (s : List ℕ) (k i p : ℕ) (v : List ℤ) (h : i < k) where
  left : k - i ≡ suc (k - (i + 1))
  left = omega arith

  pub fields_more : (x : ℤ) (n : ℕ) → field_at s p (end_byte (k - (i + 1))) ≡ Number x n
      → fields_from (k - i) i v s p ≡ fields_from (k - (i + 1)) (i + 1) (set v i x) s n
  unfolding fields_from
  fields_more x n e = rw (left, e, ← add-one i)

  pub fields_broken : field_at s p (end_byte (k - (i + 1))) ≡ Broken → fields_from (k - i) i v s p ≡ no_fields
  unfolding fields_from
  fields_broken e = rw (left, e)

pub fields_done : (s : List ℕ) (k i p : ℕ) (v : List ℤ) → k ≤ i → fields_from (k - i) i v s p ≡ record { ok = true; next = p; values = v }
unfolding fields_from
fields_done s k i p v h = let e : k - i ≡ 0 = omega arith in rw e

-- ten digits fit the machine's numbers
pub ten_digits_fit : (z : ℤ) → nat_abs z < 10000000000 → SFits w64 z
ten_digits_fit (pos n) h = record { sfits = omega arith }
ten_digits_fit (negsuc n) h = record { sfits = omega arith }

-- what stands behind a text
pub behind : (s : List ℕ) (at : ℕ) (xs rest : List ℕ) → drop at s ≡ xs ++ rest → drop (at + length xs) s ≡ rest
behind s at xs rest e = sym (drop-drop (length xs) at s) ∙ ap (drop (length xs)) e ∙ drop-append_seam xs rest

-- where the next line starts
pub fields_within : (k i : ℕ) (v : List ℤ) (s : List ℕ) (at : ℕ) → at ≤ length s → (fields_from k i v s at).next ≤ length s
unfolding fields_from
fields_within zero i v s at g = g
fields_within (suc k) i v s at g = go (field_at s at (end_byte k)) refl (λ x n b. fields_within k (suc i) (set v i x) s n b)
  where
    go : (f : Field) → field_at s at (end_byte k) ≡ f → ((x : ℤ) (n : ℕ) → n ≤ length s → (fields_from k (suc i) (set v i x) s n).next ≤ length s)
        → (on_field f (λ x n. fields_from k (suc i) (set v i x) s n) no_fields).next ≤ length s
    go (Number x n) e r = r x n (field_sound s at (end_byte k) x n (end_byte_above_zero k) g e).upto
    go Broken e r = omega arith

pub fields_at_within : (s : List ℕ) (at k : ℕ) → at ≤ length s → (fields_at s at k).next ≤ length s
unfolding fields_at
fields_at_within s at k g = fields_within k 0 zeros s at g

-- an accepted line is the text of the numbers read
pub record FieldsAre (s : List ℕ) (at k i : ℕ) (v : List ℤ) (r : Fields) : Type 0 where
  pub xs : List ℤ
  pub count : length xs ≡ k
  pub short : TenDigits xs
  pub is : drop at s ≡ line xs ++ drop r.next s
  pub upto : r.next ≤ length s
  pub into : r.values ≡ sets v i xs

fields_from_sound : (k i : ℕ) (v : List ℤ) (s : List ℕ) (at : ℕ) → at ≤ length s → (fields_from k i v s at).ok ≡ true → FieldsAre s at k i v (fields_from k i v s at)
unfolding fields_from line
fields_from_sound zero i v s at g = λ e. record { xs = []; count = refl; short = none; is = refl; upto = g; into = refl }
fields_from_sound (suc k) i v s at g = go (field_at s at (end_byte k)) refl (λ x n b. fields_from_sound k (suc i) (set v i x) s n b)
  where
    R : Field → Fields
    R f = on_field f (λ x n. fields_from k (suc i) (set v i x) s n) no_fields

    go : (f : Field) → field_at s at (end_byte k) ≡ f
        → ((x : ℤ) (n : ℕ) → n ≤ length s → (fields_from k (suc i) (set v i x) s n).ok ≡ true → FieldsAre s n k (suc i) (set v i x) (fields_from k (suc i) (set v i x) s n))
        → (R f).ok ≡ true → FieldsAre s at (suc k) i v (R f)
    go (Number x n) e ih o =
        let st = field_sound s at (end_byte k) x n (end_byte_above_zero k) g e in
        let r = ih x n st.upto o in
        record {
          xs = x ∷ r.xs;
          count = ap suc r.count;
          short = one st.small r.short;
          is = st.is ∙ rw r.count (ap (λ (l : List ℕ). numeral x ++ (end_byte k ∷ l)) r.is ∙ sym (append_assoc (numeral x) (end_byte k ∷ line r.xs) (drop (R (Number x n)).next s)));
          upto = r.upto;
          into = r.into;
        }
    go Broken e ih o = absurd (let y : ◌≡◌ {A = ℕ} 0 1 = cc in omega arith)

pub fields_sound : (s : List ℕ) (at k : ℕ) → at ≤ length s → (fields_at s at k).ok ≡ true → FieldsAre s at k 0 zeros (fields_at s at k)
unfolding fields_at
fields_sound s at k g o = fields_from_sound k 0 zeros s at g o

-- the text of numbers is read as these numbers
pub fields_from_complete : (xs : List ℤ) (i : ℕ) (v : List ℤ) (s : List ℕ) (at : ℕ) (rest : List ℕ) → TenDigits xs → drop at s ≡ line xs ++ rest
    → fields_from (length xs) i v s at ≡ record { ok = true; next = at + length (line xs); values = sets v i xs }
unfolding fields_from line
fields_from_complete [] i v s at rest none e = rw add-zero
fields_from_complete (x ∷ xs) i v s at rest (one h hs) e =
    let t : ℕ = end_byte (length xs) in
    let m : ℕ = at + length (numeral x) + 1 in
    let e1 : drop at s ≡ numeral x ++ (t ∷ (line xs ++ rest)) = e ∙ append_assoc (numeral x) (t ∷ line xs) rest in
    let m2 : at + length (numeral x ++ (t ∷ [])) ≡ m = rw length-append (omega arith) in
    let e2 : drop m s ≡ line xs ++ rest = rw m2 at (behind s at (numeral x ++ (t ∷ [])) (line xs ++ rest) (e1 ∙ sym (append_assoc (numeral x) (t ∷ []) (line xs ++ rest)))) in
    let a : m + length (line xs) ≡ at + length (numeral x ++ (t ∷ line xs)) = rw length-append (omega arith) in
    simp (field_complete s at t x (line xs ++ rest) h (end_byte_no_digit (length xs)) e1) (fields_from_complete xs (suc i) (set v i x) s m rest hs e2 ∙ rw a)

pub fields_complete : (xs : List ℤ) (s : List ℕ) (at : ℕ) (rest : List ℕ) → TenDigits xs → drop at s ≡ line xs ++ rest
    → fields_at s at (length xs) ≡ record { ok = true; next = at + length (line xs); values = padded xs }
unfolding fields_at
fields_complete xs s at rest h e = fields_from_complete xs 0 zeros s at rest h e

-- the first i fields of a line, as `put_fields` writes them
unfoldable pub front : ℕ → List ℤ → List ℕ
front zero xs = []
front (suc i) [] = []
front (suc i) (x ∷ xs) = numeral x ++ (end_byte (length xs) ∷ front i xs)

pub front_more : (i : ℕ) (xs : List ℤ) → i < length xs
    → front (i + 1) xs ≡ front i xs ++ (numeral (get_or xs i (pos 0)) ++ (end_byte (length xs - (i + 1)) ∷ []))
unfolding front
front_more i xs h = rw add-one (go i xs h)
  where
    go : (i : ℕ) (xs : List ℤ) → i < length xs → front (suc i) xs ≡ front i xs ++ (numeral (get_or xs i (pos 0)) ++ (end_byte (length xs - suc i) ∷ []))
    go i [] h = absurd (omega arith)
    go zero (x ∷ xs) h = let e : suc (length xs) - 1 ≡ length xs = omega arith in rw e
    go (suc i) (x ∷ xs) h =
        let e : suc (length xs) - suc (suc i) ≡ length xs - suc i = omega arith in
        rw e (ap (λ (l : List ℕ). numeral x ++ (end_byte (length xs) ∷ l)) (go i xs (omega arith))
        ∙ sym (append_assoc (numeral x) (end_byte (length xs) ∷ front i xs) _))

pub front_all : (i : ℕ) (xs : List ℤ) → length xs ≤ i → front i xs ≡ line xs
unfolding front line
front_all zero [] h = refl
front_all zero (x ∷ xs) h = absurd (omega arith)
front_all (suc i) [] h = refl
front_all (suc i) (x ∷ xs) h = ap (λ (l : List ℕ). numeral x ++ (end_byte (length xs) ∷ l)) (front_all i xs (omega arith))

pub front_short : (i : ℕ) (xs : List ℤ) → length (front i xs) ≤ length (line xs)
unfolding front line
front_short zero xs = omega arith
front_short (suc i) [] = omega arith
front_short (suc i) (x ∷ xs) =
    rw (length-append (numeral x) (end_byte (length xs) ∷ front i xs), length-append (numeral x) (end_byte (length xs) ∷ line xs)) (omega (arith, front_short i xs))

pub front_room : (i : ℕ) (xs : List ℤ) → i < length xs
    → length (front i xs) + length (numeral (get_or xs i (pos 0)) ++ (end_byte (length xs - (i + 1)) ∷ [])) ≤ length (line xs)
front_room i xs h =
    omega (
      arith,
      front_short (i + 1) xs,
      ap length (front_more i xs h),
      length-append (front i xs) (numeral (get_or xs i (pos 0)) ++ (end_byte (length xs - (i + 1)) ∷ [])),
    )

-- a field has 22 bytes at the most
pub line_short : (xs : List ℤ) → length (line xs) ≤ 22 * length xs
unfolding line
line_short [] = omega arith
line_short (x ∷ xs) = rw (length-append (numeral x) (end_byte (length xs) ∷ line xs)) (omega (arith, numeral_short x, line_short xs))
