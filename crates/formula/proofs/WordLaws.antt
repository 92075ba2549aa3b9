-- The number that a word is.
use Rattle.std.proofs.Common.{◌≡◌, refl, sym, ap, ◌∙◌, ℕ, ◌+◌, ◌≤◌, Bool, true, false, List, ◌∷◌, ◌++◌, length, take, drop, None, Some, ℤ, arith, length-take, length-drop, length-append}
use Rattle.std.specs.Prelude.{◌↔◌}
use Rattle.std.specs.Bool.{then_some}
use lib.Dec.{eqb}
use lib.Seq.{take-append_seam}
use borrow.Author.Tests.{eq-eqb, eqb-true}
use Rattle.sheet.specs.Number.{field_at}
use Rattle.sheet.specs.Results.{field}
use Rattle.sheet.specs.Text.{numeral}
use Rattle.sheet.specs.declared.number.Found.{Found}
use Rattle.sheet.proofs.Decimal.{numeral_width}
use Rattle.sheet.proofs.Numeral.{field_complete, field_sound}
use Rattle.sheet.proofs.Results.{field_one}
use Rattle.formula.specs.Words.{IsNumber}

-- a number fills no room of twelve bytes
pub long_word : (word taken : List ℕ) (room : ℕ) → take room word ≡ taken → 12 ≤ length taken → (z : ℤ) → ¬ IsNumber word z
long_word word taken room e h z n = omega (arith, ap length e, length-take room word, ap length n.text, numeral_width 9 z n.ten_digits)

-- ---- a number in a field

module _ (line taken rest : List ℕ) (is : line ≡ taken ++ (10 ∷ rest)) where
  number_read : (z : ℤ) → IsNumber taken z → field_at line 0 10 ≡ field (Some (record { value = z; next = length taken + 1 }))
  number_read z n =
      let e : drop 0 line ≡ numeral z ++ (10 ∷ rest) = is ∙ ap (λ (l : List ℕ). l ++ (10 ∷ rest)) n.text in
      let long : 0 + length (numeral z) + 1 ≡ length taken + 1 = omega (arith, ap length n.text) in
      rw (← long) (field_complete line 0 10 z rest n.ten_digits (omega arith) e)

  pub none_read : field None ≡ field_at line 0 10 → (z : ℤ) → ¬ IsNumber taken z
  none_read e z n = let q = field_one None (Some (record { value = z; next = length taken + 1 })) (e ∙ number_read z n) in absurd cc

  read_number : (x : Found ℤ) → field (Some x) ≡ field_at line 0 10 → x.next ≡ length taken + 1 → IsNumber taken x.value
  read_number x e h =
      let st = field_sound line 0 10 x.value x.next (omega arith) (omega arith) (sym e) in
      let same : taken ++ (10 ∷ rest) ≡ numeral x.value ++ (10 ∷ drop x.next line) = sym is ∙ st.is in
      let split = length-append (numeral x.value) (10 ∷ drop x.next line) in
      let long : length (numeral x.value) ≡ length taken = omega (arith, split, ap length st.is, length-drop x.next line, st.upto, h) in
      let text : taken ≡ numeral x.value =
      sym (take-append_seam taken (10 ∷ rest)) ∙ ap (take (length taken)) same ∙ ap (λ (k : ℕ). take k (numeral x.value ++ (10 ∷ drop x.next line))) (sym long) ∙ take-append_seam (numeral x.value) (10 ∷ drop x.next line) in
      record { text = text; ten_digits = st.small }

  told : (b : Bool) (x : Found ℤ) (z : ℤ) → then_some b x.value ≡ Some z → (b ≡ true) × (x.value ≡ z)
  told true x z e = (refl, cc)
  told false x z e = absurd cc

  pub some_read : (x : Found ℤ) → field (Some x) ≡ field_at line 0 10 → (z : ℤ) → (then_some (eqb x.next (length taken + 1)) x.value ≡ Some z) ↔ IsNumber taken z
  some_read x e z = (
    λ h. let t = told (eqb x.next (length taken + 1)) x z h in rw t.1 at (read_number x e (eqb-true x.next (length taken + 1) t.0)),
    λ n.
        let q = field_one (Some x) (Some (record { value = z; next = length taken + 1 })) (e ∙ number_read z n) in
        let p : x ≡ record { value = z; next = length taken + 1 } = cc in
        rw (p, eq-eqb (length taken + 1) (length taken + 1) refl) refl,
  )
